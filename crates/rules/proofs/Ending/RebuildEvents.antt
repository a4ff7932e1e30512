-- The history that a recovered node is given, seen from its entering and from its leaving channels.
use Prim.Native.Nat.{ℕ, ◌<◌, ◌≤◌}
use mathlib.Core.Path.{◌≡◌, refl, sym, ap, subst, ◌∙◌}
use mathlib.Core.Logic.{◌⊎◌, inl, inr}
use mathlib.Core.Bool.{Bool, true}
use mathlib.Core.List.{List, [], ◌++◌, map}
use native.Mathlib.Omega.{arith}
use native.Mathlib.Decide.{dec_le}
use lib.Dec.{leb}
use borrow.Author.Tests.{le-leb, leb-true}
use Rattle.plan.specs.Rule.{applied}
use Rattle.plan.specs.Channel.{takes}
use Rattle.plan.specs.Plan.{rule_at, channel_at}
use Rattle.basics.specs.Update.{changed, changed_there}
use Rattle.rules.specs.Lists.{keep}
use Rattle.rules.specs.Line.{Message, replay, Line, node_at, lane_at}
use Rattle.rules.specs.Recover.{row_goal}
use Rattle.rules.specs.Plain.{Act, Receipt}
use Rattle.rules.proofs.Lists.ListLaws.{keep_append}
use Rattle.rules.proofs.Lists.Rising.{until, past, Rises, Within, past_none, within_until, within_higher, rises-keep, within-keep, until_until, rises-append, within-append, rises-map, within-map}
use Rattle.rules.proofs.Lists.Members.{In, in_keep, keep_in, in_map, map_in, in_left, in_right, append_in, rises_same}
use Rattle.rules.proofs.Histories.Witness.{Taken}
use Rattle.rules.proofs.Histories.Ghost.{Event, took_at, Ghost, event_time, input_of, sent_of, takes_message, put, got, got_of}
use Rattle.rules.proofs.Histories.Passing.{passing, goes_on}
use Rattle.rules.proofs.Histories.Carried.{put_in, in_put, taken_event}
use Rattle.rules.proofs.Ending.Leaving.{put_passing, taken_until}
use Rattle.rules.proofs.Ending.Rebuilt.{rebuilt, ends_held, rebuilt_got, rebuilt_taken, rebuilt_passing}
use Rattle.rules.proofs.Invariant.Inv.{time_of, Enters, Leaves, Reached, Row, Inv}
use Rattle.rules.proofs.Invariant.InvLaws.{replay_marked}
use Rattle.rules.proofs.Invariant.MarkedLaws.{own, goal_message}

-- What must hold of the events placed, so that node n may go on with them at time T.
pub record Rebuilding (l : Line) (g : Ghost) (base : ℕ → ℕ) (n T : ℕ) (fs : List Event) : Type 0 where
  pub took : Taken l.plan n (map input_of fs)
  pub rises : Rises event_time (node_at l n).time fs
  pub within : Within event_time T fs
  pub got_is : (b : ℕ) → Enters l.plan n b → got_of b fs ≡ keep (goes_on l.plan n) (past time_of (base b) (until time_of (lane_at l b).taken (put l.plan g b)))
  pub complete : (b : ℕ) → Enters l.plan n b → row_goal (node_at l n).targets (channel_at l.plan b).sender ≤ (lane_at l b).taken
  pub low : (node_at l n).time ≤ T
  pub high : (c : ℕ) → Leaves l.plan n c → (lane_at l c).taken ≤ T
  pub reached_placed : (b : ℕ) (m : Message) (t : ℕ) → In (took_at b m t) (g n) → (node_at l n).time < t → Reached l n m t → In (took_at b m t) fs
  pub placed_reached : (b : ℕ) (m : Message) (t : ℕ) → In (took_at b m t) fs → (c : ℕ) → Leaves l.plan n c → takes (channel_at l.plan c) (applied (rule_at l.plan n) m.what) ≡ true → t ≤ (lane_at l c).taken → In (took_at b m t) (g n)

module _ (l : Line) (g : Ghost) (cut base : ℕ → ℕ) (fed : List Act) (receipts : List Receipt) (crashes : List ℕ) (inv : Inv l g cut base fed receipts crashes) (n : ℕ) (replaying : (node_at l n).status ≡ replay)
    (T : ℕ) (fs : List Event) (r : Rebuilding l g base n T fs) where
  abbrev pub row : ℕ → List Message
  row b = until time_of (lane_at l b).taken (put l.plan g b)

  abbrev pub events : List Event
  events = rebuilt base row (g n) fs

  abbrev pub ghost : Ghost
  ghost = changed g n events

  marked : (node_at l n).crashed ≡ true
  marked = replay_marked inv.marks n replaying

  took_own : Taken l.plan n (map input_of (g n))
  took_own = own inv n marked

  row_rises : (b : ℕ) → Enters l.plan n b → Rises time_of 0 (row b)
  row_rises b h = rises-keep time_of (λ (m : Message). leb m.time (lane_at l b).taken) (inv.channels b h.0).rises

  whole : (b : ℕ) → Enters l.plan n b → (k : ℕ) → base b ≤ k → keep (goes_on l.plan n) (past time_of k (row b)) ≡ [] → past time_of k (row b) ≡ []
  whole b h = ends_held l.plan n (base b) (row b) (last_held (dec_le G (base b)))
    where
      G : ℕ
      G = row_goal (node_at l n).targets (channel_at l.plan b).sender

      R : Row l g (cut b) (base b) n b
      R = (inv.replays n replaying).rows b h

      last_held : Dec (row_goal (node_at l n).targets (channel_at l.plan b).sender ≤ base b) → (past time_of (base b) (row b) ≡ []) ⊎ ((m : Message) × In m (row b) × (goes_on l.plan n m ≡ true) × Within time_of m.time (row b))
      last_held (yes z) = inl (past_none time_of (within_higher time_of (omega (arith, R.to_goal)) (within_until time_of (lane_at l b).taken (put l.plan g b))))
      last_held (no z) =
          let (m, i, e, q) = goal_message inv n replaying b h (λ y. z (omega arith)) in
          let at : m.time ≡ (lane_at l b).taken = omega (arith, q, R.to_goal, r.complete b h) in
          inr (
            m,
            in_keep (λ (x : Message). leb x.time (lane_at l b).taken) i (le-leb m.time (lane_at l b).taken (omega (arith, at))),
            e,
            within_higher time_of (omega (arith, at)) (within_until time_of (lane_at l b).taken (put l.plan g b)),
          )

  -- What it got of each entering channel.
  pub got_rebuilt : (b : ℕ) → Enters l.plan n b → got_of b events ≡ row b
  unfolding got
  got_rebuilt b h =
      let R = (inv.replays n replaying).rows b h in
      rebuilt_got l.plan n base row (g n) fs b (row_rises b h)
      (ap (λ (k : ℕ). until time_of (base b) (got_of b (g k))) (sym h.1) ∙ ap (until time_of (base b)) (inv.channels b h.0).cut_is
      ∙ until_until time_of (base b) (cut b) R.base_got (put l.plan g b) ∙ sym (until_until time_of (base b) (lane_at l b).taken R.base_taken (put l.plan g b)))
      (r.got_is b h) (whole b h)

  pub took_rebuilt : Taken l.plan n (map input_of events)
  took_rebuilt = rebuilt_taken l.plan n base row (g n) fs took_own r.took

  -- What it passes on.
  pub passing_rebuilt : passing l.plan n events ≡ until time_of (node_at l n).time (passing l.plan n (g n)) ++ map (sent_of l.plan n) fs
  passing_rebuilt = rebuilt_passing l.plan n base row (g n) fs (node_at l n).time took_own r.took (inv.replays n replaying).base_cuts row_rises r.got_is

  pub rise_rebuilt : Rises time_of 0 (passing l.plan n events)
  rise_rebuilt =
      subst (λ (x : List Message). Rises time_of 0 x) (sym passing_rebuilt)
      (rises-append time_of (omega arith) (rises-keep time_of (λ (m : Message). leb m.time (node_at l n).time) (inv.events n).rise) (within_until time_of (node_at l n).time (passing l.plan n (g n))) (rises-map (sent_of l.plan n) time_of r.rises))

  pub within_rebuilt : Within time_of T (passing l.plan n events)
  within_rebuilt =
      subst (λ (x : List Message). Within time_of T x) (sym passing_rebuilt)
      (within-append time_of (within_higher time_of r.low (within_until time_of (node_at l n).time (passing l.plan n (g n)))) (within-map (sent_of l.plan n) time_of r.within))

  -- A leaving channel.
  module _ (c : ℕ) (h : Leaves l.plan n c) where
    new_put : put l.plan ghost c ≡ keep (takes_message l.plan c) (passing l.plan n events)
    new_put = put_passing l.plan n c h.0 h.1 ghost ∙ ap (λ (x : List Event). keep (takes_message l.plan c) (passing l.plan n x)) (changed_there g n events n refl)

    old_put : put l.plan g c ≡ keep (takes_message l.plan c) (passing l.plan n (g n))
    old_put = put_passing l.plan n c h.0 h.1 g

    pub put_rebuilt : put l.plan ghost c ≡ until time_of (node_at l n).time (put l.plan g c) ++ keep (takes_message l.plan c) (map (sent_of l.plan n) fs)
    put_rebuilt =
        new_put ∙ ap (keep (takes_message l.plan c)) passing_rebuilt ∙ keep_append (takes_message l.plan c) (until time_of (node_at l n).time (passing l.plan n (g n))) (map (sent_of l.plan n) fs)
        ∙ ap (λ (x : List Message). x ++ keep (takes_message l.plan c) (map (sent_of l.plan n) fs)) (taken_until l.plan c (node_at l n).time (passing l.plan n (g n)) ∙ ap (until time_of (node_at l n).time) (sym old_put))

    pub put-rises : Rises time_of 0 (put l.plan ghost c)
    put-rises = subst (λ (x : List Message). Rises time_of 0 x) (sym new_put) (rises-keep time_of (takes_message l.plan c) rise_rebuilt)

    pub put-within : Within time_of T (put l.plan ghost c)
    put-within = subst (λ (x : List Message). Within time_of T x) (sym new_put) (within-keep time_of (takes_message l.plan c) within_rebuilt)

    -- A message put on the channel up to the child's entry: still there, and none is new.
    still_put : (x : Message) → In x (put l.plan g c) → x.time ≤ (lane_at l c).taken → In x (put l.plan ghost c)
    still_put x i late =
        let (e, j, q, k) = put_in l.plan g c x i in
        let own-event : In e (g n) = subst (λ (z : ℕ). In e (g z)) h.1 j in
        let from = taken_event l.plan n (g n) took_own own-event in
        let made_of_lem : x ≡ sent_of l.plan n (took_at from.channel from.message from.time) = q ∙ ap (λ (z : ℕ). sent_of l.plan z e) h.1 ∙ ap (sent_of l.plan n) from.is in
        elim (dec_le x.time (node_at l n).time) [
          | yes low ↦ subst (λ (z : List Message). In x z) (sym put_rebuilt) (in_left (keep (takes_message l.plan c) (map (sent_of l.plan n) fs)) (in_keep (λ (z : Message). leb z.time (node_at l n).time) i (le-leb x.time (node_at l n).time low)))
          | no high ↦
              (let t : x.time ≡ from.time = ap (λ (z : Message). z.time) made_of_lem in
              let placed = r.reached_placed from.channel from.message from.time (subst (λ (z : Event). In z (g n)) from.is own-event) (omega (arith, t))
              (record { channel = c; on_plan = h.0; leaves = h.1; takes_it = ap (λ (z : Message). takes_message l.plan c z) (sym made_of_lem) ∙ k; in_time = omega (arith, t) }) in
              subst (λ (z : List Message). In x z) (sym put_rebuilt)
              (in_right (until time_of (node_at l n).time (put l.plan g c)) (in_keep (takes_message l.plan c) (subst (λ (z : Message). In z (map (sent_of l.plan n) fs)) (sym made_of_lem) (in_map (sent_of l.plan n) placed)) k)))
        ]

    none_new : (x : Message) → In x (put l.plan ghost c) → x.time ≤ (lane_at l c).taken → In x (put l.plan g c)
    none_new x i late =
        elim (append_in (until time_of (node_at l n).time (put l.plan g c)) (subst (λ (z : List Message). In x z) put_rebuilt i)) [
          | inl j ↦ (keep_in (λ (z : Message). leb z.time (node_at l n).time) (put l.plan g c) j).0
          | inr j ↦
              (let (k, q) = keep_in (takes_message l.plan c) (map (sent_of l.plan n) fs) j in
              let (e, on, is) = map_in (sent_of l.plan n) fs k in
              let from = taken_event l.plan n fs r.took on in
              let made_of_lem : x ≡ sent_of l.plan n (took_at from.channel from.message from.time) = is ∙ ap (sent_of l.plan n) from.is in
              let t : x.time ≡ from.time = ap (λ (z : Message). z.time) made_of_lem in
              let was = r.placed_reached from.channel from.message from.time (subst (λ (z : Event). In z fs) from.is on) c h (ap (λ (z : Message). takes_message l.plan c z) (sym made_of_lem) ∙ q) (omega (arith, t)) in
              subst (λ (z : Message). In z (put l.plan g c)) (sym (made_of_lem ∙ ap (λ (z : ℕ). sent_of l.plan z (took_at from.channel from.message from.time)) (sym h.1)))
              (in_put l.plan g c (took_at from.channel from.message from.time) (subst (λ (z : ℕ). In (took_at from.channel from.message from.time) (g z)) (sym h.1) was)
              (ap (λ (z : ℕ). takes_message l.plan c (sent_of l.plan z (took_at from.channel from.message from.time))) h.1 ∙ ap (λ (z : Message). takes_message l.plan c z) (sym made_of_lem) ∙ q)))
        ]

    -- Up to the child's entry, what was put on the channel is what it was.
    pub until_rebuilt : until time_of (lane_at l c).taken (put l.plan ghost c) ≡ until time_of (lane_at l c).taken (put l.plan g c)
    until_rebuilt =
        let f : Message → Bool = λ x. leb x.time (lane_at l c).taken in
        rises_same time_of (rises-keep time_of f put-rises) (rises-keep time_of f (inv.channels c h.0).rises)
        (λ x i. (let (j, e) = keep_in f (put l.plan ghost c) i in in_keep f (none_new x j (leb-true x.time (lane_at l c).taken e)) e))
        (λ x i. (let (j, e) = keep_in f (put l.plan g c) i in in_keep f (still_put x j (leb-true x.time (lane_at l c).taken e)) e))
