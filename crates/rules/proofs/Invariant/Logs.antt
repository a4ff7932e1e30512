-- The logs of nodes that never crashed: what keeps them at a step, and what they still hold.
use Prim.Native.Nat.{ℕ, ◌<◌, ◌≤◌}
use mathlib.Core.Path.{◌≡◌, sym, ap, subst, ◌∙◌, refl}
use mathlib.Core.Logic.{◌⊎◌, inl, inr}
use mathlib.Core.Bool.{Bool, false}
use mathlib.Core.List.{List, [], ◌++◌, map, map-map, append_assoc}
use native.Mathlib.Omega.{arith}
use lib.ListN.{length, drop}
use lib.Dec.{ltb}
use Rattle.plan.specs.Plan.{channel_at, channel_count, is_sink}
use Rattle.rules.specs.Lists.{keep}
use Rattle.rules.specs.Line.{Message, Entry, Target, Node, Lane, Line, node_at, lane_at, parents}
use Rattle.rules.specs.Clock.{message_of, entry_for}
use Rattle.rules.specs.Recover.{low_of, child_triples, low_through, restored}
use Rattle.rules.proofs.Lists.ListLaws.{keep_append, map-append, nil_right}
use Rattle.rules.proofs.Lists.Rising.{past, Within, past_none}
use Rattle.rules.proofs.Lists.Members.{In, keep_in, map_in, within_by}
use Rattle.rules.proofs.Histories.Ghost.{Event, Ghost, event_time, entry_of, sent_of, takes_message, put, log_put}
use Rattle.rules.proofs.Ending.Targets.{in_triples_at, triples_at_in, low_below, low_above, low_restored, triple-restored, restored_cases}
use Rattle.rules.proofs.Histories.Passing.{recorded, recorded_put}
use Rattle.rules.proofs.Invariant.Inv.{time_of, Enters, Leaves, UnmarkedChildren, Logged}
use Rattle.rules.proofs.Invariant.Stays.{moved}

-- What never falls at a step: the entries of nodes that never crashed, and what stands in their logs.
pub record Grows (l k : Line) : Type 0 where
  pub marks : (m : ℕ) → (node_at k m).crashed ≡ false → (node_at l m).crashed ≡ false
  pub entries : (c : ℕ) → c < channel_count l.plan → (node_at k (channel_at l.plan c).receiver).crashed ≡ false → (lane_at l c).taken ≤ (lane_at k c).taken
  pub lows : (c : ℕ) → c < channel_count l.plan → (node_at k (channel_at l.plan c).receiver).crashed ≡ false → (lane_at k c).low ≡ (lane_at l c).low
  pub entered : (m : ℕ) → (node_at k m).crashed ≡ false → (d : Entry) → In d (node_at l m).log → In d (node_at k m).log

module _ (l : Line) (steps : List ℕ) (nodes : List Node) (lanes : List Lane) where
  abbrev k : Line
  k = moved l steps nodes lanes

  -- A restored entry does not fall where low does not, and what it is made of stays in a log or in a low clock.
  pub restored-rises : (n a : ℕ) → low_of l n ≤ low_of k n → ((c : ℕ) → Leaves l.plan n c → low_through l n a c ≤ low_through k n a c)
      → ((u : Target) → In u (child_triples l n) → u.parent ≡ a → u.time ≤ low_of l n → In u (child_triples k n) ⊎ (u.parent_time ≤ restored k n a)) → restored l n a ≤ restored k n a
  restored-rises n a low lows found =
      elim (restored_cases l n a) [
        | inl z ↦ omega (arith, z)
        | inr (inl (c, h, s, q)) ↦ omega (arith, q, lows c (h, s), low_restored k n a c h s)
        | inr (inr (u, i, parent, upto, q)) ↦ elim (found u i parent upto) [
          | inl j ↦ (let there = triple-restored k n a u j parent (omega (arith, low, upto)) in omega (arith, q, there))
          | inr h ↦ omega (arith, q, h)
        ]
      ]

  -- So where the children's entries do not fall, their logs lose nothing and their low clocks are as they were.
  pub restored_grows : (n a : ℕ) → is_sink l.plan n ≡ false → ((c : ℕ) → Leaves l.plan n c → (lane_at l c).taken ≤ (lane_at k c).taken) → ((c : ℕ) → Leaves l.plan n c → (lane_at k c).low ≡ (lane_at l c).low)
      → ((c : ℕ) → Leaves l.plan n c → (d : Entry) → In d (node_at l (channel_at l.plan c).receiver).log → In d (node_at k (channel_at l.plan c).receiver).log) → restored l n a ≤ restored k n a
  restored_grows n a some entries lows entered =
      restored-rises n a (low_above k n some (λ c h q. (let e = entries c (h, q) in omega (arith, low_below l n c h q)))) (λ c h. omega (arith, ap (λ (x : List ℕ). entry_for a (parents l.plan n) (drop 1 x)) (lows c h)))
      (λ u i parent upto.
      (let at = triples_at_in l n u i in
      inl (in_triples_at k n u (record {
        channel = at.channel;
        on_plan = at.on_plan;
        leaves = at.leaves;
        entry = at.entry;
        is_logged = entered at.channel (at.on_plan, at.leaves) at.entry at.is_logged;
        origin_is = at.origin_is;
        before_is = at.before_is;
      }))))

  module _ (grows : Grows l k) (g g' : Ghost) (n : ℕ) (unmarked-now : (node_at k n).crashed ≡ false) where
    low_same : (b : ℕ) → Enters l.plan n b → (lane_at k b).low ≡ (lane_at l b).low
    low_same b h = grows.lows b h.0 (ap (λ (x : ℕ). (node_at k x).crashed) h.1 ∙ unmarked-now)

    children_were : (c : ℕ) → UnmarkedChildren k c → UnmarkedChildren l c
    children_were c f d h = grows.marks (channel_at l.plan d).receiver (f d h)

    -- The node's log may grow by more events.
    pub logged_by : (more : List Event) → (node_at k n).log ≡ (node_at l n).log ++ map (entry_of l.plan n) more → recorded l.plan n (g' n) ≡ recorded l.plan n (g n) ++ more → Logged l g n → Logged k g' n
    logged_by more log events was =
        record {
          gone = was.gone;
          kept = was.kept ++ more;
          split = events ∙ ap (λ (x : List Event). x ++ more) was.split ∙ append_assoc was.gone was.kept more;
          log_is = log ∙ ap (λ (x : List Entry). x ++ map (entry_of l.plan n) more) was.log_is ∙ sym (map-append (entry_of l.plan n) was.kept more);
          reached = λ e i c h m. (let up = grows.entries c h.0 m in omega (arith, was.reached e i c h (grows.marks (channel_at l.plan c).receiver m)));
          restored_past = λ e i c h some unmarked.
              (let old = was.restored_past e i c h some (children_were (channel_at l.plan c).receiver unmarked) in
              omega (arith, old, restored_grows (channel_at l.plan c).receiver n some (λ d j. grows.entries d j.0 (unmarked d j)) (λ d j. grows.lows d j.0 (unmarked d j)) (λ d j x z. grows.entered (channel_at l.plan d).receiver (unmarked d j) x z)));
          input_reached = λ b m t i c h x. (let up = grows.entries c h.0 x in omega (arith, was.input_reached b m t i c h (grows.marks (channel_at l.plan c).receiver x)));
          low_long = λ b h. ap length (low_same b h) ∙ was.low_long b h;
          low_from = λ b h a. rw (low_same b h) (was.low_from b h a);
          low_of_lem = λ b h m t i a u j q. rw (low_same b h) (was.low_of_lem b h m t i a u j q);
        }

    pub logged_stays : node_at k n ≡ node_at l n → recorded l.plan n (g' n) ≡ recorded l.plan n (g n) → Logged l g n → Logged k g' n
    logged_stays same events = logged_by [] (ap (λ (x : Node). x.log) same ∙ sym (nil_right (node_at l n).log)) (events ∙ sym (nil_right (recorded l.plan n (g n))))

-- Past a time that no gone event is past, the log holds all that the node put on a channel.
pub log_late : (l : Line) (g : Ghost) (c : ℕ) → c < channel_count l.plan → (t : ℕ) (s : Logged l g (channel_at l.plan c).sender) → ((e : Event) → In e s.gone → event_time e ≤ t) → past time_of t (log_put l c) ≡ past time_of t (put l.plan g c)
unfolding log_put put
log_late l g c on_plan t s early =
    let n = (channel_at l.plan c).sender in
    let fits = takes_message l.plan c in
    let made = sent_of l.plan n in
    let log : keep fits (map message_of (node_at l n).log) ≡ keep fits (map made s.kept) =
    ap (λ (x : List Entry). keep fits (map message_of x)) s.log_is ∙ ap (keep fits) (map-map message_of (entry_of l.plan n) s.kept) in
    let puts : keep fits (map made (g n)) ≡ keep fits (map made s.gone) ++ keep fits (map made s.kept) =
    sym (recorded_put l.plan n c on_plan refl (g n)) ∙ ap (λ (x : List Event). keep fits (map made x)) s.split ∙ ap (keep fits) (map-append made s.gone s.kept) ∙ keep_append fits (map made s.gone) (map made s.kept) in
    let within : Within time_of t (keep fits (map made s.gone)) = within_by time_of (keep fits (map made s.gone))
    (λ x i. (let (j, _) = keep_in fits (map made s.gone) i in let (e, k, q) = map_in made s.gone j in subst (λ (y : Message). y.time ≤ t) (sym q) (early e k))) in
    ap (past time_of t) log
    ∙ sym (ap (past time_of t) puts ∙ keep_append (late t) (keep fits (map made s.gone)) (keep fits (map made s.kept)) ∙ ap (λ (x : List Message). x ++ past time_of t (keep fits (map made s.kept))) (past_none time_of within))
  where
    late : ℕ → Message → Bool
    late k m = ltb k m.time
