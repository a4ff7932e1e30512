-- A node that has crashed: its neighbours, which have not, the events that it had, and its rows' goals.
use Prim.Native.Nat.{ℕ, ◌<◌, ◌≤◌}
use mathlib.Core.Path.{◌≡◌, sym, ap, subst, ◌∙◌}
use mathlib.Core.Logic.{◌≢◌, inl, inr}
use mathlib.Core.Bool.{Bool, true, false, true≢false}
use mathlib.Core.List.{List, map}
use native.Mathlib.Omega.{arith}
use native.Mathlib.Decide.{ℕ_discrete}
use lib.Dec.{leb, eqb}
use borrow.Author.Tests.{eqb-true, leb-true, le-leb}
use Rattle.plan.specs.Plan.{Plan, channel_at, channel_count}
use Rattle.rules.specs.Lists.{keep}
use Rattle.rules.specs.Line.{Message, Target, replay, Line, node_at}
use Rattle.rules.specs.Recover.{row_goal}
use Rattle.rules.specs.Plain.{Act, Receipt}
use Rattle.rules.proofs.Lists.Rising.{until, Rises, rises-keep}
use Rattle.rules.proofs.Lists.Members.{In, in_keep, keep_in, map_in, greatest_in}
use Rattle.rules.proofs.Histories.Witness.{Taken}
use Rattle.rules.proofs.Histories.Ghost.{took_at, Ghost, input_of, put, got, got_of}
use Rattle.rules.proofs.Histories.Passing.{goes_on}
use Rattle.rules.proofs.Histories.Carried.{in_got_of, got_of_in}
use Rattle.rules.proofs.Invariant.Inv.{time_of, is_up, Enters, Leaves, Reached, Inv}
use Rattle.rules.proofs.Invariant.InvLaws.{took_enters, if_marked, marked_took, replay_marked, reached_goes}

-- A channel at either end of a node, or beside it.
pub at-ends : {A : Type 0} (p : Plan) (n c : ℕ) → c < channel_count p → (Enters p n c → A) → (Leaves p n c → A) → ((channel_at p c).receiver ≢ n → (channel_at p c).sender ≢ n → A) → A
at-ends p n c h f g k = elim (ℕ_discrete (channel_at p c).receiver n) [ yes q ↦ f (h, q) | no d ↦ elim (ℕ_discrete (channel_at p c).sender n) [ yes q ↦ g (h, q) | no e ↦ k d e ] ]

module _ {l : Line} {g : Ghost} {cut base : ℕ → ℕ} {fed : List Act} {receipts : List Receipt} {crashes : List ℕ} (inv : Inv l g cut base fed receipts crashes) (n : ℕ) where
  pub sender_other : (b : ℕ) → Enters l.plan n b → (channel_at l.plan b).sender ≢ n
  sender_other b (h, q) z = omega (arith, inv.ordered.forward b h)

  pub receiver_other : (c : ℕ) → Leaves l.plan n c → (channel_at l.plan c).receiver ≢ n
  receiver_other c (h, q) z = omega (arith, inv.ordered.forward c h)

  module _ (marked : (node_at l n).crashed ≡ true) where
    pub parent_unmarked : (b : ℕ) → Enters l.plan n b → (node_at l (channel_at l.plan b).sender).crashed ≡ false
    parent_unmarked b (h, q) =
        if_marked (node_at l (channel_at l.plan b).sender).crashed (λ e. absurd (true≢false (sym (ap (λ (x : ℕ). (node_at l x).crashed) q ∙ marked) ∙ inv.marks.not_joined b h e))) (λ e. e)

    pub child_unmarked : (c : ℕ) → Leaves l.plan n c → (node_at l (channel_at l.plan c).receiver).crashed ≡ false
    child_unmarked c (h, q) = inv.marks.not_joined c h (ap (λ (x : ℕ). (node_at l x).crashed) q ∙ marked)

    pub parent_up : (b : ℕ) → Enters l.plan n b → is_up l (channel_at l.plan b).sender
    parent_up b h = inv.marks.stopped (channel_at l.plan b).sender (parent_unmarked b h)

    pub child_up : (c : ℕ) → Leaves l.plan n c → is_up l (channel_at l.plan c).receiver
    child_up c h = inv.marks.stopped (channel_at l.plan c).receiver (child_unmarked c h)

    pub own : Taken l.plan n (map input_of (g n))
    own = marked_took inv.marks inv.nodes n marked

    -- An event came through a channel that is known by its sender.
    pub one_channel : (b c : ℕ) (m : Message) (t : ℕ) → Enters l.plan n b → In (took_at c m t) (g n) → (channel_at l.plan c).sender ≡ (channel_at l.plan b).sender → c ≡ b
    one_channel b c m t h i q = let (on, into) = took_enters (g n) c m t own i in inv.ordered.alone c b on h.0 q (into ∙ sym h.1)

    got_here : (b : ℕ) → Enters l.plan n b → got_of b (g n) ≡ until time_of (cut b) (put l.plan g b)
    unfolding got
    got_here b h = ap (λ (k : ℕ). got_of b (g k)) (sym h.1) ∙ (inv.channels b h.0).cut_is

    pub got_rises : (b : ℕ) → Enters l.plan n b → Rises time_of 0 (got_of b (g n))
    got_rises b h = subst (λ (x : List Message). Rises time_of 0 x) (sym (got_here b h)) (rises-keep time_of (λ (m : Message). leb m.time (cut b)) (inv.channels b h.0).rises)

    -- What it took of a channel was put on it, up to the cut.
    module _ (b : ℕ) (m : Message) (t : ℕ) (h : Enters l.plan n b) (i : In (took_at b m t) (g n)) where
      in_cut : In m (put l.plan g b) × (leb m.time (cut b) ≡ true)
      in_cut = keep_in (λ (x : Message). leb x.time (cut b)) (put l.plan g b) (subst (λ (x : List Message). In m x) (got_here b h) (in_got_of b i))

      pub taken-put : In m (put l.plan g b)
      taken-put = in_cut.0

      pub taken_cut : m.time ≤ cut b
      taken_cut = leb-true m.time (cut b) in_cut.1

    -- What was put on a channel up to the cut was taken.
    pub put-taken : (b : ℕ) (m : Message) → Enters l.plan n b → In m (put l.plan g b) → m.time ≤ cut b → (t : ℕ) × In (took_at b m t) (g n)
    put-taken b m h i late = got_of_in b (g n) (subst (λ (x : List Message). In m x) (sym (got_here b h)) (in_keep (λ (x : Message). leb x.time (cut b)) i (le-leb m.time (cut b) late)))

  -- A replaying node's row whose goal is not 0: the goal is the time of a message that was taken and has reached a child.
  module _ (replaying : (node_at l n).status ≡ replay) (b : ℕ) (h : Enters l.plan n b) where
    marked : (node_at l n).crashed ≡ true
    marked = replay_marked inv.marks n replaying

    pub goal_event : row_goal (node_at l n).targets (channel_at l.plan b).sender ≢ 0
        → (m : Message) × (t : ℕ) × In (took_at b m t) (g n) × Reached l n m t × (m.time ≡ row_goal (node_at l n).targets (channel_at l.plan b).sender)
    goal_event d =
        let A = (channel_at l.plan b).sender in
        let ts = (node_at l n).targets in
        let f : Target → Bool = λ u. eqb u.parent A in
        elim (greatest_in (map (λ (u : Target). u.parent_time) (keep f ts))) [
          | inl z ↦ absurd (d z)
          | inr i ↦
              (let (u, j, e) = map_in (λ (u : Target). u.parent_time) (keep f ts) i in
              let (k, q) = keep_in f ts j in
              let (c, m, t, on, is, _, reached) = (inv.replays n replaying).target_from_lem u k in
              let same : c ≡ b = one_channel marked b c m t h on (ap (λ (x : Target). x.parent) (sym is) ∙ eqb-true u.parent A q) in
              (m, t, subst (λ (x : ℕ). In (took_at x m t) (g n)) same on, reached, ap (λ (x : Target). x.parent_time) (sym is) ∙ sym e))
        ]

    pub goal_message : row_goal (node_at l n).targets (channel_at l.plan b).sender ≢ 0
        → (m : Message) × In m (put l.plan g b) × (goes_on l.plan n m ≡ true) × (m.time ≡ row_goal (node_at l n).targets (channel_at l.plan b).sender)
    goal_message d = let (m, t, on, reached, e) = goal_event d in (m, taken-put marked b m t h on, reached_goes reached, e)

    -- So the row goes no further than what was taken before.
    pub goal_cut : row_goal (node_at l n).targets (channel_at l.plan b).sender ≤ cut b
    goal_cut =
        elim (ℕ_discrete (row_goal (node_at l n).targets (channel_at l.plan b).sender) 0) [
          | yes z ↦ omega (arith, z)
          | no d ↦ (let (m, t, on, _, e) = goal_event d in omega (arith, e, taken_cut marked b m t h on))
        ]
