-- Floor times: no clock entry is below them; and where no child of a child crashed, the child would be restored up to them.
use Prim.Native.Nat.{ℕ, min, ◌<◌, ◌≤◌}
use mathlib.Core.Path.{◌≡◌, refl, sym, ap, subst, ◌∙◌}
use mathlib.Core.Logic.{inl, inr}
use mathlib.Core.Bool.{false, true≢false}
use mathlib.Core.List.{List, [], ◌∷◌, map}
use native.Mathlib.Omega.{arith}
use native.Mathlib.Decide.{dec_le}
use lib.Dec.{leb}
use borrow.Author.Tests.{leb-true}
use Rattle.plan.specs.Plan.{channel_at, channel_count, leaving, is_sink}
use Rattle.rules.specs.Lists.{is_empty, joined, least_of}
use Rattle.rules.specs.Line.{Message, Line, node_at, lane_at, parents}
use Rattle.rules.specs.Clock.{entry_for}
use Rattle.rules.specs.Recover.{child_times, low_of, restored}
use Rattle.rules.specs.Trim.{entries_for, floor_time}
use Rattle.rules.specs.Plain.{Act, Receipt}
use Rattle.rules.proofs.Lists.Rising.{until}
use Rattle.rules.proofs.Lists.Members.{In, here, there, in_some, keep_in, in_map, map_in, in_left, in_right, in_joined, in_least}
use Rattle.rules.proofs.Histories.Witness.{Taken}
use Rattle.rules.proofs.Histories.Ghost.{Ghost, input_of, put}
use Rattle.rules.proofs.Line.Joins.{in_leaving, leaving_in, some_leaves, no_source}
use Rattle.rules.proofs.Invariant.Inv.{time_of, Leaves, UnmarkedEnd, UnmarkedChildren, heard_on, Inv}
use Rattle.rules.proofs.Invariant.InvLaws.{reached_goes}
use Rattle.rules.proofs.Ending.Children.{Child, made_parts, sent_by, restored_reach}

-- The least of some numbers is one of them.
least_in : (ns : List ℕ) → is_empty ns ≡ false → In (least_of ns) ns
least_in [] e = absurd (true≢false e)
least_in (n ∷ []) e = here
least_in (n ∷ m ∷ ns) e = one (least_in (m ∷ ns) refl)
  where
    one : In (least_of (m ∷ ns)) (m ∷ ns) → In (min n (least_of (m ∷ ns))) (n ∷ m ∷ ns)
    one i =
        elim (dec_le n (least_of (m ∷ ns))) [
          | yes h ↦ (let q : min n (least_of (m ∷ ns)) ≡ n = omega arith in subst (λ (x : ℕ). In x (n ∷ m ∷ ns)) (sym q) here)
          | no h ↦ (let q : min n (least_of (m ∷ ns)) ≡ least_of (m ∷ ns) = omega arith in subst (λ (x : ℕ). In x (n ∷ m ∷ ns)) (sym q) (there i))
        ]

module _ (l : Line) (n : ℕ) where
  abbrev through : ℕ → List ℕ
  through b = map (λ (c : ℕ). entry_for n (parents l.plan (channel_at l.plan b).receiver) (lane_at l c).heard) (leaving l.plan (channel_at l.plan b).receiver)

  pub floor_entry : (c : ℕ) → Leaves l.plan n c → floor_time l n ≤ (lane_at l c).taken
  unfolding floor_time entries_for
  floor_entry c (h, q) = in_least (there (in_left (joined (map through (leaving l.plan n))) (in_map (λ (b : ℕ). (lane_at l b).taken) (in_leaving l.plan n c h q))))

  pub floor_heard : (b c : ℕ) → Leaves l.plan n b → Leaves l.plan (channel_at l.plan b).receiver c → floor_time l n ≤ heard_on l c n
  unfolding floor_time entries_for
  floor_heard b c (h, q) (k, s) =
      let C = (channel_at l.plan b).receiver in
      let low = in_least (there {y = (node_at l n).time} (in_right (map (λ (b : ℕ). (lane_at l b).taken) (leaving l.plan n))
      (in_joined (in_map (λ (c : ℕ). entry_for n (parents l.plan (channel_at l.plan b).receiver) (lane_at l c).heard) (in_leaving l.plan C c k s)) (in_map through (in_leaving l.plan n b h q))))) in
      omega (arith, low, ap (λ (x : ℕ). entry_for n (parents l.plan x) (lane_at l c).heard) s)

module _ {l : Line} {g : Ghost} {cut base : ℕ → ℕ} {fed : List Act} {receipts : List Receipt} {crashes : List ℕ} (inv : Inv l g cut base fed receipts crashes) where
  -- What is known of a child that never crashed.
  pub child_of : (c : ℕ) → c < channel_count l.plan → UnmarkedEnd l c → Child l g c
  child_of c h e =
      record {
        took = (inv.nodes.others (channel_at l.plan c).receiver (no_source l.plan c h)).1;
        unmarked = e;
        logs = inv.logs (channel_at l.plan c).receiver e;
        got_is = (inv.channels c h).cut_is ∙ ap (λ (t : ℕ). until time_of t (put l.plan g c)) ((inv.channels c h).cut_up (inv.marks.stopped (channel_at l.plan c).receiver e));
        exact = (inv.ends c h).exact e;
      }

  module _ (n b : ℕ) (out : Leaves l.plan n b) (some : is_sink l.plan (channel_at l.plan b).receiver ≡ false) (unmarked : UnmarkedChildren l (channel_at l.plan b).receiver) where
    abbrev C : ℕ
    C = (channel_at l.plan b).receiver

    pub own_took : Taken l.plan (channel_at l.plan b).receiver (map input_of (g (channel_at l.plan b).receiver))
    own_took = (inv.nodes.others C (no_source l.plan b out.0)).1

    pub children_of : (c : ℕ) → c < channel_count l.plan → (channel_at l.plan c).sender ≡ (channel_at l.plan b).receiver → Child l g c
    children_of c h s = child_of c h (unmarked c (h, s))

    -- A child with the least entry for C.
    lowest : (d : ℕ) × Leaves l.plan (channel_at l.plan b).receiver d × (low_of l (channel_at l.plan b).receiver ≡ (lane_at l d).taken)
    unfolding low_of child_times
    lowest =
        let (c, h) = some_leaves l.plan C some in
        let (d, i, q) = map_in (λ (x : ℕ). (lane_at l x).taken) (leaving l.plan C) (least_in (child_times l C) (in_some (in_map (λ (x : ℕ). (lane_at l x).taken) (in_leaving l.plan C c h.0 h.1)))) in
        (d, leaving_in l.plan C d i, q)

    pub restored_floor : floor_time l n ≤ restored l (channel_at l.plan b).receiver n
    restored_floor =
        let (d, leaves, low) = lowest in
        let floor = floor_heard l n b d out leaves in
        elim ((inv.ends d leaves.0).through (unmarked d leaves) n) [
          | inl z ↦ omega (arith, floor, z)
          | inr (x, i, o) ↦
              (let by = sent_by l g C inv.ordered own_took children_of d leaves.0 leaves.1 x i in
              let (sender, time) = made_parts (sym o ∙ ap (λ (y : Message). y.origin) by.is) in
              let (_, early) = keep_in (λ (y : Message). leb y.time (lane_at l d).taken) (put l.plan g d) (subst (λ (xs : List Message). In x xs) (children_of d leaves.0 leaves.1).got_is i) in
              let upto : by.time ≤ low_of l C = omega (arith, low, leb-true x.time (lane_at l d).taken early, ap time_of by.is) in
              let reach = restored_reach l g C inv.ordered own_took children_of by.channel by.message by.time by.event (reached_goes by.reached) upto in
              omega (arith, floor, time, reach, ap (restored l C) sender))
        ]
