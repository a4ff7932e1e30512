-- The targets found, written one by one.
use Prim.Native.Nat.{ℕ, ◌+◌, ◌≤◌, ◌<◌}
use mathlib.Core.Path.{◌≡◌, sym, ap, subst}
use mathlib.Core.List.{List, [], ◌∷◌, ◌++◌}
use native.Mathlib.Numerals.{add-one}
use native.Mathlib.Omega.{arith}
use lib.ListN.{length, get_or, take}
use lib.Seq.{take-suc, take_all, length-take-le}
use Rattle.std.proofs.lemmas.List.{map-append}
use Rattle.rules.specs.Line.{target_limit, Target, Status, up, replay, Node, node_at, with_node}
use Rattle.rules.specs.Recover.{status_of}
use Rattle.state.specs.Changes.{with_targets, more_targets}
use Rattle.state.specs.State.{line_of}
use Rattle.slots.specs.declared.Goal.{Goal}
use Rattle.slots.specs.Slots.{target_is}
use Rattle.buffer.specs.Holds.{Holds, NodeNow}
use Rattle.buffer.proofs.HoldsLaws.{node_same, node-after, node_then}
use Rattle.recover.specs.Found.{targets_in}
use Rattle.recover.proofs.TargetLaws.{targets_length}
use Rattle.restart.specs.Nodes.{Fillable}

-- The first i of them.
pub record FilledTo (s : List ℕ) (n : ℕ) (gs : List Goal) (t : List ℕ) (i : ℕ) : Type 0 where
  pub now : NodeNow s n (with_targets (targets_in (take i gs))) t

module _ {s : List ℕ} {n : ℕ} {gs : List Goal} (fill : Fillable s n gs) where
  abbrev x : Node
  x = node_at (line_of s) n

  pub filled_start : FilledTo s n gs s 0
  filled_start =
      record {
        now = record { on = fill.on; holds = subst (λ (us : List Target). Holds s (with_node n (with_targets us x) (line_of s))) fill.none (subst (Holds s) (sym (node_same n (line_of s))) fill.on.holds) };
      }

  module _ {t : List ℕ} {i : ℕ} (below : i < length gs) (filled : FilledTo s n gs t i) where
    pub filled_room : length (node_at (line_of t) n).targets < target_limit
    filled_room =
        let is = ap (λ (y : Node). length y.targets) (node-after fill.on (with_targets (targets_in (take i gs)) x) filled.now.holds) in
        omega (arith, is, targets_length (take i gs), length-take-le i gs (omega arith), fill.few)

    pub filled_turn : (d : Goal) {u : List ℕ} → NodeNow t n (more_targets (target_is (get_or gs i d))) u → FilledTo s n gs u (i + 1)
    filled_turn d {u} now =
        let one : targets_in (take i gs) ++ target_is (get_or gs i d) ∷ [] ≡ targets_in (take (i + 1) gs) = rw (add-one i, take-suc gs i d below) (sym (map-append target_is (take i gs) (get_or gs i d ∷ []))) in
        record { now = subst (λ (us : List Target). NodeNow s n (with_targets us) u) one (node_then fill.on filled.now now) }

  pub filled_end : {t : List ℕ} {i : ℕ} → length gs ≤ i → FilledTo s n gs t i → NodeNow s n (with_targets (targets_in gs)) t
  filled_end {t} {i} h filled = subst (λ (us : List Goal). NodeNow s n (with_targets (targets_in us)) t) (take_all i gs h) filled.now

-- The status by their number.
pub status_by : (ts : List Target) (count : ℕ) (r : Status) → count ≡ length ts → (count ≡ 0 → r ≡ up) → (0 < count → r ≡ replay) → r ≡ status_of ts
status_by [] count r e none some = none e
status_by (t ∷ ts) count r e none some = some (omega arith)
