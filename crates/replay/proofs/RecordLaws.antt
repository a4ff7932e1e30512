-- A record's set: where the channels that leave the node begin, and whether some channel takes the record.
use Prim.Native.Nat.{ℕ, zero, suc, ◌+◌}
use mathlib.Core.Path.{◌≡◌, refl, sym, ap, ◌∙◌}
use mathlib.Core.Bool.{not}
use mathlib.Core.List.{List, [], ◌∷◌}
use lib.Dec.{eqb, eqb-suc-zero}
use lib.ListN.{length}
use lib.Count.{ones}
use Rattle.std.proofs.lemmas.Nat.{zero_from_ones}
use Rattle.std.proofs.Common.{arith}
use Rattle.plan.specs.declared.Record.{Record}
use Rattle.plan.specs.Plan.{Plan, plan_of, channel_at}
use Rattle.plan.specs.Mask.{taking, set_of}
use Rattle.plan.proofs.SetLaws.{set-none}
use Rattle.rules.specs.Lists.{is_empty}
use Rattle.rules.specs.Replay.{passed_on}
use Rattle.state.specs.State.{line_of}
use Rattle.state.proofs.InPlace.{line-plan}
use Rattle.buffer.specs.Sets.{LeaveFrom}
use Rattle.buffer.proofs.SetLaws.{none_to_entering}
use Rattle.replay.specs.After.{Enters}

pub enters_none : {s : List ℕ} {n b : ℕ} → Enters s n b → LeaveFrom (plan_of s) n (b + 1)
enters_none {s} {n} {b} e = none_to_entering (record { ready = e.on.holds.ready; below = e.below }) (e.to ∙ ap (λ (p : Plan). (channel_at p b).receiver) (line-plan s))

none-counted : (bs : List ℕ) → not (eqb (length bs) 0) ≡ not (is_empty bs)
none-counted [] = refl
none-counted (b ∷ bs) = ap not (eqb-suc-zero (length bs))

-- A set's ones are none exactly if it is 0.
pub ones_none : (x : ℕ) → eqb (ones x) 0 ≡ eqb x 0
unfolding ones
ones_none zero = refl
ones_none (suc k) = grind (arith, zero_from_ones (suc k))

-- A set has a channel exactly if the record goes on.
pub set_some : (s : List ℕ) (n : ℕ) (r : Record) (set : ℕ) → set ≡ set_of (plan_of s) n r → not (eqb set 0) ≡ passed_on (line_of s).plan n r
unfolding passed_on
set_some s n r set e =
    ap (λ (c : ℕ). not (eqb c 0)) e
    ∙ ap not (set-none (plan_of s) n r)
    ∙ none-counted (taking (plan_of s) n r)
    ∙ ap (λ (p : Plan). not (is_empty (taking p n r))) (sym (line-plan s))
