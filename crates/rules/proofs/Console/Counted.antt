-- A step's number is its refusal, and an accepted step is one more of its caller's, and of no other console's.
use Prim.Native.Nat.{ℕ, ◌+◌}
use mathlib.Core.Path.{◌≡◌, refl, ap, ◌∙◌}
use mathlib.Core.Bool.{false, cond}
use mathlib.Core.List.{List}
use native.Mathlib.Nat.{add-zero}
use native.Mathlib.Numerals.{add-one}
use native.Mathlib.Decide.{ℕ_discrete}
use lib.ListN.{get_or}
use lib.Seq.{get_or-set_other}
use lib.Dec.{eqb}
use borrow.Author.Tests.{eq-eqb, ne_eqb}
use Rattle.rules.specs.Line.{Line, one_more, counted}
use Rattle.rules.specs.Frame.{frame_console, frame_of}
use Rattle.rules.specs.Step.{accepted, refusal, step}
use Rattle.rules.specs.Damaged.{damaged}
use Rattle.rules.specs.Console.{CountsCaller}
use Rattle.rules.proofs.Line.Consoles.{own_more}
use Rattle.rules.proofs.Theorem.Accepted.{passed, step-accepted, step_refused}
use Rattle.rules.proofs.Theorem.Unmoved.{effect-steps}
use Rattle.rules.proofs.Undamaged.Undamaged.{undamaged_sound}

module _ (l : Line) (f : List ℕ) where
  pub step-number : (step l f).number ≡ refusal l f
  unfolding step
  step-number = elim (ℕ_discrete (refusal l f) 0) [ yes e ↦ rw (e, step) | no d ↦ rw (ne_eqb (refusal l f) 0 d, step) ]

  pub counted_one : refusal l f ≡ 0 → (step l f).line.steps ≡ one_more (frame_console f) l.steps
  unfolding counted
  counted_one e =
      let p = passed l f e in
      ap (λ (k : Line). k.steps) ((step-accepted l f e).1 ∙ ap (accepted (frame_console f) l) p.leads) ∙ ap (one_more (frame_console f)) (effect-steps l (frame_of f) p.leads)

  pub counts_caller : damaged l ≡ false → CountsCaller l f
  counts_caller whole c =
      rw step-number
      (elim (ℕ_discrete (refusal l f) 0) [
        | yes e ↦ rw (counted_one e, eq-eqb (refusal l f) 0 e) (own e)
        | no d ↦ rw ((step_refused l f d).1, ne_eqb (refusal l f) 0 d, add-zero)
      ])
    where
      own : refusal l f ≡ 0 → get_or (one_more (frame_console f) l.steps) c 0 ≡ get_or l.steps c 0 + cond (eqb c (frame_console f)) 1 0
      own e =
          let p = passed l f e in
          elim (ℕ_discrete c (frame_console f)) [
            | yes q ↦ rw (q, eq-eqb (frame_console f) (frame_console f) refl, add-one) (own_more (undamaged_sound l whole).standing.counts p.console p.steps_left)
            | no q ↦ rw (ne_eqb c (frame_console f) q, add-zero) (get_or-set_other l.steps (frame_console f) c _ 0 q)
          ]
