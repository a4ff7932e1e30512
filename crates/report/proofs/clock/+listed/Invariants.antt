use Rattle.plan.specs.Mask.{listed}
use Rattle.report.proofs.ClockLaws.{Listing}
use Rattle.report.proofs.clock.+listed.Given as goal

-- The number of layers left falls.
abbrev pub decreases-listed : goal.decreases-listed
decreases-listed l = l.layers

abbrev pub invariant-loop-place : goal.invariant-loop-place
invariant-loop-place l =
    (goal.iterator-loop-place).can_next l.place-iterator × (goal.iterator-loop-place).is_finite l.place-iterator
    × Listing l.s l.layers l.n l.t l.h l.initial.text l.text l.place-iterator.count (listed l.place-iterator.iter)
