use Rattle.plan.specs.Mask.{listed}
use Rattle.recover.proofs.LowLaws.{LowsTo}
use Rattle.recover.proofs.lows.lows_on.Given as goal

abbrev pub invariant-loop-place : goal.invariant-loop-place
invariant-loop-place l =
    (goal.iterator-loop-place).can_next l.place-iterator × (goal.iterator-loop-place).is_finite l.place-iterator
    × LowsTo l.s l.n l.b l.initial.rows (listed l.place-iterator.iter) l.place-iterator.count l.rows
