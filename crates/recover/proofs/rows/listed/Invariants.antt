use Rattle.plan.specs.Mask.{listed}
use Rattle.recover.proofs.ListedLaws.{ListedTo}
use Rattle.recover.proofs.rows.listed.Given as goal

abbrev pub invariant-loop-place : goal.invariant-loop-place
invariant-loop-place l =
    (goal.iterator-loop-place).can_next l.place-iterator × (goal.iterator-loop-place).is_finite l.place-iterator
    × ListedTo l.s l.n (listed l.place-iterator.iter) l.place-iterator.count l.out
