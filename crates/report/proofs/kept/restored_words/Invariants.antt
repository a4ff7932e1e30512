use Rattle.plan.specs.Mask.{listed}
use Rattle.report.proofs.KeptLaws.{Restoring}
use Rattle.report.proofs.kept.restored_words.Given as goal

abbrev pub invariant-loop-place : goal.invariant-loop-place
invariant-loop-place l =
    (goal.iterator-loop-place).can_next l.place-iterator × (goal.iterator-loop-place).is_finite l.place-iterator
    × Restoring l.s l.n l.initial.text l.text l.place-iterator.count (listed l.place-iterator.iter)
