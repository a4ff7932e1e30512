use Rattle.plan.specs.Mask.{listed}
use Rattle.restart.proofs.KeptLaws.{KeptTo}
use Rattle.restart.proofs.kept_entries.Given as goal

abbrev pub invariant-loop-place : goal.invariant-loop-place
invariant-loop-place l =
    (goal.iterator-loop-place).can_next l.place-iterator × (goal.iterator-loop-place).is_finite l.place-iterator
    × KeptTo l.s l.n l.kept.entries (listed l.place-iterator.iter) l.place-iterator.count l.entries
