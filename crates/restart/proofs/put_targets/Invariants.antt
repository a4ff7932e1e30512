use Rattle.restart.proofs.TargetLaws.{FilledTo}
use Rattle.restart.proofs.put_targets.Given as goal

abbrev pub invariant-loop-g : goal.invariant-loop-g
invariant-loop-g l = FilledTo l.initial.s l.n l.targets l.s l.g-index
