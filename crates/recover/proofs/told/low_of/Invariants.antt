use Rattle.recover.proofs.ChildLaws.{LowTo}
use Rattle.recover.proofs.told.low_of.Given as goal

abbrev pub invariant-loop-b : goal.invariant-loop-b
invariant-loop-b l = LowTo l.s l.n l.b l.low
