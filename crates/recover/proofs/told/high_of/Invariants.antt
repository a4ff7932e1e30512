use Rattle.recover.proofs.ChildLaws.{HighTo}
use Rattle.recover.proofs.told.high_of.Given as goal

abbrev pub invariant-loop-b : goal.invariant-loop-b
invariant-loop-b l = HighTo l.s l.n l.b l.high
