use Rattle.buffer.proofs.JoinLaws.{Filled}
use Rattle.buffer.proofs.joins.Ends.of.Given as goal

abbrev pub invariant-loop-b : goal.invariant-loop-b
invariant-loop-b l = Filled l.s l.ends.codes l.ends.counts l.at l.b
