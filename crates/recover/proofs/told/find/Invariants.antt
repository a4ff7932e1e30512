use Rattle.recover.proofs.ToldLaws.{ChannelsTold}
use Rattle.recover.proofs.told.find.Given as goal

abbrev pub invariant-loop-b : goal.invariant-loop-b
invariant-loop-b l = ChannelsTold l.s l.n l.b l.outcome l.found
