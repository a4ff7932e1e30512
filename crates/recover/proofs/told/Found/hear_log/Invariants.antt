use Rattle.rules.specs.Line.{node_at}
use Rattle.state.specs.State.{line_of}
use Rattle.recover.proofs.ToldLaws.{LogTold}
use Rattle.recover.proofs.told.Found.hear_log.Given as goal

abbrev pub invariant-loop-i : goal.invariant-loop-i
invariant-loop-i l = LogTold l.n (node_at (line_of l.s) l.k).log l.initial.self l.i l.outcome l.self
