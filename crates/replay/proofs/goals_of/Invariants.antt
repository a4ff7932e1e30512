use Rattle.rules.specs.Line.{node_at}
use Rattle.state.specs.State.{line_of}
use Rattle.replay.proofs.RowLaws.{GoalsFrom}
use Rattle.replay.proofs.goals_of.Given as goal

abbrev pub invariant-loop-i : goal.invariant-loop-i
invariant-loop-i l = GoalsFrom (node_at (line_of l.s) l.n).targets l.goals l.i
