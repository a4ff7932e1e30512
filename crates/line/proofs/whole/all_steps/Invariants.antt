use Rattle.state.specs.State.{line_of}
use Rattle.line.proofs.CheckLaws.{Counting}
use Rattle.line.proofs.whole.all_steps.Given as goal

abbrev pub invariant-loop-console : goal.invariant-loop-console
invariant-loop-console l = Counting (line_of l.s) l.all l.console
