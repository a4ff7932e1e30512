use Rattle.state.specs.State.{line_of}
use Rattle.restart.specs.Lanes.{crashed_on}
use Rattle.restart.proofs.SweepLaws.{SweptIn}
use Rattle.restart.proofs.crash_channels.Given as goal

abbrev pub invariant-loop-b : goal.invariant-loop-b
invariant-loop-b l = SweptIn (crashed_on (line_of l.initial.s).plan l.n) (line_of l.initial.s) l.s l.b
