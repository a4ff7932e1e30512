use Rattle.state.specs.State.{line_of}
use Rattle.restart.specs.Lanes.{restored_on}
use Rattle.restart.proofs.SweepLaws.{SweptIn}
use Rattle.restart.proofs.restore_channels.Given as goal

abbrev pub invariant-loop-b : goal.invariant-loop-b
invariant-loop-b l = SweptIn (restored_on (line_of l.initial.s).plan l.n l.entries) (line_of l.initial.s) l.s l.b
