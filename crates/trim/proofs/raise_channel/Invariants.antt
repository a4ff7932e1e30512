use Rattle.state.specs.State.{line_of}
use Rattle.buffer.specs.Holds.{LaneNow}
use Rattle.trim.specs.Trimmed.{raised_on}
use Rattle.trim.proofs.raise_channel.Given as goal

abbrev pub invariant-loop-i : goal.invariant-loop-i
invariant-loop-i l = LaneNow l.initial.s l.b (raised_on (line_of l.initial.s) l.n l.i l.b) l.s
