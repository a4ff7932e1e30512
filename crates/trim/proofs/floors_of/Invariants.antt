use Rattle.state.specs.State.{line_of}
use Rattle.buffer.specs.Rows.{Rows}
use Rattle.trim.proofs.FloorLaws.{floor_to}
use Rattle.trim.proofs.floors_of.Given as goal

abbrev pub invariant-loop-b : goal.invariant-loop-b
invariant-loop-b l = Rows l.floors (λ q. floor_to (line_of l.joins.state.now) q l.b)
