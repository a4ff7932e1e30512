use Rattle.placing.specs.Places.{ShutRows}
use Rattle.placing.proofs.WellFormed.shut_rows.Given as goal

abbrev pub invariant-loop-row : goal.invariant-loop-row
invariant-loop-row l = let t = l.self in ShutRows t.high t.rows.now t.fixed.now t.floors.now l.next l.row l.shut
