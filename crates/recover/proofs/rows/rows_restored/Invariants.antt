use Rattle.recover.proofs.RowLaws.{RowsBefore}
use Rattle.recover.proofs.rows.rows_restored.Given as goal

abbrev pub invariant-loop-b : goal.invariant-loop-b
invariant-loop-b l = RowsBefore l.s l.n l.goals l.ok l.b
