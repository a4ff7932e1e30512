use Rattle.placing.specs.Places.{Prepared}
use Rattle.placing.proofs.WellFormed.prepare.Given as goal

abbrev pub invariant-loop-i : goal.invariant-loop-i
invariant-loop-i l = let t = l.self in Prepared t.high l.i t.rows.now t.fixed.now l.lasts l.next
