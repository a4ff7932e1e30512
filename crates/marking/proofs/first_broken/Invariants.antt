use Rattle.marking.proofs.LoopLaws.{Going}
use Rattle.marking.proofs.first_broken.Given as goal

abbrev pub invariant-loop-k : goal.invariant-loop-k
invariant-loop-k l = let t = l.table in Going t.low t.high t.rows.now t.fixed.now t.floors.now l.columns l.k
