use Rattle.marking.proofs.LoopLaws.{beside_more}
use native.Mathlib.Omega.{arith}
use Rattle.marking.proofs.clashes.Goals as goal

pub loop-j-preserved : goal.loop-j-preserved
loop-j-preserved c =
    let a = c.args in
    let l = c.loop-j in
    beside_more a.rows.now a.columns.now a.k l.j l.found (omega arith) (omega arith) l.invariant
