use Rattle.marking.proofs.LoopLaws.{found_here, found_later}
use native.Mathlib.Omega.{arith}
use Rattle.marking.proofs.first_broken.Goals as goal

pub returns-then-alone-beside : goal.returns-then-alone-beside
returns-then-alone-beside c =
    let t = c.args.table.now in
    let l = c.loop-k in
    found_here t.low t.high t.rows.now t.fixed.now t.floors.now c.args.columns.now l.k (omega arith) c.breaks_alone-alone.result c.clashes-beside.result c.breaks_alone-alone.ensures c.clashes-beside.ensures l.invariant c.if-alone-beside.true

pub loop-k-preserved : goal.loop-k-preserved
loop-k-preserved c =
    let t = c.args.table.now in
    let l = c.loop-k in
    found_later t.low t.high t.rows.now t.fixed.now t.floors.now c.args.columns.now l.k (omega arith) c.breaks_alone-alone.result c.clashes-beside.result c.breaks_alone-alone.ensures c.clashes-beside.ensures l.invariant c.if-alone-beside.false
