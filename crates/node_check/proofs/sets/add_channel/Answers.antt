use native.Mathlib.Numerals.{add-one}
use Rattle.node_check.proofs.MaterialLaws.{adding_more}
use Rattle.node_check.proofs.sets.add_channel.Goals as goal

pub loop-i-preserved : goal.loop-i-preserved
loop-i-preserved c =
    let a = c.args in
    let v = c.loop-i in
    rw (add-one v.i) (adding_more a.t.now a.mask a.bit v.t v.i v.invariant c.loop-i-test.true)
