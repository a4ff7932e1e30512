use mathlib.Core.Path.{refl, ◌∙◌}
use native.Mathlib.Numerals.{add-one}
use native.Mathlib.Omega.{arith}
use lib.ListN.{length, get_or, length-set}
use lib.Seq.{paste-zero}
use Rattle.buffer.proofs.BytesLaws.{paste_turn, paste_all}
use Rattle.buffer.proofs.bytes.copy_to.Goals as goal

pub loop-i-init : goal.loop-i-init
loop-i-init c = (refl, paste-zero c.args.to.now 0 c.args.from.now)

pub loop-i-preserved : goal.loop-i-preserved
loop-i-preserved c =
    let a = c.args in
    let t = c.loop-i in
    (length-set t.to t.i (get_or a.from.now t.i 0) ∙ t.invariant.0, rw (t.invariant.1, add-one) (paste_turn a.to.now 0 a.from.now t.i t.i (omega arith) (omega arith) (omega arith)))

pub returns : goal.returns
returns c =
    let a = c.args in
    let t = c.loop-i in
    t.invariant.1 ∙ paste_all a.to.now 0 a.from.now t.i (length a.from.now) (omega arith) (omega arith)
