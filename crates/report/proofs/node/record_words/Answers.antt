use mathlib.Core.Path.{refl}
use native.Mathlib.Omega.{arith}
use Rattle.report.proofs.PartsLaws.{record_parts}
use Rattle.report.proofs.WroteLaws.{writing_of, writing_on, writing_last}
use Rattle.report.proofs.node.record_words.Goals as goal

pub returns : goal.returns
returns c =
    let material = c.from.ensures in
    let mass = c.from-2.ensures in
    let a = c.args in
    writing_last
    (writing_on refl
    (writing_on refl (writing_of a.text.now (record_parts a.r) (omega arith)) c.byte_and_number.ensures)
    (rw material at c.byte_and_number-2.ensures))
    (rw mass at c.byte_and_number-3.ensures)
