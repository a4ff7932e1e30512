use mathlib.Core.Path.{refl}
use native.Mathlib.Omega.{arith}
use Rattle.slots.specs.Slots.{entry_is}
use Rattle.report.proofs.PartsLaws.{entry-parts}
use Rattle.report.proofs.WroteLaws.{writing_of, writing_on, writing_last}
use Rattle.report.proofs.node.entry_line.Goals as goal

pub returns : goal.returns
returns c =
    let a = c.args in
    writing_last
    (writing_on refl
    (writing_on refl
    (writing_on refl
    (writing_on refl
    (writing_on refl (writing_of a.text.now (entry-parts a.n (entry_is a.e)) (omega arith)) c.byte.ensures)
    c.byte_and_number.ensures)
    c.byte_and_number-2.ensures)
    c.origin_words.ensures)
    c.record_words.ensures)
    c.byte-2.ensures
