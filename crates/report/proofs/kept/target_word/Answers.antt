use mathlib.Core.Path.{refl}
use native.Mathlib.Omega.{arith}
use Rattle.slots.specs.Slots.{target_is}
use Rattle.report.proofs.PartsLaws.{target-parts}
use Rattle.report.proofs.WroteLaws.{writing_of, writing_on, writing_last}
use Rattle.report.proofs.kept.target_word.Goals as goal

pub returns : goal.returns
returns c =
    let a = c.args in
    writing_last
    (writing_on refl
    (writing_on refl
    (writing_on refl (writing_of a.text.now (target-parts (target_is a.g)) (omega arith)) c.byte_and_number.ensures)
    c.byte.ensures)
    c.node_and_time.ensures)
    c.byte-2.ensures
