use mathlib.Core.Path.{refl}
use native.Mathlib.Omega.{arith}
use Rattle.report.proofs.DecimalLaws.{decimal-most}
use Rattle.report.proofs.PartsLaws.{answer-parts}
use Rattle.report.proofs.WroteLaws.{writing_of, writing_on, writing_last}
use Rattle.report.proofs.answer_line.Goals as goal

pub decimal-requires : goal.decimal-requires
decimal-requires c = omega (arith, decimal-most c.args.frame (omega arith))

pub returns : goal.returns
returns c =
    let a = c.args in
    writing_last
    (writing_on refl
    (writing_on refl
    (writing_on refl
    (writing_on refl (writing_of a.text.now (answer-parts a.frame a.answer) (omega arith)) c.byte.ensures)
    c.byte-2.ensures)
    c.decimal.ensures)
    c.byte_and_number.ensures)
    c.byte-3.ensures
