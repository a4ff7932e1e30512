use mathlib.Core.Path.{refl}
use native.Mathlib.Omega.{arith}
use Rattle.state.specs.State.{line_of}
use Rattle.report.proofs.PartsLaws.{head_parts}
use Rattle.report.proofs.WroteLaws.{writing_of, writing_on, writing_last}
use Rattle.report.proofs.node.head_line.Goals as goal

pub returns : goal.returns
returns c =
    let time = c.time_of.ensures in
    let a = c.args in
    writing_last
    (writing_on refl
    (writing_on refl
    (writing_on refl
    (writing_on refl (writing_of a.text.now (head_parts (line_of a.s.now) a.n) (omega arith)) c.byte.ensures)
    c.byte_and_number.ensures)
    c.status_word.ensures)
    (rw time at c.byte_and_number-2.ensures))
    c.byte-2.ensures
