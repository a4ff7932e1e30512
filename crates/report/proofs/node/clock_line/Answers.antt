use mathlib.Core.Path.{refl}
use native.Mathlib.Omega.{arith}
use Rattle.state.specs.State.{line_of}
use Rattle.report.proofs.ClockLaws.{clock_own}
use Rattle.report.proofs.PartsLaws.{clock_parts}
use Rattle.report.proofs.WroteLaws.{writing_of, writing_on, writing_last}
use Rattle.report.proofs.node.clock_line.Goals as goal

pub returns : goal.returns
returns c =
    let a = c.args in
    let clock = rw c.time_of.ensures at c.listed.ensures in
    writing_last
    (writing_on refl
    (writing_on refl (writing_of a.text.now (clock_parts (line_of a.s.now) a.n) (omega arith)) c.word.ensures)
    (clock_own (line_of a.s.now) a.n clock))
    c.byte.ensures
