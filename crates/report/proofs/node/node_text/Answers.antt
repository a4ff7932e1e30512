use mathlib.Core.Path.{refl}
use native.Mathlib.Omega.{arith}
use Rattle.state.specs.State.{line_of}
use Rattle.report.proofs.PartsLaws.{node-parts}
use Rattle.report.proofs.WroteLaws.{writing_of, writing_on, writing_last}
use Rattle.report.proofs.node.node_text.Goals as goal

pub returns : goal.returns
returns c =
    let a = c.args in
    writing_last
    (writing_on refl
    (writing_on refl
    (writing_on refl (writing_of a.text.now (node-parts (line_of a.s.now) a.n) (omega arith)) c.head_line.ensures)
    c.log_lines.ensures)
    c.clock_line.ensures)
    c.kept_line.ensures
