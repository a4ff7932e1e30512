use mathlib.Core.List.{map}
use native.Mathlib.Omega.{arith}
use Rattle.rules.specs.Lists.{joined}
use Rattle.rules.specs.Line.{node_at}
use Rattle.rules.specs.Sheet.{entry_line}
use Rattle.state.specs.State.{line_of}
use Rattle.buffer.specs.Nothing.{no_entry}
use Rattle.report.specs.Parts.{log_text}
use Rattle.report.proofs.ParentLaws.{node_few}
use Rattle.report.proofs.WroteLaws.{writes_most, writing_start, joined_turn, joined_end}
use Rattle.report.proofs.node.log_lines.Goals as goal

pub loop-i-init : goal.loop-i-init
loop-i-init c =
    let a = c.args in
    writing_start (joined (map (entry_line a.n) (node_at (line_of a.s.now) a.n).log)) a.text.now (omega (arith, c.requires.1))

pub entry_line-requires : goal.entry_line-requires
entry_line-requires c =
    let w = c.loop-i.invariant.writes.wrote in
    (omega (arith, node_few c.args.s.now c.args.n c.requires.0), omega (arith, w.end, w.short, w.same, c.requires.1, c.log_count-i-end.ensures.1))

pub loop-i-preserved : goal.loop-i-preserved
loop-i-preserved c =
    let a = c.args in
    let v = c.loop-i in
    let log = (node_at (line_of a.s.now) a.n).log in
    joined_turn (entry_line a.n) no_entry log v.i 79 (omega (arith, c.log_count-i-end.ensures.0)) v.invariant (rw c.entry_of.ensures at c.entry_line.ensures)

pub returns : goal.returns
unfolding log_text
returns c =
    let a = c.args in
    let v = c.loop-i in
    let log = (node_at (line_of a.s.now) a.n).log in
    let all = joined_end (entry_line a.n) no_entry log v.i 79 (omega (arith, c.log_count-i-end.ensures.0)) v.invariant in
    writes_most 5056 (omega (arith, all.wrote.short, c.log_count-i-end.ensures.0, c.log_count-i-end.ensures.1)) all
