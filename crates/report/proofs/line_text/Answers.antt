use mathlib.Core.List.{map}
use native.Mathlib.Omega.{arith}
use Rattle.rules.specs.Lists.{joined}
use Rattle.rules.specs.Line.{node_numbers}
use Rattle.rules.specs.Sheet.{node_text, line_text}
use Rattle.state.specs.State.{line_of}
use Rattle.report.specs.Most.{node_most, text_most}
use Rattle.report.proofs.NodesLaws.{numbers_long, number_at}
use Rattle.report.proofs.WroteLaws.{writes_most, writing_start, joined_turn, joined_end}
use Rattle.report.proofs.line_text.Goals as goal

pub loop-n-init : goal.loop-n-init
loop-n-init c =
    let a = c.args in
    writing_start (joined (map (node_text (line_of a.s.now)) (node_numbers (line_of a.s.now)))) a.text.now (omega (arith, c.requires.1))

pub node_text-requires : goal.node_text-requires
node_text-requires c =
    let w = c.loop-n.invariant.writes.wrote in
    let count = c.node_count-n-end.ensures in
    (record { holds = c.requires.0; inside = omega (arith, count.0) }, omega (arith, w.end, w.short, w.same, c.requires.1, count.1))

pub loop-n-preserved : goal.loop-n-preserved
loop-n-preserved c =
    let a = c.args in
    let v = c.loop-n in
    let l = line_of a.s.now in
    let long = numbers_long a.s.now c.requires.0 in
    let count = c.node_count-n-end.ensures.0 in
    joined_turn (node_text l) 0 (node_numbers l) v.n node_most (omega (arith, count, long)) v.invariant (rw (number_at a.s.now c.requires.0 v.n (omega (arith, count))) c.node_text.ensures)

pub returns : goal.returns
unfolding line_text
returns c =
    let a = c.args in
    let v = c.loop-n in
    let l = line_of a.s.now in
    let long = numbers_long a.s.now c.requires.0 in
    let count = c.node_count-n-end.ensures in
    let all = joined_end (node_text l) 0 (node_numbers l) v.n node_most (omega (arith, count.0, long)) v.invariant in
    writes_most text_most (omega (arith, all.wrote.short, long, count.0, count.1)) all
