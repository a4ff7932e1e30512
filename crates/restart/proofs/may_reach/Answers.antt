use Rattle.std.proofs.Common.{refl, sym, ◌∙◌, arith}
use borrow.Author.Tests.{le-leb, lt-leb}
use Rattle.plan.specs.Plan.{node_count}
use Rattle.state.specs.State.{line_of}
use Rattle.buffer.proofs.ReadyLaws.{line-nodes}
use Rattle.restart.proofs.AnswerLaws.{first_here, first_past}
use Rattle.restart.proofs.may_reach.Goals as goal

pub returns-then-node_count-n : goal.returns-then-node_count-n
returns-then-node_count-n c =
    let a = c.args in
    let s = a.s.now in
    first_here _ 13 _ (le-leb (node_count (line_of s).plan) a.n (omega (arith, c.if-node_count-n.true, c.node_count.ensures.0, line-nodes s)))

pub returns-then-is_end : goal.returns-then-is_end
returns-then-is_end c =
    let a = c.args in
    let s = a.s.now in
    first_past _ 13 _ 14 (lt-leb (node_count (line_of s).plan) a.n (omega (arith, c.if-node_count-n.false, c.node_count.ensures.0, line-nodes s)))
    (first_here _ 14 _ (sym c.is_end.ensures ∙ c.if-is_end.true))

pub returns : goal.returns
returns c =
    let a = c.args in
    let s = a.s.now in
    first_past _ 13 _ 0 (lt-leb (node_count (line_of s).plan) a.n (omega (arith, c.if-node_count-n.false, c.node_count.ensures.0, line-nodes s)))
    (first_past _ 14 _ 0 (sym c.is_end.ensures ∙ c.if-is_end.false) refl)
