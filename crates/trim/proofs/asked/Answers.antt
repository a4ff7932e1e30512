use mathlib.Core.Path.{sym, ◌∙◌}
use mathlib.Core.Bool.{true, false}
use native.Mathlib.Omega.{arith}
use Rattle.state.specs.State.{line_of}
use Rattle.buffer.proofs.ReadyLaws.{line-nodes}
use Rattle.trim.proofs.AnswerLaws.{none_such, not_now}
use Rattle.trim.proofs.asked.Goals as goal

pub returns-then-node_count-n : goal.returns-then-node_count-n
returns-then-node_count-n c = let a = c.args in none_such (line_of a.s.now) a.n (omega (arith, c.if-node_count-n.true, c.node_count.ensures.0, line-nodes a.s.now))

pub returns-then-not_all_up : goal.returns-then-not_all_up
returns-then-not_all_up c =
    let a = c.args in
    not_now (line_of a.s.now) a.n (omega (arith, c.if-node_count-n.false, c.node_count.ensures.0, line-nodes a.s.now)) true (sym c.not_all_up.ensures ∙ c.if-not_all_up.true)

pub returns : goal.returns
returns c =
    let a = c.args in
    not_now (line_of a.s.now) a.n (omega (arith, c.if-node_count-n.false, c.node_count.ensures.0, line-nodes a.s.now)) false (sym c.not_all_up.ensures ∙ c.if-not_all_up.false)
