use mathlib.Core.Path.{sym, ◌∙◌}
use Rattle.plan.proofs.BytesLaws.{bytes_known}
use Rattle.line.proofs.WholeLaws.{check_answer}
use Rattle.line.proofs.WriteLaws.{size_wrong, state_wrong}
use Rattle.line.proofs.line_check.Goals as goal

pub returns-then-state-ne-STATE_SIZE : goal.returns-then-state-ne-STATE_SIZE
returns-then-state-ne-STATE_SIZE c = size_wrong c.args.state.now c.if-state-ne-STATE_SIZE.true

pub returns-then-not-state_ok : goal.returns-then-not-state_ok
returns-then-not-state_ok c =
    let s = c.args.state.now in
    state_wrong s c.if-state-ne-STATE_SIZE.false (bytes_known s (λ i. (c.type_inv.state i).fits)) (sym c.state_ok.ensures ∙ c.if-not-state_ok.true)

pub returns : goal.returns
returns c =
    let s = c.args.state.now in
    sym ((check_answer s c.if-state-ne-STATE_SIZE.false (bytes_known s (λ i. (c.type_inv.state i).fits))).0 (sym c.state_ok.ensures ∙ c.if-not-state_ok.false))
