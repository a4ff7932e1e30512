use Prim.Native.Nat.{ℕ}
use mathlib.Core.Path.{◌≡◌, sym, ap, ◌∙◌}
use Rattle.std.proofs.Common.{rules}
use Rattle.std.specs.Prelude.{Err}
use Rattle.answers.specs.Number.{number, refusal_number}
use Rattle.step.proofs.StepLaws.{refusal_some}
use mathlib.Core.List.{List}
use Rattle.plan.proofs.BytesLaws.{bytes_known}
use Rattle.state.specs.State.{state_answer}
use Rattle.state.proofs.SpelledLaws.{state_sane}
use Rattle.buffer.proofs.HoldsLaws.{sane_undamaged}
use Rattle.line.proofs.StepLaws.{answer_undamaged, step-damaged, one_call}
use Rattle.line.proofs.line_step.Goals as goal

pub returns-in_err-line_check : goal.returns-in_err-line_check
returns-in_err-line_check c =
    let a = c.args in
    let refusal = c.in_err-line_check.field-0.0 in
    let told : c.from_residual.result ≡ Err refusal = search rules in
    let is : refusal_number refusal ≡ state_answer a.state.now = sym (ap number c.in_err-line_check.was) ∙ c.line_check.ensures in
    let r = step-damaged a.state.now a.frame.now (refusal_number refusal) (sym is) (refusal_some refusal) in
    rw told (sym r.0, sym r.1)

pub step-requires : goal.step-requires
step-requires c =
    let s : List ℕ = c.args.state.now in
    sane_undamaged s ((state_sane s).0 (sym c.line_check.ensures ∙ ap number c.in_ok-line_check.was))

pub returns : goal.returns
returns c =
    let a = c.args in
    let s : List ℕ = a.state.now in
    let frame : List ℕ = a.frame.now in
    let z : state_answer s ≡ 0 = sym c.line_check.ensures ∙ ap number c.in_ok-line_check.was in
    let done = c.step.ensures in
    (done.number ∙ sym (answer_undamaged s frame z), done.left ∙ sym (one_call s frame (bytes_known frame (λ i. (c.type_inv.frame i).fits)) z).left)
