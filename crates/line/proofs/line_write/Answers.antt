use Prim.Native.Nat.{ℕ, ◌-◌}
use mathlib.Core.Path.{◌≡◌, sym, ap, ◌∙◌}
use Rattle.std.proofs.Common.{rules}
use Rattle.std.specs.Prelude.{Err}
use Rattle.answers.specs.Number.{number, refusal_number}
use Rattle.step.proofs.StepLaws.{refusal_some}
use mathlib.Core.List.{List, ◌++◌}
use native.Mathlib.Omega.{arith}
use lib.ListN.{length, drop, length-take}
use Rattle.plan.proofs.BytesLaws.{bytes_known}
use Rattle.state.specs.State.{state_answer}
use Rattle.state.proofs.SpelledLaws.{state_sane}
use Rattle.line.proofs.WriteLaws.{loaded_long, write_refused, write_short, write_done, write_front}
use Rattle.line.proofs.line_write.Goals as goal

pub returns-in_err-line_check : goal.returns-in_err-line_check
returns-in_err-line_check c =
    let a = c.args in
    let r = c.in_err-line_check.field-0.0 in
    let told : c.from_residual.result ≡ Err r = search rules in
    let is : refusal_number r ≡ state_answer a.state.now = sym (ap number c.in_err-line_check.was) ∙ c.line_check.ensures in
    rw (told, is) (write_refused a.state.now a.plan.now (λ e. refusal_some r (is ∙ e)))

pub returns-then-plan-size : goal.returns-then-plan-size
returns-then-plan-size c =
    let a = c.args in
    write_short a.state.now a.plan.now (sym c.line_check.ensures ∙ ap number c.in_ok-line_check.was) (omega (arith, c.if-plan-size.true, loaded_long a.state.now, c.size_by_head-size.ensures.0))

pub slice_bounds-copy_to-end : goal.slice_bounds-copy_to-end
slice_bounds-copy_to-end c =
    let a = c.args in
    omega (arith, c.size_by_head-size.ensures.1, ((state_sane a.state.now).0 (sym c.line_check.ensures ∙ ap number c.in_ok-line_check.was)).long)

pub copy_to-requires : goal.copy_to-requires
copy_to-requires c =
    let a = c.args in
    omega (arith, c.if-plan-size.false, length-take (c.size_by_head-size.result - 0) a.state.now)

pub returns : goal.returns
returns c =
    let state : List ℕ = c.args.state.now in
    let plan : List ℕ = c.args.plan.now in
    let z : state_answer state ≡ 0 = sym c.line_check.ensures ∙ ap number c.in_ok-line_check.was in
    let front = write_front state plan c.size_by_head-size.result c.size_by_head-size.ensures.0 (bytes_known state (λ i. (c.type_inv.state i).fits)) z in
    let done = write_done state plan z (omega (arith, c.if-plan-size.false, loaded_long state, c.size_by_head-size.ensures.0)) in
    (done.0, c.copy_to.ensures ∙ ap (λ (x : List ℕ). x ++ drop (length x) plan) front ∙ done.1)
