use Prim.Native.Nat.{ℕ}
use mathlib.Core.Path.{◌≡◌, sym, ap, ◌∙◌}
use Rattle.std.proofs.Common.{rules}
use Rattle.std.specs.Prelude.{Err}
use Rattle.answers.specs.Number.{number, refusal_number}
use Rattle.step.proofs.StepLaws.{refusal_some}
use mathlib.Core.List.{List}
use native.Mathlib.Omega.{arith}
use lib.ListN.{length}
use Rattle.plan.specs.Check.{plan_refusal}
use Rattle.plan.proofs.BytesLaws.{bytes_known}
use Rattle.state.specs.Sizes.{state_size}
use Rattle.line.proofs.LoadLaws.{plan_short, plan_refused, size_refused, loaded, load_written}
use Rattle.line.proofs.line_load.Goals as goal

pub returns-in_err-plan_check : goal.returns-in_err-plan_check
returns-in_err-plan_check c =
    let a = c.args in
    let r = c.in_err-plan_check.field-0.0 in
    let told : c.from_residual.result ≡ Err r = search rules in
    let is : refusal_number r ≡ plan_refusal a.plan.now = sym (ap number c.in_err-plan_check.was) ∙ c.plan_check.ensures in
    rw (told, is) (plan_refused a.plan.now a.state.now (λ e. refusal_some r (is ∙ e)))

pub returns-then-state-ne-STATE_SIZE : goal.returns-then-state-ne-STATE_SIZE
returns-then-state-ne-STATE_SIZE c =
    let a = c.args in
    size_refused a.plan.now a.state.now (sym c.plan_check.ensures ∙ ap number c.in_ok-plan_check.was) c.if-state-ne-STATE_SIZE.true

pub copy_to-requires : goal.copy_to-requires
copy_to-requires c =
    let a = c.args in
    omega (arith, plan_short a.plan.now (sym c.plan_check.ensures ∙ ap number c.in_ok-plan_check.was))

pub fill_zero-requires : goal.fill_zero-requires
fill_zero-requires c =
    let a = c.args in
    omega (arith, c.copy_to.auto.to, plan_short a.plan.now (sym c.plan_check.ensures ∙ ap number c.in_ok-plan_check.was))

pub returns : goal.returns
returns c =
    let plan : List ℕ = c.args.plan.now in
    let state : List ℕ = c.args.state.now in
    let z : plan_refusal plan ≡ 0 = sym c.plan_check.ensures ∙ ap number c.in_ok-plan_check.was in
    let size : length state ≡ state_size = c.if-state-ne-STATE_SIZE.false in
    let l = loaded plan state (bytes_known plan (λ i. (c.type_inv.plan i).fits)) z size in
    (l.0, c.fill_zero.ensures ∙ load_written plan state c.copy_to.new.to c.copy_to.ensures (c.copy_to.auto.to ∙ size) ∙ l.1)
