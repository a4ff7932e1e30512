use Prim.Native.Nat.{◌<◌}
use mathlib.Core.Path.{◌≡◌}
use native.Mathlib.Omega.{arith}
use Rattle.std.proofs.Common.{rules}
use Rattle.std.specs.Prelude.{Err}
use Rattle.plan.proofs.BytesLaws.{bytes_known}
use Rattle.rules.specs.Line.{step_limit, steps_from}
use Rattle.rules.specs.Frame.{frame_of}
use Rattle.state.specs.State.{line_of}
use Rattle.step.proofs.StepLaws.{frame_step, limit_step, kind_refused, kind_accepted, few_left}
use Rattle.step.proofs.step.Goals as goal

pub returns-in_err-console : goal.returns-in_err-console
returns-in_err-console c =
    let told : c.from_residual.result ≡ Err c.in_err-console.field-0.0 = search rules in
    rw told (frame_step c.args.s.now c.args.frame.now c.requires c.in_err-console.field-0.0 c.in_err-console.ensures)

pub returns-then-steps_from-ge-STEP_LIMIT : goal.returns-then-steps_from-ge-STEP_LIMIT
returns-then-steps_from-ge-STEP_LIMIT c =
    limit_step c.args.s.now c.args.frame.now c.requires c.in_ok-console.ensures (omega (arith, c.if-steps_from-ge-STEP_LIMIT.true, c.steps_from.ensures))

pub returns-in_err-asked : goal.returns-in_err-asked
returns-in_err-asked c =
    let by = c.in_ok-console.ensures in
    let left : steps_from (line_of c.args.s.now) c.in_ok-console.field-0.console < step_limit = omega (arith, c.if-steps_from-ge-STEP_LIMIT.false, c.steps_from.ensures) in
    let told : c.from_residual-in_err-asked.result ≡ Err c.in_err-asked.field-0.0 = search rules in
    let did = c.asked.ensures (frame_of c.args.frame.now) by.asks in
    rw told (kind_refused c.args.s.now c.args.frame.now c.requires by left c.asked.new.s c.in_err-asked.field-0.0 (rw c.in_err-asked.was at did))

pub count_step-requires : goal.count_step-requires
count_step-requires c =
    let by = c.in_ok-console.ensures in
    let left : steps_from (line_of c.args.s.now) c.in_ok-console.field-0.console < step_limit = omega (arith, c.if-steps_from-ge-STEP_LIMIT.false, c.steps_from.ensures) in
    few_left c.args.s.now c.args.frame.now c.requires by left c.asked.new.s (rw c.in_ok-asked.was at c.asked.ensures (frame_of c.args.frame.now) by.asks)

pub returns : goal.returns
returns c =
    let by = c.in_ok-console.ensures in
    let left : steps_from (line_of c.args.s.now) c.in_ok-console.field-0.console < step_limit = omega (arith, c.if-steps_from-ge-STEP_LIMIT.false, c.steps_from.ensures) in
    let bytes = bytes_known c.args.frame.now (λ i. (c.type_inv.frame i).fits) in
    kind_accepted c.args.s.now c.args.frame.now c.requires by left bytes c.asked.new.s c.count_step.new.s (rw c.in_ok-asked.was at c.asked.ensures (frame_of c.args.frame.now) by.asks) c.count_step.ensures
