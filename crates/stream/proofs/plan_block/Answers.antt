use mathlib.Core.Path.{refl}
use native.Mathlib.Omega.{arith}
use Rattle.answers.specs.Number.{refusal_number}
use Rattle.plan.proofs.BytesLaws.{bytes_known}
use Rattle.stream.proofs.PlanningLaws.{refused, waiting_few, waiting_part, loaded_workable, block_loaded, block_refused}
use Rattle.stream.proofs.plan_block.Goals as goal

pub returns-then-end-lt2-clause-gave : goal.returns-then-end-lt2-clause-gave
returns-then-end-lt2-clause-gave c =
    let a = c.args in
    rw c.waiting.ensures (waiting_few a.state.now a.window.now a.end a.text.now.out.now c.requires.0 c.if-end-lt2.true)

pub returns-then-end-size-clause-gave : goal.returns-then-end-size-clause-gave
returns-then-end-size-clause-gave c =
    let a = c.args in
    rw c.waiting-then-end-size.ensures (waiting_part a.state.now a.window.now a.end a.text.now.out.now c.requires.0 c.field-size.result c.if-end-lt2.false c.field-size.ensures.0 c.if-end-size.true (omega (arith, c.field-size.ensures.1)))

pub returns-in-Err-clause-gave : goal.returns-in-Err-clause-gave
returns-in-Err-clause-gave c =
    let a = c.args in
    rw c.ended.ensures
    (block_refused a.state.now a.window.now a.end a.text.now.out.now c.requires.0 c.field-size.result c.if-end-size.false
    (bytes_known a.window.now (λ i. (c.slice_known-2-1.given i).fits)) (refusal_number c.in-Err.refusal) c.in-Err.ensures.0 (refused c.in-Err.refusal)
    (rw (c.requires.1, c.from.ensures) at c.answer_line.ensures.wrote) (omega arith) c.in-Err.ensures.1 c.if-end-lt2.false c.field-size.ensures.0)

pub frame_block-requires : goal.frame_block-requires
frame_block-requires c =
    let a = c.args in (
      loaded_workable a.state.now a.window.now a.end a.text.now.out.now c.requires.0 c.field-size.result c.if-end-size.false
          (bytes_known a.window.now (λ i. (c.slice_known-2-1.given i).fits)) 0 c.in_default.ensures.0 refl c.in_default.ensures.1,
      c.requires.1,
    )

pub returns-clause-gave : goal.returns-clause-gave
returns-clause-gave c =
    let a = c.args in
    block_loaded a.state.now a.window.now a.end a.text.now.out.now c.requires.0 c.field-size.result c.if-end-size.false
    (bytes_known a.window.now (λ i. (c.slice_known-2-1.given i).fits)) 0 c.in_default.ensures.0 refl c.in_default.ensures.1 c.if-end-lt2.false c.field-size.ensures.0 c.frame_block.ensures.gave
