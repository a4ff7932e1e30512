use mathlib.Core.Path.{refl}
use native.Mathlib.Omega.{arith}
use Rattle.answers.specs.Number.{refusal_number}
use Rattle.plan.proofs.BytesLaws.{bytes_known}
use Rattle.stream.proofs.PlanningLaws.{refused, size_within, loaded_workable, closed_loaded, closed_refused}
use Rattle.stream.proofs.plan_end.Goals as goal

pub returns-in-Err-clause-finished : goal.returns-in-Err-clause-finished
returns-in-Err-clause-finished c =
    let a = c.args in
    closed_refused a.state.now a.window.now a.end a.text.now.out.now c.requires.0 c.plan_size-size.result (size_within a.window.now a.end c.requires.0.inside c.plan_size-size.ensures)
    (bytes_known a.window.now (λ i. (c.type_inv.window i).fits)) (refusal_number c.in-Err.refusal) c.in-Err.ensures.0 (refused c.in-Err.refusal)
    (rw (c.requires.1, c.from.ensures) at c.answer_line.ensures.wrote) (omega arith) c.in-Err.ensures.1 c.plan_size-size.ensures

pub frame_end-requires : goal.frame_end-requires
frame_end-requires c =
    let a = c.args in (
      loaded_workable a.state.now a.window.now a.end a.text.now.out.now c.requires.0 c.plan_size-size.result (size_within a.window.now a.end c.requires.0.inside c.plan_size-size.ensures)
          (bytes_known a.window.now (λ i. (c.type_inv.window i).fits)) 0 c.in_default.ensures.0 refl c.in_default.ensures.1,
      c.requires.1,
    )

pub returns-clause-finished : goal.returns-clause-finished
returns-clause-finished c =
    let a = c.args in
    closed_loaded a.state.now a.window.now a.end a.text.now.out.now c.requires.0 c.plan_size-size.result (size_within a.window.now a.end c.requires.0.inside c.plan_size-size.ensures)
    (bytes_known a.window.now (λ i. (c.type_inv.window i).fits)) 0 c.in_default.ensures.0 refl c.in_default.ensures.1 c.plan_size-size.ensures c.frame_end.ensures.finished
