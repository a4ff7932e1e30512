use native.Mathlib.Omega.{arith}
use Rattle.plan.specs.Plan.{plan_of, entering}
use Rattle.plan.proofs.TakingLaws.{mask_planned}
use Rattle.plan.proofs.masks.entering_mask.Goals as goal

pub returns : goal.returns
returns c =
    let a = c.args in
    mask_planned a.plan.now c.entering.result.mask (entering (plan_of a.plan.now) a.node) (omega arith) c.entering.ensures.few c.entering.ensures.many
