use native.Mathlib.Omega.{arith}
use Rattle.plan.specs.Plan.{plan_of, leaving}
use Rattle.plan.proofs.TakingLaws.{mask_planned}
use Rattle.plan.proofs.masks.leaving_mask.Goals as goal

pub returns : goal.returns
returns c =
    let a = c.args in
    mask_planned a.plan.now c.leaving.result.mask (leaving (plan_of a.plan.now) a.node) (omega arith) c.leaving.ensures.few c.leaving.ensures.many
