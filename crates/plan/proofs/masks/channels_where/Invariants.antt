use Rattle.plan.proofs.MaskLaws.{Grown}
use Rattle.plan.specs.Plan.{plan_of}
use Rattle.plan.specs.Mask.{Tests}
use Rattle.plan.proofs.masks.channels_where.Given as goal

abbrev pub invariant-loop-b : goal.invariant-loop-b
invariant-loop-b g l = Grown (plan_of l.plan).channels (Tests (goal.F-post g l.passes)) l.mask l.b
