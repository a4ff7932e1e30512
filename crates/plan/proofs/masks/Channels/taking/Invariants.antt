use Rattle.plan.specs.Plan.{plan_of}
use Rattle.plan.specs.Mask.{listed, takes_at}
use Rattle.plan.proofs.TakingLaws.{Passed}
use Rattle.plan.proofs.masks.Channels.taking.Given as goal

abbrev pub invariant-loop-b : goal.invariant-loop-b
invariant-loop-b l =
    (goal.iterator-loop-b).can_next l.b-iterator × (goal.iterator-loop-b).is_finite l.b-iterator × Passed (takes_at (plan_of l.plan) l.r) (listed l.fn.self) (listed l.b-iterator) l.mask
