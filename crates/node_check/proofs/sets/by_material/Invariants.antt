use Rattle.plan.specs.Plan.{plan_of}
use Rattle.node_check.proofs.MaterialLaws.{Listing}
use Rattle.node_check.proofs.sets.by_material.Given as goal

abbrev pub invariant-loop-b : goal.invariant-loop-b
invariant-loop-b l = Listing (plan_of l.s) l.n l.first l.sets l.b l.bit
