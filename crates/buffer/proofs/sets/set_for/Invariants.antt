use Rattle.plan.specs.Plan.{plan_of}
use Rattle.buffer.proofs.SetLaws.{Found}
use Rattle.buffer.proofs.sets.set_for.Given as goal

abbrev pub invariant-loop-b : goal.invariant-loop-b
invariant-loop-b l = Found (plan_of l.s) l.n l.r l.first l.b l.set l.bit
