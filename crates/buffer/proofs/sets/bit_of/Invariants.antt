use Rattle.plan.specs.Plan.{plan_of}
use Rattle.buffer.proofs.SetLaws.{Behind}
use Rattle.buffer.proofs.sets.bit_of.Given as goal

abbrev pub invariant-loop-k : goal.invariant-loop-k
invariant-loop-k l = Behind (plan_of l.s) l.b l.k l.bit
