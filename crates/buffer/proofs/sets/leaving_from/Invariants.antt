use Prim.Native.Nat.{◌≤◌, max}
use Rattle.plan.specs.Plan.{plan_of}
use Rattle.buffer.specs.Sets.{LeaveFrom}
use Rattle.buffer.proofs.sets.leaving_from.Given as goal

abbrev pub invariant-loop-b : goal.invariant-loop-b
invariant-loop-b l = LeaveFrom (plan_of l.s) l.n l.b × (l.b ≤ max l.m l.from)
