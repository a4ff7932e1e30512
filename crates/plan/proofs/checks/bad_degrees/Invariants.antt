use mathlib.Core.Path.{◌≡◌}
use Rattle.plan.specs.Plan.{plan_of}
use Rattle.plan.specs.Check.{four_at_most}
use Rattle.plan.proofs.checks.bad_degrees.Given as goal

abbrev pub invariant-loop-degree : goal.invariant-loop-degree
invariant-loop-degree l = l.ok ≡ four_at_most (plan_of l.plan) l.degree-index
