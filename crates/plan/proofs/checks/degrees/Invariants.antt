use Rattle.plan.proofs.DegreeLaws.{Counting}
use Rattle.plan.proofs.checks.degrees.Given as goal

abbrev pub invariant-loop-b : goal.invariant-loop-b
invariant-loop-b l = Counting l.plan l.degrees l.b
