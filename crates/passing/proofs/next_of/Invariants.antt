use Rattle.plan.specs.Plan.{plan_of, channel_at}
use Rattle.rules.specs.Line.{node_at}
use Rattle.state.specs.State.{line_of}
use Rattle.passing.proofs.NextLaws.{Searched}
use Rattle.passing.proofs.next_of.Given as goal

abbrev pub invariant-loop-i : goal.invariant-loop-i
invariant-loop-i l = Searched (channel_at (plan_of l.s) l.b) l.mark (node_at (line_of l.s) l.n).log l.i
