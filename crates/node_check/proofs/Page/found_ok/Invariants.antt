use Rattle.plan.specs.Plan.{plan_of}
use Rattle.rules.specs.Line.{node_at}
use Rattle.state.specs.State.{line_of}
use Rattle.node_check.proofs.SetLaws.{BitsLeft}
use Rattle.node_check.proofs.Page.found_ok.Given as goal

abbrev pub invariant-loop-b : goal.invariant-loop-b
invariant-loop-b l = BitsLeft (plan_of l.s) l.self.n l.first (node_at (line_of l.s) l.self.n).log l.b l.k
