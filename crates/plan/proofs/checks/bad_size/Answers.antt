use Rattle.plan.specs.Check.{bad_size}
use Rattle.plan.proofs.checks.bad_size.Goals as goal

pub returns : goal.returns
unfolding bad_size
returns c = rw c.size_by_head.ensures.0
