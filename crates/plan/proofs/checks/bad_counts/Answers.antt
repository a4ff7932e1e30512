use Rattle.plan.specs.Check.{bad_counts}
use Rattle.plan.proofs.checks.bad_counts.Goals as goal

pub returns : goal.returns
unfolding bad_counts
returns c = rw (c.channel_count-m.ensures.0, c.node_count-n.ensures.0)
