use Rattle.plan.specs.Plan.{is_sink}
use Rattle.buffer.proofs.look.is_sink.Goals as goal

pub returns : goal.returns
unfolding is_sink
returns c = rw (c.leaving.ensures.few c.requires.channels) at c.is_empty.ensures
