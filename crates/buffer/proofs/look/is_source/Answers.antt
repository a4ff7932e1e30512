use Rattle.plan.specs.Plan.{is_source}
use Rattle.buffer.proofs.look.is_source.Goals as goal

pub returns : goal.returns
unfolding is_source
returns c = rw (c.entering.ensures.few c.requires.channels) at c.is_empty.ensures
