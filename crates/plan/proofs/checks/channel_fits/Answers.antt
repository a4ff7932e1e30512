use Rattle.plan.specs.Channel.{channel_fits}
use Rattle.plan.proofs.checks.channel_fits.Goals as goal

pub returns : goal.returns
unfolding channel_fits
returns c = rw c.from.ensures
