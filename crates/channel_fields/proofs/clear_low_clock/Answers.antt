use Rattle.channel_fields.proofs.LaneWrites.{low_cleared}
use Rattle.channel_fields.proofs.clear_low_clock.Goals as goal

pub returns : goal.returns
returns c =
    low_cleared c.args.s.now c.fill_zero.new.s c.args.b c.requires c.fill_zero.ensures
