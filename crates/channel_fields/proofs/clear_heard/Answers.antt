use Rattle.channel_fields.proofs.LaneWrites.{heard_cleared}
use Rattle.channel_fields.proofs.clear_heard.Goals as goal

pub returns : goal.returns
returns c =
    heard_cleared c.args.s.now c.fill_zero.new.s c.args.b c.requires c.fill_zero.ensures
