use Rattle.channel_fields.proofs.LaneReads.{queue_whole}
use Rattle.channel_fields.proofs.LaneWrites.{queue_cleared}
use Rattle.channel_fields.proofs.clear_queue.Goals as goal

pub clear-requires : goal.clear-requires
clear-requires c = queue_whole c.args.s.now c.args.b c.requires

pub returns : goal.returns
returns c = queue_cleared c.args.s.now c.clear.new.s c.args.b c.requires c.clear.ensures
