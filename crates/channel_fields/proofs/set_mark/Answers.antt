use native.Mathlib.Omega.{arith}
use Rattle.channel_fields.proofs.LaneWrites.{mark-put}
use Rattle.channel_fields.proofs.set_mark.Goals as goal

pub returns : goal.returns
returns c =
    mark-put c.args.s.now c.put32.new.s c.args.b c.requires c.args.time (omega arith) c.put32.ensures
