use mathlib.Core.Path.{◌∙◌}
use Rattle.channel_fields.proofs.LaneReads.{first_read}
use Rattle.channel_fields.proofs.first_of.Goals as goal

pub returns : goal.returns
returns c = c.read.ensures ∙ first_read c.args.s.now c.args.b c.requires.0 c.requires.1
