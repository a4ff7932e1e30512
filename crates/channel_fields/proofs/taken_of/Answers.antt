use mathlib.Core.Path.{◌∙◌}
use Rattle.channel_fields.proofs.LaneReads.{taken_word}
use Rattle.channel_fields.proofs.taken_of.Goals as goal

pub returns : goal.returns
returns c = c.get32.ensures ∙ taken_word c.args.s.now c.args.b c.requires.0 c.requires.1
