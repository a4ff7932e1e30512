use mathlib.Core.Path.{◌∙◌}
use Rattle.channel_fields.proofs.LaneReads.{mark_word}
use Rattle.channel_fields.proofs.mark_of.Goals as goal

pub returns : goal.returns
returns c = c.get32.ensures ∙ mark_word c.args.s.now c.args.b c.requires.0 c.requires.1
