use mathlib.Core.Path.{◌∙◌}
use Rattle.frame.proofs.FrameLaws.{kind_field}
use Rattle.frame.proofs.kind_of.Goals as goal

pub returns : goal.returns
returns c = c.get8.ensures ∙ kind_field c.args.frame.now
