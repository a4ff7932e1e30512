use mathlib.Core.Path.{◌∙◌}
use Rattle.frame.proofs.FrameLaws.{version_field}
use Rattle.frame.proofs.version_of.Goals as goal

pub returns : goal.returns
returns c = c.get8.ensures ∙ version_field c.args.frame.now
