use mathlib.Core.Path.{sym, ◌∙◌}
use Rattle.buffer.specs.Nothing.{no_target}
use Rattle.node_fields.proofs.FieldLaws.{target_read}
use Rattle.node_fields.proofs.target_of.Goals as goal

pub returns : goal.returns
returns c = rw c.place.ensures at c.read.ensures ∙ sym (target_read c.requires.0 c.args.i no_target c.requires.1)
