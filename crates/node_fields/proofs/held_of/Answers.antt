use mathlib.Core.Path.{sym, ◌∙◌}
use Rattle.buffer.specs.Nothing.{no_held}
use Rattle.node_fields.proofs.FieldLaws.{held_read}
use Rattle.node_fields.proofs.held_of.Goals as goal

pub returns : goal.returns
returns c = rw c.place.ensures at c.read.ensures ∙ sym (held_read c.requires.0 c.args.i no_held c.requires.1)
