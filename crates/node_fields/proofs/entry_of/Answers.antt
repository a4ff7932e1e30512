use mathlib.Core.Path.{sym, ◌∙◌}
use Rattle.buffer.specs.Nothing.{no_entry}
use Rattle.node_fields.proofs.FieldLaws.{log_read}
use Rattle.node_fields.proofs.entry_of.Goals as goal

pub returns : goal.returns
returns c = rw c.place.ensures at c.read.ensures ∙ sym (log_read c.requires.0 c.args.i no_entry c.requires.1)
