use mathlib.Core.Bool.{true}
use Rattle.node_fields.proofs.FieldLaws.{crash_written}
use Rattle.node_fields.proofs.mark_crashed.Goals as goal

pub returns : goal.returns
returns c = crash_written c.requires true c.put8.ensures
