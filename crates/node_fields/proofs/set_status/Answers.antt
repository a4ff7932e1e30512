use Rattle.buffer.specs.Status.{status_is}
use Rattle.node_fields.proofs.FieldLaws.{status_written}
use Rattle.node_fields.proofs.set_status.Goals as goal

pub returns : goal.returns
returns c = status_written c.requires (status_is c.args.status) (rw c.from.ensures at c.put8.ensures)
