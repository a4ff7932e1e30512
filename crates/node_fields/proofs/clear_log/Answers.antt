use Rattle.node_fields.proofs.FieldLaws.{log_whole, log_cleared}
use Rattle.node_fields.proofs.clear_log.Goals as goal

pub clear-requires : goal.clear-requires
clear-requires c = log_whole c.requires

pub returns : goal.returns
returns c = log_cleared c.requires c.clear.ensures
