use Rattle.node_fields.proofs.FieldLaws.{targets_whole, targets_cleared}
use Rattle.node_fields.proofs.clear_targets.Goals as goal

pub clear-requires : goal.clear-requires
clear-requires c = targets_whole c.requires

pub returns : goal.returns
returns c = targets_cleared c.requires c.clear.ensures
