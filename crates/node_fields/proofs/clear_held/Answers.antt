use Rattle.node_fields.proofs.FieldLaws.{held_whole, held-cleared}
use Rattle.node_fields.proofs.clear_held.Goals as goal

pub clear-requires : goal.clear-requires
clear-requires c = held_whole c.requires

pub returns : goal.returns
returns c = held-cleared c.requires c.clear.ensures
