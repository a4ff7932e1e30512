use Rattle.node_check.proofs.PieceBytes.{held_plain_lem}
use Rattle.node_check.proofs.held_plain.Goals as goal

pub returns : goal.returns
returns c =
    held_plain_lem c.args.at c.args.s.now c.record_ok-what.result c.requires c.record_ok-what.ensures
