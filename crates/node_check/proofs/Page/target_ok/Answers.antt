use Rattle.state.specs.State.{line_of}
use Rattle.node_check.proofs.PieceBytes.{target_tested}
use Rattle.node_check.proofs.Page.target_ok.Goals as goal

pub returns : goal.returns
returns c =
    let p = c.args.self.now in
    let s = p.joins.state.now in
    rw p.all
    (target_tested (line_of s) p.n c.args.slot s c.requires c.get32-time.result c.get32-other.result c.from.result c.get32-time.ensures c.get32-other.ensures c.from.ensures c.is_parent-parent.result c.is_parent-parent.ensures)
