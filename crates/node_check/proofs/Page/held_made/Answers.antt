use mathlib.Core.Path.{◌∙◌}
use Rattle.node_check.proofs.PieceBytes.{held_made_lem}
use Rattle.node_check.proofs.Page.held_made.Goals as goal

pub returns : goal.returns
returns c =
    let p = c.args.self.now in
    c.made_ok.ensures ∙ held_made_lem p.n c.args.slot p.joins.state.now c.from-sender.result c.get32-time.result c.from-earlier.result c.get32-since.result c.from-sender.ensures c.get32-time.ensures c.from-earlier.ensures c.get32-since.ensures
