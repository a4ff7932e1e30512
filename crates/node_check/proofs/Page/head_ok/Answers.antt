use native.Mathlib.Omega.{arith}
use Rattle.node_check.proofs.NodeLaws.{head_tested, page_room}
use Rattle.node_check.proofs.Page.head_ok.Goals as goal

pub returns : goal.returns
returns c =
    let p = c.args.self.now in
    head_tested p.joins.state.now p.at p.steps c.get32-time.result (omega (arith, page_room p.there)) c.get32-time.ensures
