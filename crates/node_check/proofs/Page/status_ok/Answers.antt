use mathlib.Core.Path.{◌≡◌, refl, ◌∙◌}
use denote.Enum.Bare.{sameb}
use Rattle.rules.specs.Line.{is_up}
use Rattle.buffer.specs.declared.status.Status.{Status}
use Rattle.buffer.specs.declared.status.Status.TheVariants.{Up, Down, Replaying}
use Rattle.buffer.specs.contracts.status.Status.{the_type}
use Rattle.buffer.specs.Status.{status_is}
use Rattle.node_check.proofs.NodeLaws.{status_tested}
use Rattle.node_check.proofs.Page.status_ok.Goals as goal

same : (status : Status) → sameb the_type status Up ≡ is_up (status_is status)
same Up = refl
same Down = refl
same Replaying = refl

pub returns : goal.returns
returns c =
    let p = c.args.self.now in
    let status = c.status_of-status.result in
    status_tested p.joins.state.now p.n p.at p.there (status_is status) c.eq.result c.has_crashed-crashed.result c.marks_an_end-end.result c.suit.result c.get32.result c.get32-2.result c.get32-3.result c.get32-4.result c.get32-5.result
    c.status_of-status.ensures (c.eq.ensures ∙ same status) c.has_crashed-crashed.ensures c.get32.ensures c.get32-2.ensures c.get32-3.ensures c.get32-4.ensures c.get32-5.ensures c.marks_an_end-end.ensures c.suit.ensures
