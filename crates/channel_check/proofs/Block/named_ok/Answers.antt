use Rattle.channel_check.proofs.MessageLaws.{named_fed, named_made}
use Rattle.channel_check.proofs.Block.named_ok.Goals as goal

pub returns-then-from-eq0 : goal.returns-then-from-eq0
returns-then-from-eq0 c =
    let a = c.args in
    let p = a.self.now in
    rw c.is_source.ensures (named_fed p.joins.state.now p.steps p.all p.sender a.from a.time c.if-from-eq0.true)

pub returns : goal.returns
returns c =
    let a = c.args in
    let p = a.self.now in
    named_made p.joins.state.now p.steps p.all p.sender a.from a.time c.is_parent-parent.result c.if-from-eq0.false c.is_parent-parent.ensures
