use Rattle.buffer.proofs.OriginLaws.{origin_at_source}
use Rattle.buffer.proofs.joins.Joins.origin_ok.Goals as goal

pub returns-then-from-eq0 : goal.returns-then-from-eq0
returns-then-from-eq0 c =
    let a = c.args in
    rw c.is_source-source.ensures (origin_at_source a.self.now.state.now a.self.now.ready a.n a.from a.time a.earlier a.since c.if-from-eq0.true)
