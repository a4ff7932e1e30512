use Rattle.state.specs.Pieces.{origin_from}
use Rattle.buffer.specs.Exact.{time_named}
use Rattle.buffer.proofs.OriginLaws.{made_missing, made_there}
use Rattle.buffer.proofs.joins.Joins.made_ok.Goals as goal

pub returns-in_default : goal.returns-in_default
returns-in_default c =
    let a = c.args in
    let j = a.self.now in
    made_missing j.state.now j.ready a.n a.sender a.time (time_named a.earlier a.since) (origin_from a.earlier a.since) c.in_default.ensures.found

pub returns : goal.returns
returns c =
    let a = c.args in
    let j = a.self.now in
    rw (c.before_ok-rest.ensures, c.get32-taken.ensures)
    (made_there j.state.now j.ready a.n a.sender a.time (time_named a.earlier a.since) (origin_from a.earlier a.since) c.in-Some.joint.channel c.in-Some.ensures.below c.in-Some.ensures.found)
