use native.Mathlib.Omega.{arith}
use Rattle.trim.proofs.FloorLaws.{lowered_on}
use Rattle.trim.proofs.lower_on.Goals as goal

pub returns : goal.returns
returns c =
    let a = c.args in
    let joins = a.joins.now in
    rw (c.min.ensures, c.taken_of.ensures)
    (lowered_on joins.state.now a.b c.sender_of-sender.result a.floors.now c.lower_heard.new.floors c.sender_of-sender.ensures.0 (omega (arith, c.sender_of-sender.ensures.1, joins.ready.nodes)) c.lower_heard.ensures)
