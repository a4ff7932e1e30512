use Rattle.rules.specs.Line.{lane_at}
use Rattle.state.specs.State.{line_of}
use Rattle.slots.specs.Slots.{entry_is}
use Rattle.buffer.proofs.HoldsLaws.{lane_then}
use Rattle.passing.proofs.SendLaws.{sent_twice}
use Rattle.passing.proofs.put_on.Goals as goal

pub returns : goal.returns
returns c =
    let a = c.args in
    let both = lane_then c.requires.0 c.push_message.ensures c.set_mark.ensures in
    record { holds = rw (c.message_of-m.ensures, sent_twice (entry_is a.e) (lane_at (line_of a.s.now) a.b)) at both.holds; on = both.on }
