use Rattle.stream.proofs.ReaderLaws.{gave_planning, gave_framing, gave_ended}
use Rattle.stream.proofs.Reader.take_block.Goals as goal

pub returns-in-Planning : goal.returns-in-Planning
returns-in-Planning c =
    let a = c.args in
    gave_planning a.self a.state.now a.window.now a.n c.requires c.in-Planning.is (rw c.new-text.ensures.front.0 at c.plan_block.ensures.gave)

pub returns-in-Framing : goal.returns-in-Framing
returns-in-Framing c =
    let a = c.args in
    gave_framing a.self a.state.now a.window.now a.n c.requires c.in-Framing.is (rw c.new-text.ensures.front.0 at c.frame_block.ensures.gave)

pub returns-in-Ended : goal.returns-in-Ended
returns-in-Ended c =
    let a = c.args in
    rw (c.new-text.ensures.front.0, c.ended.ensures) (gave_ended a.self a.state.now a.window.now a.n c.requires c.in-Ended.is a.out.now)
