use Rattle.buffer.proofs.HoldsLaws.{lane_then}
use Rattle.restart.proofs.wipe.Goals as goal

pub returns : goal.returns
returns c =
    let on = c.requires in
    lane_then on (lane_then on (lane_then on (lane_then on c.set_mark.ensures c.set_taken.ensures) c.clear_heard.ensures) c.clear_queue.ensures) c.clear_low_clock.ensures
