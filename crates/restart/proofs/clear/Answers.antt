use Rattle.buffer.proofs.HoldsLaws.{lane_then}
use Rattle.restart.proofs.clear.Goals as goal

pub returns : goal.returns
returns c =
    let on = c.requires in
    lane_then on c.set_mark.ensures c.clear_queue.ensures
