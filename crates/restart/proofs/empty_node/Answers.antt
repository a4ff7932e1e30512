use Rattle.buffer.proofs.HoldsLaws.{node_then}
use Rattle.restart.proofs.empty_node.Goals as goal

pub returns : goal.returns
returns c =
    let on = c.requires in
    node_then on
    (node_then on (node_then on (node_then on (node_then on (node_then on c.set_status.ensures c.mark_crashed.ensures) c.set_time.ensures) c.clear_log.ensures) c.clear_held.ensures) c.clear_targets.ensures)
    c.clear_kept.ensures
