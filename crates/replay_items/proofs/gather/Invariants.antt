use Rattle.plan.specs.Mask.{listed}
use Rattle.replay_items.specs.Items.{held_by}
use Rattle.replay_items.proofs.TableLaws.{RowsTo}
use Rattle.replay_items.proofs.gather.Given as goal

abbrev pub invariant-loop-row : goal.invariant-loop-row
invariant-loop-row l =
    (goal.iterator-loop-row).can_next l.row-iterator × (goal.iterator-loop-row).is_finite l.row-iterator
    × RowsTo l.s l.e.node (held_by l.s l.e) l.initial.items l.row-iterator.count (listed l.row-iterator.iter) l.items
