use Rattle.std.proofs.Common.{◌≡◌, ◌++◌, map}
use Rattle.state.specs.State.{line_of}
use Rattle.replay_items.specs.Items.{held_by, listed_of, row_slots}
use Rattle.replay_items.proofs.TableLaws.{rest}
use Rattle.replay_items.proofs.gather_row.Given as goal

abbrev pub invariant-loop-i : goal.invariant-loop-i
invariant-loop-i l =
    l.items ++ rest (line_of l.s) l.e.node (held_by l.s l.e) l.parent l.row l.i ≡ l.initial.items ++ map (listed_of (line_of l.s) l.e.node (held_by l.s l.e)) (row_slots (held_by l.s l.e) l.parent l.row)
