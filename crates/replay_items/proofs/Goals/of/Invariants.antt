use Rattle.std.proofs.Common.{◌≡◌, map, length, take}
use Rattle.rules.specs.Line.{node_at}
use Rattle.state.specs.State.{line_of}
use Rattle.slots.specs.Slots.{target_is}
use Rattle.replay_items.proofs.Goals.of.Given as goal

abbrev pub invariant-loop-i : goal.invariant-loop-i
invariant-loop-i l = (length l.list ≡ 64) × (map target_is (take l.i l.list) ≡ take l.i (node_at (line_of l.s) l.n).targets)
