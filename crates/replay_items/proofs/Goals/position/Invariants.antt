use Rattle.std.proofs.Common.{◌≡◌, ◌≤◌, ◌<◌, ℕ, get_or, false}
use Rattle.slots.specs.Slots.{held_is}
use Rattle.buffer.specs.Nothing.{no_target}
use Rattle.replay_items.specs.Items.{is_target}
use Rattle.replay_items.proofs.Goals.position.Given as goal

abbrev pub invariant-loop-i : goal.invariant-loop-i
invariant-loop-i l = (j : ℕ) → l.from ≤ j → j < l.i → is_target (held_is l.h) (get_or l.self j no_target) ≡ false
