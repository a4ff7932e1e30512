use Prim.Native.Nat.{ℕ, ◌<◌}
use mathlib.Core.Path.{◌≡◌}
use mathlib.Core.Bool.{true}
use lib.ListN.{get_or}
use Rattle.rules.specs.Line.{node_at}
use Rattle.rules.specs.Trim.{droppable}
use Rattle.state.specs.State.{line_of}
use Rattle.buffer.specs.Nothing.{no_entry}
use Rattle.trim.proofs.run_of.Given as goal

abbrev pub invariant-loop-i : goal.invariant-loop-i
invariant-loop-i l = (j : ℕ) → j < l.i → droppable (line_of l.s) l.n (get_or (node_at (line_of l.s) l.n).log j no_entry) ≡ true
