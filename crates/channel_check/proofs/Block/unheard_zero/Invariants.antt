use Prim.Native.Nat.{◌+◌, ◌*◌, ◌-◌}
use mathlib.Core.Path.{◌≡◌}
use lib.Dec.{eqb}
use Rattle.state.specs.Sizes.{block_at, heard_at}
use Rattle.buffer.specs.Exact.{zero_at}
use Rattle.channel_check.proofs.Block.unheard_zero.Given as goal

-- The words before the i-th are seen.
abbrev pub invariant-loop-i : goal.invariant-loop-i
invariant-loop-i l = eqb 0 l.seen ≡ zero_at (block_at l.self.b + heard_at + 4 * l.heard) (4 * (l.i - l.heard)) l.s
