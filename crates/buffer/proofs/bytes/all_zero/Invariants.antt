use mathlib.Core.Path.{◌≡◌}
use lib.Dec.{eqb}
use lib.ListN.{take}
use Rattle.buffer.specs.Zero.{zero_bytes}
use Rattle.buffer.proofs.bytes.all_zero.Given as goal

abbrev pub invariant-loop-b : goal.invariant-loop-b
invariant-loop-b l = eqb 0 l.seen ≡ zero_bytes (take l.b-index l.b-items)
