use Prim.Native.Nat.{◌-◌}
use native.Mathlib.Omega.{arith}
use lib.ListN.{take, drop}
use Rattle.buffer.proofs.BytesLaws.{zero_turn}
use Rattle.buffer.proofs.bytes.all_zero.Goals as goal

pub loop-b-preserved : goal.loop-b-preserved
loop-b-preserved c =
    let a = c.args in
    zero_turn (take (a.to - a.from) (drop a.from a.s.now)) c.loop-b.b-index c.loop-b.seen (omega (arith, c.loop-b-test.true)) c.loop-b.invariant
