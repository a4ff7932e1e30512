use native.Mathlib.Omega.{arith}
use Rattle.slots.specs.Slots.{held_is}
use Rattle.slots.proofs.SlotLaws.{held-written}
use Rattle.slots.proofs.WaitingPiece.write.Goals as goal

pub returns : goal.returns
returns c =
    let a = c.args in
    rw (c.put16.ensures, c.write-2.ensures, c.put32.ensures, c.put8.ensures, c.write.ensures) (held-written a.s.now a.at (omega arith) (held_is a.self))
