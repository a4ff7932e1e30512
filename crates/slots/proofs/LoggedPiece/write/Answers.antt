use native.Mathlib.Omega.{arith}
use Rattle.slots.specs.Slots.{entry_is}
use Rattle.slots.proofs.SlotLaws.{entry-written}
use Rattle.slots.proofs.LoggedPiece.write.Goals as goal

pub returns : goal.returns
returns c =
    let a = c.args in
    rw (c.put8-2.ensures, c.put8.ensures, c.write-3.ensures, c.write-2.ensures, c.put32.ensures, c.write.ensures) (entry-written a.s.now a.at (omega arith) (entry_is a.self))
