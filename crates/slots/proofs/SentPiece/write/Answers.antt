use native.Mathlib.Omega.{arith}
use Rattle.slots.specs.Slots.{message_is}
use Rattle.slots.proofs.SlotLaws.{message-written}
use Rattle.slots.proofs.SentPiece.write.Goals as goal

pub returns : goal.returns
returns c =
    let a = c.args in
    rw (c.put8.ensures, c.put16.ensures, c.write-2.ensures, c.put32.ensures, c.write.ensures) (message-written a.s.now a.at (omega arith) (message_is a.self))
