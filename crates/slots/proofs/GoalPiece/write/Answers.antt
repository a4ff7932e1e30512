use native.Mathlib.Omega.{arith}
use Rattle.slots.specs.Slots.{target_is}
use Rattle.slots.proofs.SlotLaws.{target-written}
use Rattle.slots.proofs.GoalPiece.write.Goals as goal

pub returns : goal.returns
returns c =
    let a = c.args in
    rw (c.put16.ensures, c.put8-2.ensures, c.put8.ensures, c.put32-2.ensures, c.put32.ensures) (target-written a.s.now a.at (omega arith) (target_is a.self))
