use Prim.Native.Nat.{◌*◌}
use Rattle.slots.proofs.SlotLaws.{Gone}
use Rattle.slots.proofs.move_slot.Given as goal

abbrev pub invariant-loop-k : goal.invariant-loop-k
invariant-loop-k l = Gone l.initial.s l.from l.to l.s (8 * l.k)
