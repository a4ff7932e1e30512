use Rattle.slots.proofs.SlotLaws.{Moved}
use Rattle.slots.proofs.close_up.Given as goal

abbrev pub invariant-loop-i : goal.invariant-loop-i
invariant-loop-i g l = Moved l.initial.s l.at l.gap l.size l.count l.s l.i
