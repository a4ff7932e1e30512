use Rattle.node_check.proofs.MaterialLaws.{Adding}
use Rattle.node_check.proofs.sets.add_channel.Given as goal

abbrev pub invariant-loop-i : goal.invariant-loop-i
invariant-loop-i l = Adding l.fn.t l.mask l.bit l.t l.i
