use Rattle.marking.specs.Loops.{Beside}
use Rattle.marking.proofs.clashes.Given as goal

abbrev pub invariant-loop-j : goal.invariant-loop-j
invariant-loop-j l = Beside l.rows l.columns l.k l.j l.found
