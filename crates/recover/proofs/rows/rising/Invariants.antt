use Rattle.recover.proofs.RisingLaws.{RisingTo}
use Rattle.recover.proofs.rows.rising.Given as goal

abbrev pub invariant-loop-g : goal.invariant-loop-g
invariant-loop-g l = RisingTo l.targets l.rows l.time l.ok l.g-index
