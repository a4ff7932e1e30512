use Rattle.std.proofs.Common.{length, ◌≡◌}
use Rattle.rules.specs.Recover.{conflict}
use Rattle.recover.specs.Found.{targets_in}
use Rattle.recover.proofs.rows.conflict_in.Given as goal

abbrev pub invariant-loop-g : goal.invariant-loop-g
invariant-loop-g l = conflict (targets_in l.targets) ≡ conflict (targets_in l.rest)

abbrev pub decreases-loop-g : goal.decreases-loop-g
decreases-loop-g l = length l.rest
