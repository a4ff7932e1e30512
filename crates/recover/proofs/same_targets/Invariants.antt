use Rattle.rules.specs.Line.{node_at}
use Rattle.rules.specs.Damaged.{same_targets}
use Rattle.state.specs.State.{line_of}
use Rattle.std.proofs.Common.{◌≡◌, drop}
use Rattle.recover.specs.Found.{targets_in}
use Rattle.recover.proofs.same_targets.Given as goal

abbrev pub invariant-loop-i : goal.invariant-loop-i
invariant-loop-i l = same_targets (node_at (line_of l.s) l.n).targets (targets_in l.targets) ≡ same_targets (drop l.i (node_at (line_of l.s) l.n).targets) (drop l.i (targets_in l.targets))
