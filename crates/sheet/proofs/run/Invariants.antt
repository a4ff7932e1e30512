-- So far the turns, and what is left of the allowance.
use Rattle.std.proofs.Common.{◌+◌, ◌≡◌, length}
use Rattle.sheet.specs.Turned.{allowance, Between}
use Rattle.sheet.specs.Ran.{Turns, turns_read}
use Rattle.sheet.proofs.run.Given as goal

abbrev pub invariant-loop-left : goal.invariant-loop-left
invariant-loop-left l =
    Between l.reader l.left l.state × ((turns : Turns l.initial.reader l.initial.state l.initial.window l.initial.out l.reader l.state l.window l.out) × (length (turns_read turns) + l.left ≡ allowance))

abbrev pub decreases-loop-left : goal.decreases-loop-left
decreases-loop-left l = l.left
