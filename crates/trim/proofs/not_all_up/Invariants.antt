use mathlib.Core.Path.{◌≡◌}
use mathlib.Core.Bool.{◌||◌}
use Rattle.rules.specs.Step.{not_all_up}
use Rattle.state.specs.State.{line_of}
use Rattle.trim.proofs.AnswerLaws.{stopped_from}
use Rattle.trim.proofs.not_all_up.Given as goal

abbrev pub invariant-loop-n : goal.invariant-loop-n
invariant-loop-n l = (l.found || stopped_from (line_of l.s) l.n l.n-end) ≡ not_all_up (line_of l.s)
