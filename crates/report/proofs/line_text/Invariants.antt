use Prim.Native.Nat.{◌*◌}
use mathlib.Core.List.{map}
use lib.ListN.{drop}
use Rattle.rules.specs.Lists.{joined}
use Rattle.rules.specs.Line.{node_numbers}
use Rattle.rules.specs.Sheet.{node_text}
use Rattle.state.specs.State.{line_of}
use Rattle.report.specs.Most.{node_most}
use Rattle.report.proofs.WroteLaws.{Writing}
use Rattle.report.proofs.line_text.Given as goal

abbrev pub invariant-loop-n : goal.invariant-loop-n
invariant-loop-n l =
    let numbers = node_numbers (line_of l.s) in
    Writing (joined (map (node_text (line_of l.s)) numbers)) (l.n * node_most) l.initial.text l.text (joined (map (node_text (line_of l.s)) (drop l.n numbers)))
