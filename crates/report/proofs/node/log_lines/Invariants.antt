use Prim.Native.Nat.{◌*◌}
use mathlib.Core.List.{map}
use lib.ListN.{drop}
use Rattle.rules.specs.Lists.{joined}
use Rattle.rules.specs.Line.{node_at}
use Rattle.rules.specs.Sheet.{entry_line}
use Rattle.state.specs.State.{line_of}
use Rattle.report.proofs.WroteLaws.{Writing}
use Rattle.report.proofs.node.log_lines.Given as goal

abbrev pub invariant-loop-i : goal.invariant-loop-i
invariant-loop-i l =
    let log = (node_at (line_of l.s) l.n).log in
    Writing (joined (map (entry_line l.n) log)) (l.i * 79) l.initial.text l.text (joined (map (entry_line l.n) (drop l.i log)))
