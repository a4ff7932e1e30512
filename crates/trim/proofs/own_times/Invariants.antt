use lib.ListN.{replicate}
use Rattle.rules.specs.Line.{node_at}
use Rattle.state.specs.State.{line_of}
use Rattle.trim.proofs.RowLaws.{RowsTo}
use Rattle.trim.proofs.own_times.Given as goal

abbrev pub invariant-loop-n : goal.invariant-loop-n
invariant-loop-n l = RowsTo (λ q k. (node_at (line_of l.s) q).time) (replicate 12 0) l.times l.n
