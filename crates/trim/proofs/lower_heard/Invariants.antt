use Rattle.state.specs.State.{line_of}
use Rattle.trim.specs.Trimmed.{heard_lowers}
use Rattle.trim.proofs.RowLaws.{RowsTo}
use Rattle.trim.proofs.lower_heard.Given as goal

abbrev pub invariant-loop-q : goal.invariant-loop-q
invariant-loop-q l = RowsTo (heard_lowers (line_of l.joins.state.now) l.b) l.initial.floors l.floors l.q
