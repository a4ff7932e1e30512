use native.Mathlib.Omega.{arith}
use Rattle.rules.specs.Line.{node_at}
use Rattle.state.specs.State.{line_of}
use Rattle.slots.specs.Slots.{entry_is}
use Rattle.passing.proofs.StateLaws.{log_rising}
use Rattle.passing.proofs.NextLaws.{one_later, later_from}
use Rattle.passing.proofs.first_later.Goals as goal

pub returns-then-entry_of-mark : goal.returns-then-entry_of-mark
returns-then-entry_of-mark c =
    let a = c.args in
    later_from a.mark (node_at (line_of a.s.now) a.n).log c.loop-k.k (omega arith) c.loop-k.invariant.0 c.loop-k.invariant.1 (entry_is c.entry_of.result) c.entry_of.ensures (log_rising c.requires.0 c.requires.1) c.if-entry_of-mark.true

pub loop-k-preserved : goal.loop-k-preserved
loop-k-preserved c =
    let a = c.args in
    (omega (arith, c.loop-k.invariant.0), one_later a.mark (node_at (line_of a.s.now) a.n).log c.loop-k.k (omega arith) c.loop-k.invariant.0 c.loop-k.invariant.1 (entry_is c.entry_of.result) c.entry_of.ensures c.if-entry_of-mark.false)
