use mathlib.Core.Path.{◌∙◌}
use native.Mathlib.Omega.{arith}
use Rattle.buffer.proofs.JoinLaws.{none_outside}
use Rattle.buffer.proofs.joins.Joins.parents.Goals as goal

pub returns-then-node-ge12 : goal.returns-then-node-ge12
returns-then-node-ge12 c = let j = c.args.self.now in none_outside j.state.now j.ready c.args.node c.if-node-ge12.true

pub returns : goal.returns
returns c = let j = c.args.self.now in c.from.ensures ∙ j.whole.counts_are c.args.node (omega arith)
