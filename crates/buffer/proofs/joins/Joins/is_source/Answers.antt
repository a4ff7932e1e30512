use mathlib.Core.Path.{ap, ◌∙◌}
use Prim.Native.Nat.{ℕ}
use lib.Dec.{eqb}
use Rattle.plan.specs.Plan.{plan_of}
use Rattle.buffer.proofs.JoinLaws.{source_counted}
use Rattle.buffer.proofs.joins.Joins.is_source.Goals as goal

pub returns : goal.returns
returns c = let a = c.args in ap (λ (n : ℕ). eqb n 0) c.parents.ensures ∙ source_counted (plan_of a.self.now.state.now) a.node
