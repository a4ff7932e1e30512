use Rattle.std.proofs.Common.{rules}
use lib.Dec.{eqb}
use Rattle.plan.specs.declared.Channel.{Channel}
use Rattle.plan.specs.Plan.{leaving}
use Rattle.plan.proofs.masks.leaving.Goals as goal

pub returns-clause-few : goal.returns-clause-few
unfolding leaving
returns-clause-few c = (c.channels_where.ensures (λ (d : Channel). eqb d.sender c.args.node) (λ d t answered. search rules)).few

pub returns-clause-many : goal.returns-clause-many
returns-clause-many c = (c.channels_where.ensures (λ (d : Channel). eqb d.sender c.args.node) (λ d t answered. search rules)).many
