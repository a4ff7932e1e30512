use Rattle.plan.specs.Plan.{plan_of}
use Rattle.state.proofs.InPlace.{line-plan}
use Rattle.passing.proofs.StateLaws.{rule_same}
use Rattle.passing.proofs.made_by.Goals as goal

pub returns : goal.returns
returns c =
    let s = c.args.s.now in
    rw (c.apply.ensures, c.node_rule.ensures, line-plan s, rule_same (plan_of s) c.requires.fits c.args.n)
