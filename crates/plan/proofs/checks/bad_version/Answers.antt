use Rattle.plan.specs.Plan.{plan_version}
use Rattle.plan.specs.Check.{bad_version}
use Rattle.plan.proofs.CheckLaws.{unnamed}
use Rattle.plan.proofs.checks.bad_version.Goals as goal

pub returns : goal.returns
unfolding bad_version
returns c = unnamed (plan_version c.args.plan.now) c.version.result c.version.ensures c.is_none.result c.is_none.ensures
