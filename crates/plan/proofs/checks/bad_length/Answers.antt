use Rattle.plan.specs.Check.{bad_length}
use Rattle.plan.specs.Plan.{plan_length}
use Rattle.plan.proofs.checks.bad_length.Goals as goal

pub returns : goal.returns
unfolding bad_length plan_length
returns c = rw (c.from-field.ensures, c.word_at.ensures)
