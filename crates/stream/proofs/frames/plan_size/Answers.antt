use Rattle.stream.proofs.WindowLaws.{plan_few, plan_least}
use Rattle.stream.proofs.frames.plan_size.Goals as goal

pub returns-then-end-lt2 : goal.returns-then-end-lt2
returns-then-end-lt2 c = plan_few c.args.window.now c.args.end c.requires c.if-end-lt2.true

pub returns : goal.returns
returns c = rw c.min.ensures (plan_least c.args.window.now c.args.end c.requires c.field.result c.if-end-lt2.false c.field.ensures.0)
