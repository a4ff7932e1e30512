use Rattle.plan.proofs.MaskLaws.{count_of}
use Rattle.plan.proofs.masks.mask_count.Goals as goal

pub returns : goal.returns
returns c = count_of c.args.mask
