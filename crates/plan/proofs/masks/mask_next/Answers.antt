use native.Mathlib.Omega.{arith}
use Rattle.plan.proofs.MaskLaws.{first_of}
use Rattle.plan.proofs.masks.mask_next.Goals as goal

pub returns : goal.returns
returns c = first_of c.args.mask (omega arith)
