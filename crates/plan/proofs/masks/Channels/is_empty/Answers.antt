use native.Mathlib.Omega.{arith}
use Rattle.plan.proofs.MaskLaws.{channels_empty}
use Rattle.plan.proofs.masks.Channels.is_empty.Goals as goal

pub returns : goal.returns
returns c = channels_empty c.args.self.mask (omega arith)
