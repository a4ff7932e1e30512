use native.Mathlib.Omega.{arith}
use Rattle.plan.proofs.ReadLaws.{channels_byte}
use Rattle.plan.proofs.bytes.channel_count.Goals as goal

pub returns : goal.returns
returns c = let e = channels_byte c.args.plan.now in (cc, omega arith)
