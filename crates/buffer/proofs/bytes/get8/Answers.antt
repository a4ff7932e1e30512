use mathlib.Core.Path.{sym}
use Rattle.plan.proofs.ReadLaws.{byte_field}
use Rattle.buffer.proofs.bytes.get8.Goals as goal

pub returns : goal.returns
returns c = sym (byte_field c.args.at c.args.s.now)
