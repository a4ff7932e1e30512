use native.Mathlib.Omega.{arith}
use Rattle.buffer.proofs.WordLaws.{zero_field}
use Rattle.buffer.proofs.record.zero_of.Goals as goal

pub returns : goal.returns
returns c = zero_field c.args.number (omega arith)
