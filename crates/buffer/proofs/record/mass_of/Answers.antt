use native.Mathlib.Omega.{arith}
use Rattle.buffer.proofs.WordLaws.{mass_field}
use Rattle.buffer.proofs.record.mass_of.Goals as goal

pub returns : goal.returns
returns c = mass_field c.args.number (omega arith)
