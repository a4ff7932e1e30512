use native.Mathlib.Omega.{arith}
use Rattle.buffer.proofs.WordLaws.{material_field}
use Rattle.buffer.proofs.record.material_of.Goals as goal

pub returns : goal.returns
returns c = material_field c.args.number (omega arith)
