use native.Mathlib.Omega.{arith}
use Rattle.buffer.proofs.WordLaws.{number_of_record}
use Rattle.buffer.proofs.record.number_of.Goals as goal

pub returns : goal.returns
returns c = number_of_record c.args.r (omega arith) (omega arith) (omega arith)
