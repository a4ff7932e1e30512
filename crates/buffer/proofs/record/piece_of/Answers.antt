use native.Mathlib.Omega.{arith}
use Rattle.buffer.proofs.WordLaws.{piece_field}
use Rattle.buffer.proofs.record.piece_of.Goals as goal

pub returns : goal.returns
returns c = piece_field c.args.number (omega arith)
