use mathlib.Core.Path.{sym}
use Rattle.buffer.proofs.PieceReads.{origin_in_lem}
use Rattle.slots.proofs.MadePiece.read.Goals as goal

pub returns : goal.returns
returns c =
    let a = c.args in
    rw c.get32.ensures (sym (origin_in_lem a.at a.s.now))
