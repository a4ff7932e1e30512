use mathlib.Core.Path.{sym}
use Rattle.buffer.proofs.PieceReads.{target_in_lem}
use Rattle.slots.proofs.GoalPiece.read.Goals as goal

pub returns : goal.returns
returns c =
    let a = c.args in
    rw (c.get32.ensures, c.from.ensures, c.get32-2.ensures) (sym (target_in_lem a.at a.s.now))
