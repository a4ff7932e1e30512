use Prim.Native.Nat.{◌+◌}
use mathlib.Core.Path.{◌∙◌}
use Rattle.buffer.proofs.PieceReads.{origin_in_lem, message_in}
use Rattle.slots.proofs.SentPiece.read.Goals as goal

pub returns : goal.returns
returns c =
    let a = c.args in
    rw (message_in a.at a.s.now) (λ i. record { what = c.read.ensures i; time = c.get32.ensures i; origin = (c.read-2.ensures ∙ origin_in_lem (a.at + 12) a.s.now) i })
