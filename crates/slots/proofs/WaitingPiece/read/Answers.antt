use Prim.Native.Nat.{◌+◌}
use mathlib.Core.Path.{◌∙◌}
use lib.ListN.{get_or}
use Rattle.buffer.proofs.PieceReads.{origin_in_lem, held_in_lem}
use Rattle.slots.proofs.WaitingPiece.read.Goals as goal

pub returns : goal.returns
returns c =
    let a = c.args in
    rw (held_in_lem a.at a.s.now)
    (λ i. record { what = c.read.ensures i; sender = get_or a.s.now (a.at + 8) 0; time = c.get32.ensures i; before = (c.read-2.ensures ∙ origin_in_lem (a.at + 13) a.s.now) i })
