use Prim.Native.Nat.{◌+◌}
use mathlib.Core.Path.{◌∙◌}
use lib.ListN.{get_or}
use Rattle.buffer.proofs.PieceReads.{origin_in_lem, entry_in_lem}
use Rattle.slots.proofs.LoggedPiece.read.Goals as goal

pub returns : goal.returns
returns c =
    let a = c.args in
    rw (entry_in_lem a.at a.s.now)
    (λ i. record {
      what = c.read.ensures i;
      time = c.get32.ensures i;
      origin = (c.read-2.ensures ∙ origin_in_lem (a.at + 12) a.s.now) i;
      before = (c.read-3.ensures ∙ origin_in_lem (a.at + 17) a.s.now) i;
      set = get_or a.s.now (a.at + 22) 0;
    })
