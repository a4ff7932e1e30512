use Prim.Native.Nat.{ℕ}
use mathlib.Core.Path.{ap, ◌∙◌}
use native.Mathlib.Omega.{arith}
use Rattle.plan.specs.Layout.{bytes_of}
use Rattle.plan.specs.Record.{record_layout}
use Rattle.plan.proofs.BytesLaws.{bytes_known}
use Rattle.buffer.proofs.WordLaws.{part_written}
use Rattle.slots.proofs.RecordPiece.read.Goals as goal

pub returns : goal.returns
returns c =
    let a = c.args in
    let bytes = bytes_known a.s.now (λ i. (c.type_inv.s i).fits) in
    c.record_of.ensures ∙ ap (λ (n : ℕ). record_layout.read (bytes_of 8 n)) c.get64.ensures ∙ ap record_layout.read (part_written 8 a.at a.s.now bytes (omega arith))
