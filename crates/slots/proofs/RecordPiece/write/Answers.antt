use Prim.Native.Nat.{ℕ}
use mathlib.Core.Path.{ap, ◌∙◌}
use Rattle.basics.specs.Put.{put}
use Rattle.plan.specs.Layout.{bytes_of}
use Rattle.buffer.proofs.WordLaws.{record_bytes}
use Rattle.slots.proofs.RecordPiece.write.Goals as goal

pub returns : goal.returns
returns c =
    let a = c.args in
    c.put64.ensures ∙ ap (λ (n : ℕ). put a.s.now a.at (bytes_of 8 n)) c.number_of.ensures ∙ ap (put a.s.now a.at) (record_bytes a.self)
