use Prim.Native.Nat.{◌-◌, ◌+◌}
use mathlib.Core.Path.{refl, ap, ◌∙◌}
use mathlib.Core.List.{List}
use Prim.Native.Nat.{ℕ}
use borrow.Rule.Slice.PartMut.{put_mid}
use Rattle.plan.specs.Layout.{bytes_of}
use Rattle.buffer.proofs.BytesLaws.{number_put, be_eight}
use Rattle.buffer.proofs.bytes.put64.Goals as goal

pub returns : goal.returns
returns c =
    let a = c.args in
    ap (λ (bs : List ℕ). put_mid a.at (a.at + 8 - a.at) a.s.now bs) (c.copy_from_slice.ensures.after ∙ c.to_be_bytes.ensures ∙ be_eight a.v) ∙ number_put a.s.now a.at 8 (bytes_of 8 a.v) refl
