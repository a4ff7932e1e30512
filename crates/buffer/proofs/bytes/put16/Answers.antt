use Prim.Native.Nat.{◌-◌, ◌+◌}
use mathlib.Core.Path.{refl, ap, ◌∙◌}
use mathlib.Core.List.{List}
use Prim.Native.Nat.{ℕ}
use borrow.Rule.Slice.PartMut.{put_mid}
use Rattle.plan.specs.Layout.{bytes_of}
use Rattle.buffer.proofs.BytesLaws.{number_put, be_two}
use Rattle.buffer.proofs.bytes.put16.Goals as goal

pub returns : goal.returns
returns c =
    let a = c.args in
    ap (λ (bs : List ℕ). put_mid a.at (a.at + 2 - a.at) a.s.now bs) (c.copy_from_slice.ensures.after ∙ c.to_be_bytes.ensures ∙ be_two a.v) ∙ number_put a.s.now a.at 2 (bytes_of 2 a.v) refl
