use Prim.Native.Nat.{ℕ}
use mathlib.Core.Path.{ap, ◌∙◌}
use Rattle.plan.specs.Record.{record_fits}
use Rattle.plan.specs.Layout.{bytes_of}
use Rattle.plan.proofs.BytesLaws.{bytes_known}
use Rattle.buffer.proofs.WordLaws.{part_written}
use Rattle.buffer.proofs.OriginLaws.{record_tested}
use Rattle.buffer.proofs.origin.record_ok.Goals as goal

pub returns : goal.returns
unfolding record_fits
returns c =
    let number = c.get64-number in
    let a = c.args in
    let s = a.s.now in
    let bytes = bytes_known s (λ i. (c.type_inv.s i).fits) in
    rw (c.known.ensures, c.piece_of-piece.ensures, c.material_of-material.ensures, c.mass_of-mass.ensures, c.zero_of.ensures)
    (ap (λ (n : ℕ). record_fits (bytes_of 8 n)) number.ensures ∙ ap record_fits (part_written 8 a.at s bytes c.requires) ∙ record_tested a.at s bytes c.requires)
