use mathlib.Core.Path.{◌≡◌, sym, ◌∙◌}
use mathlib.Core.Bool.{Bool, true, false}
use lib.ListN.{drop}
use Rattle.std.specs.Prelude.{MatchOption}
use Rattle.std.specs.Bool.{then_some}
use Rattle.plan.specs.declared.Record.{Record}
use Rattle.plan.specs.Record.{record_layout, record_fits}
use Rattle.plan.proofs.BytesLaws.{bytes_known}
use Rattle.buffer.proofs.OriginLaws.{record_tested}
use Rattle.frame.proofs.FrameLaws.{record_front, fits_front}
use Rattle.frame.proofs.record_of.Goals as goal

-- By what the test said of the bytes.
by_test : (fits t : Bool) (read r : Record) → fits ≡ t → read ≡ r → MatchOption (then_some t r) (fits ≡ false) (λ w. (read ≡ w) × (fits ≡ true))
by_test fits true read r e same = (same, e)
by_test fits false read r e same = e

pub returns : goal.returns
returns c =
    let a = c.args in
    let behind = drop a.at a.s.now in
    let bytes = bytes_known a.s.now (λ i. (c.shared_slice_known-1.given i).fits) in
    rw c.then_some.ensures (by_test (record_fits behind) c.record_ok.result (record_layout.read behind) c.read.result (fits_front behind ∙ record_tested a.at a.s.now bytes c.requires ∙ sym c.record_ok.ensures) (record_front behind ∙ sym c.read.ensures))
