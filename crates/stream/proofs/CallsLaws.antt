-- The calls write the sheet: each leaves its block's text at the output's front, and stands for what is still to be told.
use Prim.Native.Nat.{ℕ}
use mathlib.Core.Path.{◌≡◌, refl, sym, ap, ap₂, ◌∙◌}
use mathlib.Core.List.{List, [], ◌∷◌, ◌++◌}
use native.Mathlib.Nat.{zero-add}
use lib.ListN.{length, take, drop}
use Rattle.basics.specs.Put.{put_front}
use Rattle.state.specs.State.{line_of}
use Rattle.report.specs.Wrote.{Wrote}
use Rattle.stream.specs.declared.Phase.{Phase}
use Rattle.stream.specs.declared.Reader.{Reader}
use Rattle.stream.specs.Reading.{Reading, planning, ended, Told, taken, closed}
use Rattle.stream.specs.Reader.{reading_by, reading_of}
use Rattle.stream.specs.Blocks.{text_from, Calls, one_more, the_end, no_more, CallsWriteTheSheet}
use Rattle.stream.proofs.BlocksLaws.{blocks_make_no_difference}

-- What stands at the output's front is the text.
front_text : {most : ℕ} {o text out : List ℕ} {n : ℕ} → Wrote most o 0 text out n → take n out ≡ text
front_text {o = o} {text = text} w = ap₂ (λ (k : ℕ) (t : List ℕ). take k t) (w.end ∙ zero-add (length text)) w.left ∙ put_front o text

-- A read leaves the bytes that are kept, and so the reading.
same_reading : (r : Reader) (s came w : List ℕ) → take r.have came ≡ take r.have w → reading_of r s came ≡ reading_of r s w
same_reading r s came w e = ap (λ (kept : List ℕ). reading_by r.phase kept r.count (line_of s)) e

ended_text : (blocks : List (List ℕ)) → text_from ended blocks ≡ []
unfolding taken closed
ended_text [] = refl
ended_text (b ∷ bs) = ended_text bs

calls_text : {r : Reader} {s w o text : List ℕ} {blocks : List (List ℕ)} → Calls r s w o blocks text → text ≡ text_from (reading_of r s w) blocks
calls_text {r} {s} {w} (one_more {came = came} {n = n} {blocks = blocks} call more) =
    let block = take n (drop r.have came) in
    let told : taken (reading_of r s came) block ≡ taken (reading_of r s w) block = ap (λ (x : Reading). taken x block) (same_reading r s came w call.kept) in
    ap₂ ◌++◌ (front_text call.gave.text ∙ ap (λ (t : Told). t.text) told) (calls_text more ∙ ap (λ (x : Reading). text_from x blocks) (call.gave.next ∙ ap (λ (t : Told). t.next) told))
calls_text {r} {s} {w} (the_end {came = came} call) = front_text call.finished.text ∙ ap closed (same_reading r s came w call.kept)
calls_text {r} {s} {w} (no_more {blocks = blocks} e) = sym (ap (λ (p : Phase). text_from (reading_by p (take r.have w) r.count (line_of s)) blocks) e ∙ ended_text blocks)

pub calls_write_the_sheet : CallsWriteTheSheet
calls_write_the_sheet o out r s w blocks text begun calls =
    let start : reading_of r s w ≡ planning [] = ap₂ (λ (p : Phase) (k : ℕ). reading_by p (take k w) r.count (line_of s)) begun.phase begun.have in
    ap₂ ◌++◌ (front_text begun.text) (calls_text calls ∙ ap (λ (x : Reading). text_from x blocks) start) ∙ blocks_make_no_difference blocks
