-- The blocks make no difference: what a reading still has to tell, if the rest of the input is known, is what a block tells and what is then still to be told.
use Prim.Native.Nat.{ℕ, zero, suc, ◌≤◌}
use mathlib.Core.Path.{◌≡◌, refl, sym, ap, ap₂, ◌∙◌}
use mathlib.Core.Logic.{◌⊎◌, inl, inr}
use mathlib.Core.List.{List, [], ◌∷◌, ◌++◌, append-nil, append_assoc}
use native.Mathlib.Omega.{arith}
use lib.ListN.{length, take, drop, length-append}
use lib.Seq.{take-append-le, drop-append-le}
use Rattle.plan.specs.Plan.{plan_of}
use Rattle.plan.specs.Check.{plan_refusal}
use Rattle.rules.specs.Lists.{joined}
use Rattle.rules.specs.Line.{Line, initial_line}
use Rattle.rules.specs.Step.{step}
use Rattle.rules.specs.Sheet.{opening, answer_line, length_field, frames_text, plan_text, sheet}
use Rattle.stream.specs.Reading.{Reading, planning, framing, ended, Told, frames_told, loaded_told, plan_told, taken, plan_all, closed}
use Rattle.stream.specs.Blocks.{text_from, BlocksMakeNoDifference}
use Rattle.stream.proofs.ReadingLaws.{Front, short, few, part, frame, front, field_front, stepped, behind, told_short, told_few, told_part, told_next, behind_less, text_short, text_frame, PlanFront, plan_few, plan_part_lem, plan-whole, plan_front, plan_told_few, plan_told_part, plan_told-whole, told-accepted, told_refused, text_accepted, text_refused, zero_or_not}

-- What is still to be written if these bytes are all that still comes.
abbrev rest : Reading → List ℕ → List ℕ
rest (planning p) s = plan_all (p ++ s)
rest (framing p k l) s = frames_text (length (p ++ s)) k l (p ++ s)
rest ended s = []

abbrev Goes : List ℕ → Told → List ℕ → Type 0
Goes text t s = text ≡ t.text ++ rest t.next s

-- Bytes of which the first are x.
module _ (k : ℕ) (l : Line) (x s : List ℕ) where
  reach : length x ≤ length (x ++ s)
  reach = rw length-append (omega arith)

  frame_front : 5 ≤ length_field x → length_field x ≤ length x
      → frames_text (length (x ++ s)) k l (x ++ s) ≡ answer_line k (stepped l x).number ++ frames_text (length (behind x ++ s)) (suc k) (stepped l x).line (behind x ++ s)
  frame_front five all =
      let same : length_field (x ++ s) ≡ length_field x = field_front x s (omega arith) in
      let five' : 5 ≤ length_field (x ++ s) = rw same five in
      let all' : length_field (x ++ s) ≤ length (x ++ s) = rw same (omega (arith, reach)) in
      let head : take (length_field (x ++ s)) (x ++ s) ≡ take (length_field x) x = rw same (take-append-le (length_field x) x s all) in
      let tail : behind (x ++ s) ≡ behind x ++ s = rw same (drop-append-le (length_field x) x s all) in
      text_frame (length (x ++ s)) k l (x ++ s) five' all' (omega arith)
      ∙ ap₂ (λ (f r : List ℕ). answer_line k (step l f).number ++ frames_text (length r) (suc k) (step l f).line r) head tail

frames_rest : (f k : ℕ) (l : Line) (x s : List ℕ) → length x ≤ f → Goes (frames_text (length (x ++ s)) k l (x ++ s)) (frames_told f k l x) s
frames_rest zero k l x s p = refl
frames_rest (suc f) k l x s p = by (front x) (λ h. frames_rest f (suc k) (stepped l x).line (behind x) s h)
  where
    by : Front x → (length (behind x) ≤ f → Goes (frames_text (length (behind x ++ s)) (suc k) (stepped l x).line (behind x ++ s)) (frames_told f (suc k) (stepped l x).line (behind x)) s)
        → Goes (frames_text (length (x ++ s)) k l (x ++ s)) (frames_told (suc f) k l x) s
    by (short two under) more =
        rw (told_short k l x (suc f) two under p, append-nil) (text_short k l (x ++ s) (length (x ++ s)) (omega (arith, reach k l x s)) (omega arith) (rw (field_front x s two) under))
    by (few less) more = rw (told_few k l x (suc f) less)
    by (part two five less) more = rw (told_part k l x (suc f) five less)
    by (frame five all) more =
        rw (told_next k l x f five all, append_assoc) (frame_front k l x s five all ∙ ap (◌++◌ (answer_line k (stepped l x).number)) (more (behind_less x f five p)))

plan_rest : (x s : List ℕ) → Goes (plan_all (x ++ s)) (plan_told x) s
plan_rest x s = by (plan_front x)
  where
    n : ℕ
    n = length_field x

    loaded : (refused : ℕ) → (refused ≡ 0) ⊎ (refused ≡ 0 → ⊥) → Goes (plan_text refused (take n x) (drop n x ++ s)) (loaded_told refused (take n x) (drop n x)) s
    loaded refused (inl e) = rw (told-accepted refused (take n x) (drop n x) e, text_accepted refused (take n x) (drop n x ++ s) e) (frames_rest (length (drop n x)) 1 (initial_line (plan_of (take n x))) (drop n x) s (omega arith))
    loaded refused (inr other) = rw (told_refused refused (take n x) (drop n x) other, text_refused refused (take n x) (drop n x ++ s) other) (sym (append-nil (answer_line 0 refused)))

    by : PlanFront x → Goes (plan_all (x ++ s)) (plan_told x) s
    by (plan_few less) = rw (plan_told_few x less)
    by (plan_part_lem less) = rw (plan_told_part x less)
    by (plan-whole two all) =
        let same : length_field (x ++ s) ≡ length_field x = field_front x s two in
        let head : take (length_field (x ++ s)) (x ++ s) ≡ take n x = rw same (take-append-le n x s all) in
        let tail : behind (x ++ s) ≡ drop n x ++ s = rw same (drop-append-le n x s all) in
        rw (plan_told-whole x two all) (ap₂ (λ (p r : List ℕ). plan_text (plan_refusal p) p r) head tail ∙ loaded (plan_refusal (take n x)) (zero_or_not (plan_refusal (take n x))))

one_block : (r : Reading) (b s : List ℕ) → Goes (rest r (b ++ s)) (taken r b) s
unfolding taken
one_block (planning p) b s = rw (← append_assoc p b s) (plan_rest (p ++ b) s)
one_block (framing p k l) b s = rw (← append_assoc p b s) (frames_rest (length (p ++ b)) k l (p ++ b) s (omega arith))
one_block ended b s = refl

at_end : (r : Reading) → closed r ≡ rest r []
unfolding closed
at_end (planning p) = rw append-nil
at_end (framing p k l) = rw append-nil
at_end ended = refl

all_blocks : (blocks : List (List ℕ)) (r : Reading) → text_from r blocks ≡ rest r (joined blocks)
all_blocks [] r = at_end r
all_blocks (b ∷ bs) r = ap (◌++◌ (taken r b).text) (all_blocks bs (taken r b).next) ∙ sym (one_block r b (joined bs))

pub blocks_make_no_difference : BlocksMakeNoDifference
unfolding sheet
blocks_make_no_difference blocks = ap (◌++◌ opening) (all_blocks blocks (planning []))
