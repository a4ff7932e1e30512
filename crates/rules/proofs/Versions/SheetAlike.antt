-- Two accepted plans that differ in their version alone give the same sheet, whatever stands behind them.
use Prim.Native.Nat.{ℕ, zero, suc, ◌≤◌}
use mathlib.Core.Path.{◌≡◌, refl, sym, ap, ◌∙◌}
use mathlib.Core.Bool.{Bool, true, false}
use mathlib.Core.List.{List, [], ◌∷◌, ◌++◌}
use native.Mathlib.Omega.{arith}
use lib.ListN.{length, take, drop}
use lib.Seq.{take-append-le, take_at, drop_at}
use Rattle.plan.specs.Layout.{spelled}
use Rattle.plan.specs.Plan.{plan_of, plan_length, entering}
use Rattle.plan.specs.Check.{plan_refusal}
use Rattle.plan.specs.Versions.{in_version_two}
use Rattle.plan.proofs.CheckLaws.{accepted}
use Rattle.plan.proofs.VersionLaws.{first_is_widened}
use Rattle.rules.specs.Line.{Line, initial_line, parents}
use Rattle.rules.specs.Step.{step}
use Rattle.rules.specs.Sheet.{opening, answer_line, clock_text, node_text, line_text, length_field, frame_cut, frames_text, plan_text, sheet}
use Rattle.rules.specs.Versions.{LineAlike, SheetAlike, WidenedAlike}
use Rattle.rules.proofs.Console.Recounted.{reheaded}
use Rattle.rules.proofs.Versions.RunAlike.{is_headed, step_alike, initial_alike}

text_reheaded : (newer : ℕ → ℕ) (counts : List ℕ) (l : Line) → line_text (reheaded newer counts l) ≡ line_text l
unfolding line_text node_text clock_text entering parents
text_reheaded newer counts l = refl

same_text : (k l : Line) → LineAlike k l → line_text k ≡ line_text l
same_text k l same = ap line_text (is_headed k l same) ∙ text_reheaded (λ v. k.plan.version) k.steps l

abbrev SameText : ℕ → ℕ → Type 0
SameText fuel j = (k l : Line) (s : List ℕ) → LineAlike k l → frames_text fuel j k s ≡ frames_text fuel j l s

frames_alike : (fuel j : ℕ) → SameText fuel j
frames_alike zero j k l s same = same_text k l same
frames_alike (suc fuel) j k l [] same = same_text k l same
frames_alike (suc fuel) j k l (b ∷ bs) same = one (frames_alike fuel (suc j)) (frame_cut (b ∷ bs)) refl
  where
    one : SameText fuel (suc j) → (t : Bool) → frame_cut (b ∷ bs) ≡ t → frames_text (suc fuel) j k (b ∷ bs) ≡ frames_text (suc fuel) j l (b ∷ bs)
    one later true e = rw (e, frames_text, same_text k l same)
    one later false e =
        let n = length_field (b ∷ bs) in
        let (number, line) = step_alike k l (take n (b ∷ bs)) same in
        let rest = later (step k (take n (b ∷ bs))).line (step l (take n (b ∷ bs))).line (drop n (b ∷ bs)) line in
        rw (e, frames_text) (λ i. answer_line j (number i) ++ rest i)

-- A sheet of an accepted plan with some bytes behind it.
module _ (s frames : List ℕ) (z : plan_refusal s ≡ 0) where
  length_there : length_field (s ++ frames) ≡ length s
  unfolding plan_length
  length_there =
      let a = accepted s z in
      let long : 2 ≤ length s = omega (arith, a.long) in
      ap (spelled 0) (take-append-le 2 s frames long) ∙ a.length_field

  sheet-of : sheet (s ++ frames) ≡ opening ++ frames_text (length frames) 1 (initial_line (plan_of s)) frames
  unfolding sheet
  sheet-of =
      let plan : take (length_field (s ++ frames)) (s ++ frames) ≡ s = ap (λ (n : ℕ). take n (s ++ frames)) length_there ∙ take_at s frames (length s) refl in
      let rest : drop (length_field (s ++ frames)) (s ++ frames) ≡ frames = ap (λ (n : ℕ). drop n (s ++ frames)) length_there ∙ drop_at s frames (length s) refl in
      (λ i. opening ++ plan_text (plan_refusal (plan i)) (plan i) (rest i)) ∙ ap (λ (n : ℕ). opening ++ plan_text n s frames) z

pub sheet_alike : SheetAlike
sheet_alike s t frames z z-too same =
    sheet-of s frames z
    ∙ ap (λ (text : List ℕ). opening ++ text) (frames_alike (length frames) 1 (initial_line (plan_of s)) (initial_line (plan_of t)) frames (initial_alike (plan_of s) (plan_of t) same))
    ∙ sym (sheet-of t frames z-too)

pub widened_alike : WidenedAlike
widened_alike s frames bytes z one =
    let w = first_is_widened s bytes z one in
    sheet_alike s (in_version_two s) frames z w.accepted w.same
