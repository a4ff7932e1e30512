-- What is told of some bytes, by cases: they begin with a length field under 5, they are no whole frame yet, or a whole frame stands in front.
use Prim.Native.Nat.{ℕ, zero, suc, ◌≤◌, ◌<◌}
use mathlib.Core.Path.{◌≡◌, refl, sym, ap, ap₂, ◌∙◌}
use mathlib.Core.Logic.{◌⊎◌, inl, inr}
use mathlib.Core.Bool.{Bool, true, false, ◌&&◌, ◌||◌}
use mathlib.Core.List.{List, [], ◌∷◌, ◌++◌}
use native.Mathlib.Omega.{arith}
use borrow.Author.Tests.{lt-ltb, le-ltb, le-leb, lt-leb, ne_eqb}
use lib.Dec.{leb, ltb}
use mathlib.Core.Option.{none, some}
use lib.ListN.{length, take, drop, length-drop}
use lib.Seq.{take-append-le}
use Rattle.basics.specs.Bools.{below_or_not}
use Rattle.plan.specs.Layout.{spelled}
use Rattle.plan.specs.Plan.{plan_of}
use Rattle.plan.specs.Check.{plan_refusal}
use Rattle.rules.specs.Line.{Line, initial_line}
use Rattle.rules.specs.Step.{Answer, step}
use Rattle.rules.specs.Sheet.{answer_line, line_text, length_field, frame_cut, frames_text, plan_text}
use Rattle.stream.specs.Reader.{state_left}
use Rattle.stream.specs.Reading.{planning, framing, ended, Told, before, whole, too_short, frames_told, loaded_told, plan_told}

-- The length field does not change by what comes behind it.
pub field_front : (x s : List ℕ) → 2 ≤ length x → length_field (x ++ s) ≡ length_field x
field_front x s h = ap (spelled 0) (take-append-le 2 x s h)

-- The bytes before which reading stands: a length field under 5, no whole frame yet, or a whole frame.
pub data Front (s : List ℕ) : Type 0 where
  short : 2 ≤ length s → length_field s < 5 → Front s
  few : length s < 2 → Front s
  part : 2 ≤ length s → 5 ≤ length_field s → length s < length_field s → Front s
  frame : 5 ≤ length_field s → length_field s ≤ length s → Front s

pub front : (s : List ℕ) → Front s
front s = here (below_or_not (length s) 2)
  where
    there : 2 ≤ length s → 5 ≤ length_field s → (length s < length_field s) ⊎ (length_field s ≤ length s) → Front s
    there two five (inl less) = part two five less
    there two five (inr all) = frame five all

    behind : 2 ≤ length s → (length_field s < 5) ⊎ (5 ≤ length_field s) → Front s
    behind two (inl under) = short two under
    behind two (inr five) = there two five (below_or_not (length s) (length_field s))

    here : (length s < 2) ⊎ (2 ≤ length s) → Front s
    here (inl less) = few less
    here (inr two) = behind two (below_or_not (length_field s) 5)

-- A frame in front: what the step answers and leaves, and the bytes behind it.
abbrev pub stepped : Line → List ℕ → Answer
stepped l s = step l (take (length_field s) s)

abbrev pub behind : List ℕ → List ℕ
behind s = drop (length_field s) s

pub behind_less : (s : List ℕ) (f : ℕ) → 5 ≤ length_field s → length s ≤ suc f → length (behind s) ≤ f
behind_less s f five h = rw length-drop (omega arith)

and_false : (b : Bool) → (b && false) ≡ false
and_false true = refl
and_false false = refl

-- ---- what a block tells

abbrev told_by : Bool → Bool → ℕ → ℕ → Line → List ℕ → Told
told_by isShort is_whole f k l s =
    elim isShort [
      | true ↦ record { text = answer_line k 9 ++ line_text l; next = ended; line = some l }
      | false ↦
          elim is_whole [
            | false ↦ record { text = []; next = framing s k l; line = some l }
            | true ↦ before (answer_line k (stepped l s).number) (frames_told f (suc k) (stepped l s).line (behind s))
          ]
    ]

or_true : (b : Bool) → (b || true) ≡ true
or_true true = refl
or_true false = refl

pub is_short : (s : List ℕ) → 2 ≤ length s → length_field s < 5 → too_short s ≡ true
is_short s two under = rw (le-leb 2 (length s) two) (lt-ltb (length_field s) 5 under)

not_short : (s : List ℕ) → 5 ≤ length_field s → too_short s ≡ false
not_short s five = rw (le-ltb (length_field s) 5 five) (and_false (leb 2 (length s)))

module _ (k : ℕ) (l : Line) (s : List ℕ) where
  told_under : (f : ℕ) → 2 ≤ length s → length_field s < 5 → frames_told (suc f) k l s ≡ record { text = answer_line k 9 ++ line_text l; next = ended; line = some l }
  told_under f two under = ap (λ (b : Bool). told_by b (whole s) f k l s) (is_short s two under)

  pub told_short : (f : ℕ) → 2 ≤ length s → length_field s < 5 → length s ≤ f → frames_told f k l s ≡ record { text = answer_line k 9 ++ line_text l; next = ended; line = some l }
  told_short zero two under h = let no : ⊥ = omega arith in absurd no
  told_short (suc f) two under h = told_under f two under

  pub told_few : (f : ℕ) → length s < 2 → frames_told f k l s ≡ record { text = []; next = framing s k l; line = some l }
  told_few zero less = refl
  told_few (suc f) less = ap (λ (b : Bool). told_by (b && ltb (length_field s) 5) (b && leb (length_field s) (length s)) f k l s) (lt-leb 2 (length s) less)

  pub told_part : (f : ℕ) → 5 ≤ length_field s → length s < length_field s → frames_told f k l s ≡ record { text = []; next = framing s k l; line = some l }
  told_part zero five less = refl
  told_part (suc f) five less =
      let cut : whole s ≡ false = rw (lt-leb (length_field s) (length s) less) (and_false (leb 2 (length s))) in
      ap₂ (λ (b c : Bool). told_by b c f k l s) (not_short s five) cut

  pub told_next : (f : ℕ) → 5 ≤ length_field s → length_field s ≤ length s → frames_told (suc f) k l s ≡ before (answer_line k (stepped l s).number) (frames_told f (suc k) (stepped l s).line (behind s))
  told_next f five all =
      let one : whole s ≡ true = rw (le-leb 2 (length s) (omega arith)) (le-leb (length_field s) (length s) all) in
      ap₂ (λ (b c : Bool). told_by b c f k l s) (not_short s five) one

-- The bound makes no difference as long as it is at least the length.
pub told_bound : (f g k : ℕ) (l : Line) (s : List ℕ) → length s ≤ f → length s ≤ g → frames_told f k l s ≡ frames_told g k l s
told_bound zero g k l s p q = sym (told_few k l s g (omega arith))
told_bound (suc f) g k l s p q = by g q (front s) (λ m. told_bound f m (suc k) (stepped l s).line (behind s))
  where
    by : (g : ℕ) → length s ≤ g → Front s → ((m : ℕ) → length (behind s) ≤ f → length (behind s) ≤ m → frames_told f (suc k) (stepped l s).line (behind s) ≡ frames_told m (suc k) (stepped l s).line (behind s))
        → frames_told (suc f) k l s ≡ frames_told g k l s
    by g q (short two under) more = told_short k l s (suc f) two under p ∙ sym (told_short k l s g two under q)
    by g q (few less) more = told_few k l s (suc f) less ∙ sym (told_few k l s g less)
    by g q (part two five less) more = told_part k l s (suc f) five less ∙ sym (told_part k l s g five less)
    by zero q (frame five all) more = let no : ⊥ = omega arith in absurd no
    by (suc g) q (frame five all) more =
        told_next k l s f five all ∙ ap (before (answer_line k (stepped l s).number)) (more g (behind_less s f five p) (behind_less s g five q)) ∙ sym (told_next k l s g five all)

-- A whole frame in front, whatever the bound.
pub told-frame : (f k : ℕ) (l : Line) (s : List ℕ) → 5 ≤ length_field s → length_field s ≤ length s → length s ≤ f
    → frames_told f k l s ≡ before (answer_line k (stepped l s).number) (frames_told (length (behind s)) (suc k) (stepped l s).line (behind s))
told-frame zero k l s five all h = let no : ⊥ = omega arith in absurd no
told-frame (suc f) k l s five all h =
    told_next k l s f five all ∙ ap (before (answer_line k (stepped l s).number)) (told_bound f (length (behind s)) (suc k) (stepped l s).line (behind s) (behind_less s f five h) (omega arith))

-- Behind the plan the bytes lead to a line, so the state that was there makes no difference.
pub left_same : (f k : ℕ) (l : Line) (s x y : List ℕ) → state_left (frames_told f k l s).line x ≡ state_left (frames_told f k l s).line y
left_same zero k l s x y = refl
left_same (suc f) k l s x y = by (front s) (left_same f (suc k) (stepped l s).line (behind s) x y)
  where
    by : Front s → state_left (frames_told f (suc k) (stepped l s).line (behind s)).line x ≡ state_left (frames_told f (suc k) (stepped l s).line (behind s)).line y
        → state_left (frames_told (suc f) k l s).line x ≡ state_left (frames_told (suc f) k l s).line y
    by (short two under) more = rw (told_under k l s f two under)
    by (few less) more = rw (told_few k l s (suc f) less)
    by (part two five less) more = rw (told_part k l s (suc f) five less)
    by (frame five all) more = rw (told_next k l s f five all) more

-- ---- what the end of the input tells

abbrev text_by : Bool → ℕ → ℕ → Line → List ℕ → List ℕ
text_by cut f k l s =
    elim cut [
      | true ↦ answer_line k 9 ++ line_text l
      | false ↦ answer_line k (stepped l s).number ++ frames_text f (suc k) (stepped l s).line (behind s)
    ]

text_open : (f k : ℕ) (l : Line) (s : List ℕ) → 0 < length s → frames_text (suc f) k l s ≡ text_by (frame_cut s) f k l s
text_open f k l [] h = let no : ⊥ = omega arith in absurd no
text_open f k l (b ∷ bs) h = refl

module _ (k : ℕ) (l : Line) (s : List ℕ) where
  pub text_none : (f : ℕ) → length s ≡ 0 → frames_text f k l s ≡ line_text l
  text_none zero e = refl
  text_none (suc f) e = nothing s e
    where
      nothing : (s : List ℕ) → length s ≡ 0 → frames_text (suc f) k l s ≡ line_text l
      nothing [] e = refl
      nothing (b ∷ bs) e = let no : ⊥ = omega arith in absurd no

  text_cut : (f : ℕ) → 0 < length s → length s ≤ f → frame_cut s ≡ true → frames_text f k l s ≡ answer_line k 9 ++ line_text l
  text_cut zero full h e = let no : ⊥ = omega arith in absurd no
  text_cut (suc f) full h e = text_open f k l s full ∙ ap (λ (b : Bool). text_by b f k l s) e

  pub text_short : (f : ℕ) → 0 < length s → length s ≤ f → length_field s < 5 → frames_text f k l s ≡ answer_line k 9 ++ line_text l
  text_short f full h under =
      let e : frame_cut s ≡ true = rw (lt-ltb (length_field s) 5 under, or_true (ltb (length s) 2)) in
      text_cut f full h e

  pub text_few : (f : ℕ) → 0 < length s → length s ≤ f → length s < 2 → frames_text f k l s ≡ answer_line k 9 ++ line_text l
  text_few f full h less =
      let e : frame_cut s ≡ true = rw (lt-ltb (length s) 2 less) in
      text_cut f full h e

  pub text_part : (f : ℕ) → 0 < length s → length s ≤ f → length s < length_field s → frames_text f k l s ≡ answer_line k 9 ++ line_text l
  text_part f full h less =
      let e : frame_cut s ≡ true = rw (lt-ltb (length s) (length_field s) less) (or_true (ltb (length s) 2 || ltb (length_field s) 5)) in
      text_cut f full h e

  text_next : (f : ℕ) → 5 ≤ length_field s → length_field s ≤ length s → frames_text (suc f) k l s ≡ answer_line k (stepped l s).number ++ frames_text f (suc k) (stepped l s).line (behind s)
  text_next f five all =
      let e : frame_cut s ≡ false = rw (le-ltb (length s) 2 (omega arith), le-ltb (length_field s) 5 five, le-ltb (length s) (length_field s) all) in
      text_open f k l s (omega arith) ∙ ap (λ (b : Bool). text_by b f k l s) e

pub text_bound : (f g k : ℕ) (l : Line) (s : List ℕ) → length s ≤ f → length s ≤ g → frames_text f k l s ≡ frames_text g k l s
text_bound zero g k l s p q = sym (text_none k l s g (omega arith))
text_bound (suc f) g k l s p q = by g q (below_or_not 0 (length s)) (front s) (λ m. text_bound f m (suc k) (stepped l s).line (behind s))
  where
    by : (g : ℕ) → length s ≤ g → (0 < length s) ⊎ (length s ≤ 0) → Front s
        → ((m : ℕ) → length (behind s) ≤ f → length (behind s) ≤ m → frames_text f (suc k) (stepped l s).line (behind s) ≡ frames_text m (suc k) (stepped l s).line (behind s))
        → frames_text (suc f) k l s ≡ frames_text g k l s
    by g q (inr empty) at more = text_none k l s (suc f) (omega arith) ∙ sym (text_none k l s g (omega arith))
    by g q (inl full) (short two under) more = text_short k l s (suc f) full p under ∙ sym (text_short k l s g full q under)
    by g q (inl full) (few less) more = text_few k l s (suc f) full p less ∙ sym (text_few k l s g full q less)
    by g q (inl full) (part two five less) more = text_part k l s (suc f) full p less ∙ sym (text_part k l s g full q less)
    by zero q (inl full) (frame five all) more = let no : ⊥ = omega arith in absurd no
    by (suc g) q (inl full) (frame five all) more =
        text_next k l s f five all ∙ ap (◌++◌ (answer_line k (stepped l s).number)) (more g (behind_less s f five p) (behind_less s g five q)) ∙ sym (text_next k l s g five all)

pub text_frame : (f k : ℕ) (l : Line) (s : List ℕ) → 5 ≤ length_field s → length_field s ≤ length s → length s ≤ f
    → frames_text f k l s ≡ answer_line k (stepped l s).number ++ frames_text (length (behind s)) (suc k) (stepped l s).line (behind s)
text_frame zero k l s five all h = let no : ⊥ = omega arith in absurd no
text_frame (suc f) k l s five all h =
    text_next k l s f five all ∙ ap (◌++◌ (answer_line k (stepped l s).number)) (text_bound f (length (behind s)) (suc k) (stepped l s).line (behind s) (behind_less s f five h) (omega arith))

-- ---- the plan

pub data PlanFront (s : List ℕ) : Type 0 where
  plan_few : length s < 2 → PlanFront s
  plan_part_lem : length s < length_field s → PlanFront s
  plan-whole : 2 ≤ length s → length_field s ≤ length s → PlanFront s

pub plan_front : (s : List ℕ) → PlanFront s
plan_front s = here (below_or_not (length s) 2)
  where
    there : 2 ≤ length s → (length s < length_field s) ⊎ (length_field s ≤ length s) → PlanFront s
    there two (inl less) = plan_part_lem less
    there two (inr all) = plan-whole two all

    here : (length s < 2) ⊎ (2 ≤ length s) → PlanFront s
    here (inl less) = plan_few less
    here (inr two) = there two (below_or_not (length s) (length_field s))

module _ (s : List ℕ) where
  pub plan_told_few : length s < 2 → plan_told s ≡ record { text = []; next = planning s; line = none }
  plan_told_few less = rw (lt-leb 2 (length s) less, plan_told)

  pub plan_told_part : length s < length_field s → plan_told s ≡ record { text = []; next = planning s; line = none }
  plan_told_part less = rw (lt-leb (length_field s) (length s) less, and_false (leb 2 (length s)), plan_told)

  pub plan_told-whole : 2 ≤ length s → length_field s ≤ length s → plan_told s ≡ loaded_told (plan_refusal (take (length_field s) s)) (take (length_field s) s) (behind s)
  plan_told-whole two all = rw (le-leb 2 (length s) two, le-leb (length_field s) (length s) all, plan_told)

pub zero_or_not : (n : ℕ) → (n ≡ 0) ⊎ (n ≡ 0 → ⊥)
zero_or_not zero = inl refl
zero_or_not (suc n) = inr (λ e. omega arith)

module _ (refused : ℕ) (plan frames : List ℕ) where
  pub told-accepted : refused ≡ 0 → loaded_told refused plan frames ≡ frames_told (length frames) 1 (initial_line (plan_of plan)) frames
  told-accepted e = rw e

  pub told_refused : (refused ≡ 0 → ⊥) → loaded_told refused plan frames ≡ record { text = answer_line 0 refused; next = ended; line = none }
  told_refused other = rw (ne_eqb refused 0 other, loaded_told)

  pub text_accepted : refused ≡ 0 → plan_text refused plan frames ≡ frames_text (length frames) 1 (initial_line (plan_of plan)) frames
  text_accepted e = rw e

  pub text_refused : (refused ≡ 0 → ⊥) → plan_text refused plan frames ≡ answer_line 0 refused
  text_refused other = rw (ne_eqb refused 0 other, plan_text)
