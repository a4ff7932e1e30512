-- A part of the window: its length, its length field, the frame in front of it, what stands behind that, and what moves to the front.
use Prim.Native.Nat.{ℕ, ◌+◌, ◌-◌, ◌≤◌, ◌<◌, min}
use mathlib.Core.Path.{◌≡◌, refl, sym, ap, ap₂, ◌∙◌}
use mathlib.Core.Logic.{◌⊎◌, inl, inr}
use mathlib.Core.List.{List}
use native.Mathlib.Omega.{arith}
use borrow.Author.Tests.{lt-ltb, lt-leb, le-leb}
use lib.Dec.{leb, ltb}
use lib.ListN.{length, take, drop, length-take, drop_of_length-le}
use lib.Seq.{slice, paste, length-slice, length-take-le, take-take, take_all, drop-drop}
use Rattle.std.proofs.Math.Nat.{min-eq_left, min-eq_right}
use Rattle.basics.specs.Bools.{below_or_not}
use Rattle.basics.specs.Put.{put}
use Rattle.plan.specs.Layout.{spelled}
use Rattle.plan.specs.Plan.{plan_length}
use Rattle.plan.specs.Check.{bad_length, plan_refusal}
use Rattle.plan.proofs.CheckLaws.{accepted}
use Rattle.plan.proofs.BytesLaws.{drop-take}
use Rattle.rules.specs.Sheet.{answer_line, length_field, plan_text}
use Rattle.stream.specs.Reading.{Told, too_short}
use Rattle.stream.specs.Reader.{window_size}
use Rattle.stream.specs.Frames.{FrameSize, PlanSize}
use Rattle.stream.proofs.ReadingLaws.{plan_told_few, plan_told_part, plan_told-whole, told_refused}

module _ (w : List ℕ) (at end : ℕ) where
  pub part_long : end ≤ length w → length (slice at end w) ≡ end - at
  part_long h = length-slice at end w h

  pub part_front : (n : ℕ) → n ≤ end - at → take n (slice at end w) ≡ take n (drop at w)
  part_front n h = rw drop-take (take-take n (end - at) (drop at w) h)

  pub part_field : 2 ≤ end - at → length_field (slice at end w) ≡ spelled 0 (take 2 (drop at w))
  part_field h = ap (spelled 0) (part_front 2 h)

  pub part_behind : (n : ℕ) → drop n (slice at end w) ≡ slice (at + n) end w
  part_behind n = drop-drop n at (take end w)

-- ---- the frame in front

no_frame : (s : List ℕ) → (2 ≤ length s → 5 ≤ length_field s → (length s < length_field s) × (length_field s < window_size)) → FrameSize s 0
no_frame s h = record { none = λ e. h; one = λ other. absurd (other refl) }

module _ (w : List ℕ) (at end : ℕ) (inside : end ≤ length w) where
  abbrev rest : List ℕ
  rest = slice at end w

  pub frame_few : end - at < 2 → FrameSize rest 0
  frame_few less = no_frame rest (λ two five. omega (arith, part_long w at end inside))

  pub short_few : end - at < 2 → leb 2 (end - at) ≡ too_short rest
  short_few less =
      let few : length rest < 2 = omega (arith, part_long w at end inside) in
      rw (lt-leb 2 (end - at) less, lt-leb 2 (length rest) few)

  module _ (n : ℕ) (two : 2 ≤ end - at) (e : n ≡ spelled 0 (take 2 (drop at w))) where
    field_is : n ≡ length_field rest
    field_is = e ∙ sym (part_field w at end two)

    pub frame_under : n < 5 → FrameSize rest 0
    frame_under under = no_frame rest (λ two five. omega (arith, field_is))

    pub frame_part : end - at < n → n < window_size → FrameSize rest 0
    frame_part less small = no_frame rest (λ two five. omega (arith, field_is, part_long w at end inside))

    pub frame-whole : 5 ≤ n → n ≤ end - at → FrameSize rest n
    frame-whole five all = record { none = λ z long full. omega arith; one = λ other. (field_is, (five, omega (arith, part_long w at end inside))) }

    pub short_by : ltb n 5 ≡ too_short rest
    short_by =
        let long : 2 ≤ length rest = omega (arith, part_long w at end inside) in
        rw (le-leb 2 (length rest) long, field_is)

-- ---- the plan in front

line_of : {t u : Told} → t ≡ u → t.line ≡ u.line
line_of e = ap (λ (t : Told). t.line) e

length-spelled : (s : List ℕ) → plan_length s ≡ length_field s
unfolding plan_length
length-spelled s = refl

-- A plan that its length field makes longer is refused.
plan_cut : (p : List ℕ) → length p < length_field p → plan_refusal p ≡ 0 → ⊥
plan_cut p less z =
    let a = accepted p z in
    omega (arith, a.length_field, length-spelled p)

plan-too_short : (p : List ℕ) → length p < 5 → plan_refusal p ≡ 1
unfolding plan_refusal bad_length
plan-too_short p h = rw (lt-ltb (length p) 5 h, plan_refusal)

module _ (w : List ℕ) (end : ℕ) (inside : end ≤ length w) where
  abbrev all : List ℕ
  all = take end w

  all_long : length all ≡ end
  all_long = length-take-le end w inside

  abbrev plan_from : ℕ → List ℕ
  plan_from n = plan_text (plan_refusal (take n all)) (take n all) (drop n all)

  pub plan_few : end < 2 → PlanSize all end
  plan_few less =
      let refused : (n : ℕ) → plan_from n ≡ answer_line 0 1 = λ n. rw (plan-too_short (take n all) (rw length-take (omega (arith, all_long)))) refl in
      let few : length all < 2 = omega (arith, all_long) in
      let short : plan_refusal (take end all) ≡ 0 → ⊥ = λ z. omega (arith, z, plan-too_short (take end all) (rw length-take (omega (arith, all_long)))) in
      record {
        within = omega (arith, all_long);
        same = refused end ∙ sym (refused (length_field all));
        line = line_of (plan_told_few all few) ∙ sym (line_of (told_refused (plan_refusal (take end all)) (take end all) (drop end all) short));
      }

  module _ (n : ℕ) (two : 2 ≤ end) (e : n ≡ spelled 0 (take 2 w)) where
    plan_is : n ≡ length_field all
    plan_is = e ∙ sym (part_field w 0 end (omega arith))

    pub plan_field : n ≤ end → PlanSize all n
    plan_field h = record {
      within = omega (arith, all_long);
      same = ap plan_from plan_is;
      line = rw plan_is (line_of (plan_told-whole all (omega (arith, all_long)) (omega (arith, all_long, plan_is))));
    }

    pub plan_all : end < n → PlanSize all end
    plan_all h =
        let past : length all ≤ length_field all = omega (arith, plan_is, all_long) in
        let less : length all < length_field all = omega (arith, plan_is, all_long) in
        let cut : plan_refusal (take end all) ≡ 0 → ⊥ = λ z. plan_cut all less (rw (← take_all end all (omega (arith, all_long))) z) in
        record {
          within = omega (arith, all_long);
          same = ap₂ (λ (p r : List ℕ). plan_text (plan_refusal p) p r)
              (take_all end all (omega (arith, all_long)) ∙ sym (take_all (length_field all) all past))
              (drop_of_length-le all {i = end} (omega (arith, all_long)) ∙ sym (drop_of_length-le all {i = length_field all} past));
          line = line_of (plan_told_part all less) ∙ sym (line_of (told_refused (plan_refusal (take end all)) (take end all) (drop end all) cut));
        }

    -- As long as the field says, or all there is.
    pub plan_least : PlanSize all (min n end)
    plan_least = by (below_or_not end n)
      where
        by : (end < n) ⊎ (n ≤ end) → PlanSize all (min n end)
        by (inl less) = let all_there : end ≤ n = omega arith in rw (min-eq_right all_there) (plan_all less)
        by (inr h) = rw (min-eq_left h) (plan_field h)

-- ---- what moves to the front

pub moved_front : (w : List ℕ) (at end : ℕ) → at ≤ end → end ≤ length w → paste w 0 (drop at w) (end - at) ≡ put w 0 (slice at end w)
unfolding put
moved_front w at end h inside = rw (part_long w at end inside, drop-take at end w)
