-- The plan in front of the window: it is no whole plan yet, it is refused, or it is loaded and the frames behind it are worked.
use Prim.Native.Nat.{ℕ, ◌+◌, ◌-◌, ◌≤◌, ◌<◌}
use mathlib.Core.Path.{◌≡◌, refl, sym, ap, subst, ◌∙◌}
use mathlib.Core.Logic.{◌≢◌, ◌⊎◌, inl, inr}
use mathlib.Core.List.{List, []}
use mathlib.Core.Option.{Option, none}
use native.Mathlib.Omega.{arith}
use lib.ListN.{length, take, drop}
use lib.Seq.{slice, take-take, length-take-le}
use Rattle.answers.specs.declared.Refusal.{Refusal}
use Rattle.answers.specs.Number.{refusal_number}
use Rattle.basics.specs.Put.{put-none, put_same}
use Rattle.plan.specs.Layout.{spelled}
use Rattle.plan.specs.Lawful.{Bytes}
use Rattle.plan.specs.Plan.{plan_of}
use Rattle.plan.specs.Check.{plan_refusal}
use Rattle.plan.proofs.BytesLaws.{bytes_take}
use Rattle.rules.specs.Line.{Line, initial_line}
use Rattle.rules.specs.Sheet.{answer_line, length_field, frames_text}
use Rattle.state.specs.State.{line_of}
use Rattle.state.proofs.SpelledLaws.{state_sane}
use Rattle.buffer.proofs.HoldsLaws.{sane_undamaged}
use Rattle.line.specs.Load.{load_answer, load_left}
use Rattle.line.proofs.LoadLaws.{plan_refused, loaded, load_right}
use Rattle.report.specs.Wrote.{Wrote}
use Rattle.report.proofs.WroteLaws.{wrote_most}
use Rattle.stream.specs.declared.Phase.TheVariants.{Planning, Ended}
use Rattle.stream.specs.declared.Reader.{Reader}
use Rattle.stream.specs.Reading.{Told, planning, frames_told, loaded_told, plan_told, plan_all}
use Rattle.stream.specs.Reader.{window_size, out_size, state_left, Gave, Finished}
use Rattle.stream.specs.Frames.{PlanSize, Loadable, Workable}
use Rattle.stream.proofs.ReadingLaws.{plan_told_few, plan_told_part, plan_told-whole, told-accepted, told_refused, text_accepted, text_refused, left_same, zero_or_not}
use Rattle.stream.proofs.WindowLaws.{part_field}
use Rattle.stream.proofs.GoingLaws.{wrote_none}
use Rattle.stream.proofs.EndingLaws.{gave_of}

pub refused : (r : Refusal) → refusal_number r ≢ 0
refused r e = grind arith

pub size_within : (w : List ℕ) (end : ℕ) → end ≤ length w → {n : ℕ} → PlanSize (take end w) n → n ≤ end
size_within w end h size = omega (arith, size.within, length-take-le end w h)

module _ (state w : List ℕ) (end : ℕ) (o : List ℕ) (can : Loadable state w end o) where
  abbrev all : List ℕ
  all = take end w

  all_long : length all ≡ end
  all_long = length-take-le end w can.inside

  -- ---- no whole plan yet

  abbrev Waiting : Type 0
  Waiting = Gave (plan_told all) (1 + end) state w o state w o (record { phase = Planning; have = end; count = 1; wrote = 0 })

  waiting : plan_told all ≡ record { text = []; next = planning all; line = none } → end < window_size → Waiting
  waiting is less =
      gave_of is
      (record { text = wrote_none out_size o; next = refl; left = put_same w end can.inside; held = refl; holding = refl; room = less; counted = omega arith })

  pub waiting_few : end < 2 → Waiting
  waiting_few less = waiting (plan_told_few all (omega (arith, all_long))) (omega arith)

  module _ (n : ℕ) (two : 2 ≤ end) (e : n ≡ spelled 0 (take 2 w)) where
    field_is : n ≡ length_field all
    field_is = e ∙ sym (part_field w 0 end (omega arith))

    pub waiting_part : end < n → n < window_size → Waiting
    waiting_part less small = waiting (plan_told_part all (omega (arith, all_long, field_is))) (omega arith)

    whole-told : n ≤ end → plan_told all ≡ loaded_told (plan_refusal (take n all)) (take n all) (drop n all)
    whole-told h = rw field_is (plan_told-whole all (omega (arith, all_long)) (omega (arith, all_long, field_is)))

  -- ---- the plan in the first n bytes

  module _ (n : ℕ) (within : n ≤ end) (bytes : Bytes w) (answer : ℕ) (is : answer ≡ load_answer (take n w) state) where
    plan_is : take n all ≡ take n w
    plan_is = take-take n end w within

    plan_bytes_lem : Bytes (take n w)
    plan_bytes_lem = bytes_take n w bytes

    pub load_number : answer ≡ plan_refusal (take n all)
    load_number = is ∙ by (zero_or_not (plan_refusal (take n w))) ∙ ap plan_refusal (sym plan_is)
      where
        by : (plan_refusal (take n w) ≡ 0) ⊎ (plan_refusal (take n w) ≡ 0 → ⊥) → load_answer (take n w) state ≡ plan_refusal (take n w)
        by (inl z) = sym (loaded (take n w) state plan_bytes_lem z can.sized).0 ∙ sym z
        by (inr other) = sym (plan_refused (take n w) state other).0

    -- Loaded: the state holds the plan's first line.
    module _ (z : answer ≡ 0) {after : List ℕ} (left : after ≡ load_left (take n w) state) where
      pub loaded_line : line_of after ≡ initial_line (plan_of (take n all))
      loaded_line = ap line_of left ∙ (load_right (take n w) state plan_bytes_lem (sym is ∙ z)).line ∙ ap (λ (p : List ℕ). initial_line (plan_of p)) (sym plan_is)

      pub loaded_workable : Workable after w n end 1 o
      loaded_workable = record {
        undamaged = sane_undamaged after ((state_sane after).0 (rw left (load_right (take n w) state plan_bytes_lem (sym is ∙ z)).accepted));
        ordered = within;
        inside = can.inside;
        whole = can.whole;
        space = can.space;
        few = omega arith;
      }

      -- ---- a block: the frames behind the plan

      pub block_loaded : 2 ≤ end → n ≡ spelled 0 (take 2 w) → {t v u : List ℕ} {r : Reader}
          → Gave (frames_told (length (slice n end w)) 1 (line_of after) (slice n end w)) (1 + (end - n)) after w o t v u r → Gave (plan_told all) (1 + end) state w o t v u r
      block_loaded two e {t} {v} {u} {r} g =
          let told : plan_told all ≡ frames_told (length (drop n all)) 1 (line_of after) (drop n all) =
          whole-told n two e within ∙ told-accepted (plan_refusal (take n all)) (take n all) (drop n all) (sym load_number ∙ z)
          ∙ ap (λ (l : Line). frames_told (length (drop n all)) 1 l (drop n all)) (sym loaded_line) in
          gave_of told
          (record { text = g.text; next = g.next; left = g.left; held = g.held ∙ left_same (length (drop n all)) 1 (line_of after) (drop n all) after state; holding = g.holding; room = g.room; counted = omega (arith, g.counted) })

      -- ---- the end of the input

      pub closed_loaded : PlanSize all n → {t u : List ℕ} {r : ℕ}
          → Finished (frames_text (length (slice n end w)) 1 (line_of after) (slice n end w)) (frames_told (length (slice n end w)) 1 (line_of after) (slice n end w)) after o t u r → Finished (plan_all all) (plan_told all) state o t u r
      closed_loaded size {t} {u} {r} f =
          let refused : plan_refusal (take n all) ≡ 0 = sym load_number ∙ z in
          let told : (plan_told all).line ≡ (frames_told (length (drop n all)) 1 (line_of after) (drop n all)).line =
          size.line ∙ ap (λ (k : Told). k.line) (told-accepted (plan_refusal (take n all)) (take n all) (drop n all) refused) ∙ ap (λ (l : Line). (frames_told (length (drop n all)) 1 l (drop n all)).line) (sym loaded_line) in
          record {
            text = subst (λ (x : List ℕ). Wrote out_size o 0 x u r)
                (ap (λ (l : Line). frames_text (length (drop n all)) 1 l (drop n all)) loaded_line ∙ sym (text_accepted (plan_refusal (take n all)) (take n all) (drop n all) refused) ∙ size.same)
                f.text;
            held = f.held ∙ left_same (length (drop n all)) 1 (line_of after) (drop n all) after state ∙ sym (ap (λ (l : Option Line). state_left l state) told);
          }

    -- Refused: the answer is all that is written.
    module _ (other : answer ≢ 0) {most : ℕ} {u : List ℕ} {r : ℕ} (wrote : Wrote most o 0 (answer_line 0 answer) u r) (small : most ≤ out_size) {after : List ℕ} (left : after ≡ load_left (take n w) state) where
      line_is : answer_line 0 (plan_refusal (take n all)) ≡ answer_line 0 answer
      line_is = ap (answer_line 0) (sym load_number)

      not_loaded : plan_refusal (take n all) ≡ 0 → ⊥
      not_loaded z = other (load_number ∙ z)

      as_it_was : after ≡ state
      as_it_was = left ∙ sym (plan_refused (take n w) state (λ z. not_loaded (ap plan_refusal plan_is ∙ z))).1

      pub block_refused : 2 ≤ end → n ≡ spelled 0 (take 2 w) → Gave (plan_told all) (1 + end) state w o after w u (record { phase = Ended; have = 0; count = 1; wrote = r })
      block_refused two e =
          gave_of (whole-told n two e within ∙ told_refused (plan_refusal (take n all)) (take n all) (drop n all) not_loaded)
          (record { text = rw line_is (wrote_most out_size (omega (arith, wrote.short)) wrote); next = refl; left = sym (put-none w 0); held = as_it_was; holding = tt; room = omega arith; counted = omega arith })

      pub closed_refused : PlanSize all n → Finished (plan_all all) (plan_told all) state o after u r
      closed_refused size = record {
        text = rw (← size.same, text_refused (plan_refusal (take n all)) (take n all) (drop n all) not_loaded, line_is) (wrote_most out_size (omega (arith, wrote.short)) wrote);
        held = as_it_was ∙ sym (ap (λ (l : Option Line). state_left l state) (size.line ∙ ap (λ (k : Told). k.line) (told_refused (plan_refusal (take n all)) (take n all) (drop n all) not_loaded)));
      }
