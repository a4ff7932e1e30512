-- Frames worked one after the other: where working starts, one frame more, and where no whole frame is left.
use Prim.Native.Nat.{ℕ, suc, ◌+◌, ◌-◌, ◌≤◌}
use mathlib.Core.Path.{◌≡◌, refl, sym, ap, ap₂, ◌∙◌}
use mathlib.Core.Logic.{◌≢◌}
use mathlib.Core.List.{List, [], ◌++◌, append_assoc}
use native.Mathlib.Numerals.{add-one}
use native.Mathlib.Omega.{arith}
use lib.ListN.{length, take, drop}
use lib.Seq.{slice}
use Rattle.basics.specs.Put.{put-none}
use Rattle.plan.specs.Lawful.{Bytes}
use Rattle.plan.proofs.BytesLaws.{bytes_take, bytes_drop}
use Rattle.rules.specs.Line.{Line}
use Rattle.rules.specs.Step.{step}
use Rattle.rules.specs.Sheet.{answer_line, length_field, frames_text}
use Rattle.rules.proofs.Undamaged.StepSound.{step_undamaged}
use Rattle.state.specs.State.{line_of}
use Rattle.state.proofs.LineLaws.{line_read}
use Rattle.state.proofs.Undamaged.{undamaged_fits}
use Rattle.step.specs.Stepped.{Stepped}
use Rattle.rules.proofs.Console.Counted.{step-number}
use Rattle.report.specs.Most.{answer_most}
use Rattle.report.specs.Wrote.{Wrote}
use Rattle.report.proofs.WroteLaws.{wrote_at, wrote_most, wrote_then}
use Rattle.stream.specs.Reading.{Told, before, frames_told}
use Rattle.stream.specs.Reader.{out_size}
use Rattle.stream.specs.Frames.{FrameSize, Workable, Going}
use Rattle.stream.proofs.ReadingLaws.{told-frame, text_frame}
use Rattle.stream.proofs.WindowLaws.{part_long, part_front, part_behind}

-- ---- texts one behind the other

pub wrote_none : (most : ℕ) (o : List ℕ) → Wrote most o 0 [] o 0
wrote_none most o = wrote_at most o 0 [] o 0 (sym (put-none o 0)) refl (omega arith) (omega arith)

-- A text behind another, both within the output.
pub wrote_behind : {a b : ℕ} {o : List ℕ} {at : ℕ} {x t : List ℕ} {p : ℕ} {y u : List ℕ} {q : ℕ} (most : ℕ) → Wrote a o at x t p → Wrote b t p y u q → length o ≤ most → Wrote most o at (x ++ y) u q
wrote_behind {x = x} {y = y} most v w h = let both = wrote_then v w in wrote_most most (omega (arith, both.end, both.within)) both

-- ---- working

before-before : (x y : List ℕ) (t : Told) → before x (before y t) ≡ before (x ++ y) t
before-before x y t = λ i. record { text = sym (append_assoc x y t.text) i; next = t.next; line = t.line }

module _ (s w : List ℕ) (from end k : ℕ) (o : List ℕ) (can : Workable s w from end k o) where
  pub going_start : Going s w from end k o s o from k 0
  going_start = record {
    done = [];
    told = refl;
    closing = refl;
    text = wrote_none out_size o;
    undamaged = can.undamaged;
    onward = omega arith;
    inside = can.ordered;
    spent = omega arith;
    counted = omega arith;
  }

  module _ {state out : List ℕ} {at count wrote : ℕ} (g : Going s w from end k o state out at count wrote) where
    abbrev rest : List ℕ
    rest = slice at end w

    rest_long : length rest ≡ end - at
    rest_long = part_long w at end can.inside

    -- One frame more, of n bytes, up to the place next.
    module _ (n next : ℕ) (size : FrameSize rest n) (other : n ≢ 0) (on : next ≡ at + n) where
      long : n ≡ length_field rest
      long = (size.one other).0

      frame_is : take (next - at) (drop at w) ≡ take (length_field rest) rest
      frame_is =
          let many : next - at ≡ n = omega arith in
          rw (many, ← long) (sym (part_front w at end n (omega (arith, (size.one other).1.1, rest_long))))

      behind_is : drop (length_field rest) rest ≡ slice next end w
      behind_is = rw (← long, on) (part_behind w at end n)

      -- Where the step and its answer line are read.
      pub next_inside : (next ≤ end) × (wrote + answer_most ≤ out_size)
      next_inside = (omega (arith, (size.one other).1, rest_long, g.inside), omega (arith, (size.one other).1, rest_long, g.inside, g.spent, can.inside, can.whole))

      module _ (bytes : Bytes w) {state' out' : List ℕ} {answer wrote' : ℕ} (stepped : Stepped state (take (next - at) (drop at w)) state' answer) (line : Wrote answer_most out wrote (answer_line count answer) out' wrote') where
        abbrev f : List ℕ
        f = take (next - at) (drop at w)

        abbrev after : Line
        after = (step (line_of state) f).line

        line_is : line_of state' ≡ after
        line_is = ap line_of stepped.left ∙ line_read after (undamaged_fits after (step_undamaged (line_of state) f (bytes_take (next - at) (drop at w) (bytes_drop at w bytes)) g.undamaged.undamaged))

        answer_is : (step (line_of state) f).number ≡ answer
        answer_is = step-number (line_of state) f ∙ sym stepped.number

        abbrev told_from : List ℕ → List ℕ → Told
        told_from x y = before (answer_line count (step (line_of state) x).number) (frames_told (length y) (suc count) (step (line_of state) x).line y)

        told_on : frames_told (length rest) count (line_of state) rest ≡ before (answer_line count answer) (frames_told (length (slice next end w)) (count + 1) (line_of state') (slice next end w))
        told_on =
            told-frame (length rest) count (line_of state) rest (rw (← long) (size.one other).1.0) (rw (← long) (size.one other).1.1) (omega arith)
            ∙ ap₂ told_from (sym frame_is) behind_is
            ∙ rw (answer_is, ← line_is, ← add-one count)

        abbrev text_on : List ℕ → List ℕ → List ℕ
        text_on x y = answer_line count (step (line_of state) x).number ++ frames_text (length y) (suc count) (step (line_of state) x).line y

        text_on_lem : frames_text (length rest) count (line_of state) rest ≡ answer_line count answer ++ frames_text (length (slice next end w)) (count + 1) (line_of state') (slice next end w)
        text_on_lem =
            text_frame (length rest) count (line_of state) rest (rw (← long) (size.one other).1.0) (rw (← long) (size.one other).1.1) (omega arith)
            ∙ ap₂ text_on (sym frame_is) behind_is
            ∙ rw (answer_is, ← line_is, ← add-one count)

        pub going_on : Going s w from end k o state' out' next (count + 1) wrote'
        going_on = record {
          done = g.done ++ answer_line count answer;
          told = g.told ∙ ap (before g.done) told_on ∙ before-before g.done (answer_line count answer) (frames_told (length (slice next end w)) (count + 1) (line_of state') (slice next end w));
          closing = g.closing ∙ ap (◌++◌ g.done) text_on_lem ∙ sym (append_assoc g.done (answer_line count answer) (frames_text (length (slice next end w)) (count + 1) (line_of state') (slice next end w)));
          text = wrote_behind out_size g.text line (omega (arith, can.space));
          undamaged = stepped.undamaged;
          onward = omega (arith, g.onward);
          inside = next_inside.0;
          spent = omega (arith, g.spent, line.end, line.short, (size.one other).1.0);
          counted = omega (arith, g.counted, (size.one other).1.0);
        }
