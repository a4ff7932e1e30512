-- Step by cases: the state is damaged, the frame is refused, or the line goes on.
use Prim.Native.Nat.{ℕ, ◌≤◌}
use mathlib.Core.Path.{◌≡◌, refl, sym, ap, ◌∙◌}
use mathlib.Core.Logic.{◌≢◌}
use mathlib.Core.Bool.{Bool, true, false}
use mathlib.Core.List.{List}
use native.Mathlib.Omega.{arith}
use native.Mathlib.Decide.{ℕ_discrete}
use borrow.Author.Tests.{ne_eqb}
use lib.Dec.{eqb}
use Rattle.plan.specs.Lawful.{Bytes}
use Rattle.rules.specs.Line.{Line}
use Rattle.rules.specs.Frame.{Frame, frame_of}
use Rattle.rules.specs.Step.{no_such, some_stopped, wrong_node, wrong_status, beside_crashed, no_answer, bad_record, nothing_there, queue_full, row_done, no_space, no_placing, line_refusal, refusal, step}
use Rattle.rules.specs.Damaged.{damaged}
use Rattle.rules.proofs.Theorem.Accepted.{step_refused as rules-refused, admitted}
use Rattle.rules.proofs.Undamaged.StepSound.{step_undamaged}
use Rattle.state.specs.State.{line_bytes, line_of, state_answer}
use Rattle.state.proofs.LineLaws.{line_read}
use Rattle.state.proofs.SpelledLaws.{state_sane}
use Rattle.state.proofs.AcceptedState.{undamaged_accepted}
use Rattle.state.proofs.Undamaged.{undamaged_fits}
use Rattle.line.specs.Step.{step_answer, step_left}
use Rattle.rules.proofs.Console.Counted.{step-number}

abbrev pick : {A : Type 0} → Bool → A → A → A
pick b x y = elim b [ true ↦ x | false ↦ y ]

-- The first of two numbers that is not 0.
abbrev pub or_else : ℕ → ℕ → ℕ
or_else n m = pick (eqb n 0) m n

pub or_first : (n m r : ℕ) → n ≡ r → r ≢ 0 → or_else n m ≡ r
or_first n m r e d = ap (λ (k : ℕ). or_else k m) e ∙ rw (ne_eqb r 0 d)

-- ---- no refusal of the rules is 8

beyond : (b : Bool) (k n : ℕ) → 9 ≤ k → n ≢ 8 → pick b k n ≢ 8
beyond true k n h d e = let no : ⊥ = omega arith in no
beyond false k n h d e = d e

line_not_eight : (l : Line) (f : Frame) → line_refusal l f ≢ 8
unfolding line_refusal
line_not_eight l f =
    beyond (no_such l f) 13 _ (omega arith)
    (beyond (some_stopped l f) 26 _ (omega arith)
    (beyond (wrong_node l f) 14 _ (omega arith)
    (beyond (wrong_status l f) 15 _ (omega arith)
    (beyond (beside_crashed l f) 16 _ (omega arith)
    (beyond (no_answer l f) 27 _ (omega arith)
    (beyond (bad_record f) 17 _ (omega arith)
    (beyond (nothing_there l f) 18 _ (omega arith)
    (beyond (queue_full l f) 19 _ (omega arith)
    (beyond (row_done l f) 20 _ (omega arith)
    (beyond (no_space l f) 21 _ (omega arith)
    (beyond (no_placing l f) 24 0 (omega arith) (λ e. omega arith))))))))))))

pub refusal_not_eight : (l : Line) (f : List ℕ) → refusal l f ≢ 8
refusal_not_eight l f e = line_not_eight l (frame_of f) (admitted l f 8 (λ z. omega arith, (λ z. omega arith, (λ z. omega arith, (λ z. omega arith, (λ z. omega arith, tt))))) e).answer

-- ---- Step

module _ (s f : List ℕ) where
  answer_is : step_answer s f ≡ or_else (state_answer s) (refusal (line_of s) f)
  unfolding step_answer
  answer_is = refl

  left_is : step_left s f ≡ pick (eqb (step_answer s f) 0) (line_bytes (step (line_of s) f).line) s
  unfolding step_left
  left_is = refl

  left_as_it_was : (r : ℕ) → step_answer s f ≡ r → r ≢ 0 → step_left s f ≡ s
  left_as_it_was r e d = left_is ∙ rw (e, ne_eqb r 0 d)

  pub answer_undamaged : state_answer s ≡ 0 → step_answer s f ≡ refusal (line_of s) f
  answer_undamaged z = answer_is ∙ rw z refl

  pub step-damaged : (r : ℕ) → state_answer s ≡ r → r ≢ 0 → (step_answer s f ≡ r) × (step_left s f ≡ s)
  step-damaged r e d = let a : step_answer s f ≡ r = answer_is ∙ or_first (state_answer s) (refusal (line_of s) f) r e d in (a, left_as_it_was r a d)

  pub step_refused : (r : ℕ) → state_answer s ≡ 0 → refusal (line_of s) f ≡ r → r ≢ 0 → (step_answer s f ≡ r) × (step_left s f ≡ s)
  step_refused r z e d = let a : step_answer s f ≡ r = answer_undamaged z ∙ e in (a, left_as_it_was r a d)

-- One call on an undamaged state is one step of its line.
pub record OneCall (s f : List ℕ) : Type 0 where
  pub number : step_answer s f ≡ (step (line_of s) f).number
  pub left : step_left s f ≡ line_bytes (step (line_of s) f).line
  pub accepted : state_answer (step_left s f) ≡ 0
  pub line : line_of (step_left s f) ≡ (step (line_of s) f).line

module _ (s f : List ℕ) (bytes : Bytes f) (z : state_answer s ≡ 0) where
  abbrev next : Line
  next = (step (line_of s) f).line

  next_undamaged : damaged next ≡ false
  next_undamaged = step_undamaged (line_of s) f bytes ((state_sane s).0 z).undamaged

  next_left : step_left s f ≡ line_bytes next
  next_left = elim (ℕ_discrete (refusal (line_of s) f) 0) [
    | yes e ↦ (left_is s f ∙ rw (answer_undamaged s f z, e) refl)
    | no d ↦ ((step_refused s f (refusal (line_of s) f) z refl d).1 ∙ sym (ap line_bytes (rules-refused (line_of s) f d).1 ∙ ((state_sane s).0 z).written))
  ]

  pub one_call : OneCall s f
  one_call = record {
    number = answer_undamaged s f z ∙ sym (step-number (line_of s) f);
    left = next_left;
    accepted = ap state_answer next_left ∙ undamaged_accepted next next_undamaged;
    line = ap line_of next_left ∙ line_read next (undamaged_fits next next_undamaged);
  }
