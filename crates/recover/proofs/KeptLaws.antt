-- A kept answer, compared with what is found.
use Prim.Native.Nat.{ℕ, ◌≤◌}
use mathlib.Core.Path.{◌≡◌, refl, sym, ap, ◌∙◌}
use mathlib.Core.Bool.{Bool, true, false, not, ◌&&◌, and_assoc}
use mathlib.Core.List.{List, [], ◌∷◌}
use borrow.Author.Tests.{le-leb, lt-leb}
use lib.Dec.{leb, eqb}
use lib.Pointwise.{pointwise}
use lib.ListN.{length}
use Rattle.std.specs.Prelude.{Some, None}
use Rattle.answers.specs.declared.Refusal.{Refusal}
use Rattle.rules.specs.Line.{target_limit, Target, Asked, Line, node_at}
use Rattle.rules.specs.Recover.{low_of, high_of, targets_of, answer_of}
use Rattle.rules.specs.Damaged.{same_targets, same_times, same_answer}
use Rattle.items.specs.Items.{answer_right, kept_right}
use Rattle.node_fields.specs.declared.Kept.{Kept}
use Rattle.node_fields.specs.Kept.{kept_is, keeps}
use Rattle.recover.specs.Found.{TooMany, no_outcome}

-- What is found is the answer.
pub answer_as : (l : Line) (n low high : ℕ) (es : List ℕ) → low ≡ low_of l n → high ≡ high_of l n → es ≡ (answer_of l n).entries → record { low = low; high = high; entries = es } ≡ answer_of l n
unfolding answer_of
answer_as l n low high es e f g = λ j. record { low = e j; high = f j; entries = g j }

-- As the code compares them.
same_in_turn : (xs ys : List ℕ) → pointwise eqb xs ys ≡ same_times xs ys
same_in_turn [] [] = refl
same_in_turn [] (y ∷ ys) = refl
same_in_turn (x ∷ xs) [] = refl
same_in_turn (x ∷ xs) (y ∷ ys) = ap (λ (t : Bool). eqb x y && t) (same_in_turn xs ys)

pub kept_same : (k : Kept) (r : Bool) (b : Kept) (a : Asked) → r ≡ (eqb k.low b.low && (eqb k.high b.high && pointwise eqb k.entries b.entries)) → kept_is b ≡ a → r ≡ same_answer (kept_is k) a
kept_same k r b a e is =
    e ∙ ap (λ (t : Bool). eqb k.low b.low && (eqb k.high b.high && t)) (same_in_turn k.entries b.entries)
    ∙ sym (and_assoc (eqb k.low b.low) (eqb k.high b.high) (same_times k.entries b.entries)) ∙ ap (same_answer (kept_is k)) is

-- ---- the whole test

module _ (l : Line) (n : ℕ) (a : Asked) where
  abbrev ts : List Target
  ts = targets_of l n

  answer_is : answer_right l n a ≡ (leb (length ts) target_limit && not (no_outcome l n ts) && (same_answer a (answer_of l n) && same_targets (node_at l n).targets ts))
  unfolding answer_right
  answer_is = refl

  pub answer_many : (e : Refusal) → TooMany ts e → false ≡ answer_right l n a
  answer_many e many = sym (answer_is ∙ ap (λ (few : Bool). few && not (no_outcome l n ts) && (same_answer a (answer_of l n) && same_targets (node_at l n).targets ts)) (lt-leb (length ts) target_limit many.1))

  pub answer_few : length ts ≤ 64 → (not (no_outcome l n ts) && same_answer a (answer_of l n) && same_targets (node_at l n).targets ts) ≡ answer_right l n a
  answer_few few =
      and_assoc (not (no_outcome l n ts)) (same_answer a (answer_of l n)) (same_targets (node_at l n).targets ts)
      ∙ ap (λ (t : Bool). t && not (no_outcome l n ts) && (same_answer a (answer_of l n) && same_targets (node_at l n).targets ts)) (sym (le-leb (length ts) target_limit few)) ∙ sym answer_is

-- Where an answer is kept, and where none is.
pub kept_some : (l : Line) (n : ℕ) (r : Bool) (k : Kept) → keeps (Some k) ≡ (node_at l n).asked → r ≡ answer_right l n (kept_is k) → r ≡ kept_right l n (node_at l n).asked
kept_some l n r k e right = rw (← e) right

pub kept_none : (l : Line) (n : ℕ) → keeps None ≡ (node_at l n).asked → true ≡ kept_right l n (node_at l n).asked
kept_none l n e = rw (← e)
