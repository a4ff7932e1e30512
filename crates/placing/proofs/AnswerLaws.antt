-- The answer and the columns left, case by case.
use Prim.Native.Nat.{ℕ, ◌<◌, ◌≤◌}
use mathlib.Core.Path.{◌≡◌, refl, sym, ◌∙◌}
use mathlib.Core.Logic.{◌≢◌}
use mathlib.Core.Bool.{Bool, true, false, cond}
use mathlib.Core.List.{List, ◌++◌}
use native.Mathlib.Omega.{arith}
use lib.ListN.{length, drop}
use borrow.Author.Tests.{eq-eqb, ne_eqb, lt-ltb, le-ltb}
use Rattle.answers.specs.declared.Refusal.{Refusal}
use Rattle.answers.specs.Number.{refusal_number}
use Rattle.placing.specs.Walk.{walked, none_wait}
use Rattle.placing.specs.Item.{items_of}
use Rattle.placing.specs.Table.{malformed}
use Rattle.placing.specs.Answer.{unplaceable, chosen_columns, first_of, answer, columns_left}

pub first_none : (m s u : Bool) → first_of m s u ≡ 24 → (m ≡ false) × (s ≡ false) × (u ≡ true)
first_none true s u e = let clash : ⊥ = omega arith in absurd clash
first_none false true u e = let clash : ⊥ = omega arith in absurd clash
first_none false false true e = (refl, refl, refl)
first_none false false false e = let clash : ⊥ = omega arith in absurd clash

pub first_zero : (m s u : Bool) → first_of m s u ≡ 0 → (m ≡ false) × (s ≡ false) × (u ≡ false)
first_zero true s u e = let clash : ⊥ = omega arith in absurd clash
first_zero false true u e = let clash : ⊥ = omega arith in absurd clash
first_zero false false true e = let clash : ⊥ = omega arith in absurd clash
first_zero false false false e = (refl, refl, refl)

pub first_form : (m s u : Bool) → first_of m s u ≡ 22 → m ≡ true
first_form true s u e = refl
first_form false true u e = let clash : ⊥ = omega arith in absurd clash
first_form false false true e = let clash : ⊥ = omega arith in absurd clash
first_form false false false e = let clash : ⊥ = omega arith in absurd clash

pub first_short : (m s u : Bool) → first_of m s u ≡ 23 → (m ≡ false) × (s ≡ true)
first_short true s u e = let clash : ⊥ = omega arith in absurd clash
first_short false true u e = (refl, refl)
first_short false false true e = let clash : ⊥ = omega arith in absurd clash
first_short false false false e = let clash : ⊥ = omega arith in absurd clash

-- What the walk's outcome tells of what is left waiting.
pub some_wait : (r : Refusal) (placed : Bool) → refusal_number r ≡ cond placed 0 24 → (placed ≡ false) × (refusal_number r ≡ 24)
some_wait r true e = let clash : ⊥ = grind arith in absurd clash
some_wait r false e = (refl, e)

pub all_placed : (n : ℕ) (placed : Bool) → n ≡ 0 → n ≡ cond placed 0 24 → placed ≡ true
all_placed n true z e = refl
all_placed n false z e = let clash : ⊥ = omega arith in absurd clash

module _ (low high : ℕ) (rows times fixed floors columns : List ℕ) where
  pub left_accepted : answer low high rows times fixed floors columns ≡ 0 → columns_left low high rows times fixed floors columns ≡ chosen_columns low high (items_of rows times fixed floors) ++ drop (length rows) columns
  unfolding columns_left
  left_accepted e = rw (eq-eqb (answer low high rows times fixed floors columns) 0 e, columns_left)

  pub left_refused : answer low high rows times fixed floors columns ≢ 0 → columns_left low high rows times fixed floors columns ≡ columns
  unfolding columns_left
  left_refused h = rw (ne_eqb (answer low high rows times fixed floors columns) 0 h, columns_left)

  -- What a refusal answers and leaves.
  refuses : (n : ℕ) → n ≢ 0 → answer low high rows times fixed floors columns ≡ n → (n ≡ answer low high rows times fixed floors columns) × (columns ≡ columns_left low high rows times fixed floors columns)
  refuses n h e = (sym e, sym (left_refused (λ z. h (sym e ∙ z))))

  pub refuses_form : malformed low high rows times fixed floors ≡ true → (22 ≡ answer low high rows times fixed floors columns) × (columns ≡ columns_left low high rows times fixed floors columns)
  unfolding answer
  refuses_form m = refuses 22 (λ z. omega arith) (rw m)

  pub refuses_short : malformed low high rows times fixed floors ≡ false → length columns < length rows
      → (23 ≡ answer low high rows times fixed floors columns) × (columns ≡ columns_left low high rows times fixed floors columns)
  unfolding answer
  refuses_short m s = refuses 23 (λ z. omega arith) (rw (m, lt-ltb (length columns) (length rows) s))

  module _ (m : malformed low high rows times fixed floors ≡ false) (s : length rows ≤ length columns) where
    pub refuses_none : none_wait (walked low high (items_of rows times fixed floors)).waiting ≡ false
        → (24 ≡ answer low high rows times fixed floors columns) × (columns ≡ columns_left low high rows times fixed floors columns)
    unfolding answer unplaceable
    refuses_none w = refuses 24 (λ z. omega arith) (rw (m, le-ltb (length columns) (length rows) s, w))

    pub accepts : none_wait (walked low high (items_of rows times fixed floors)).waiting ≡ true → (left : List ℕ)
        → left ≡ (walked low high (items_of rows times fixed floors)).columns ++ drop (length rows) columns
        → (0 ≡ answer low high rows times fixed floors columns) × (left ≡ columns_left low high rows times fixed floors columns)
    unfolding answer unplaceable chosen_columns
    accepts w left e =
        let zero_is : answer low high rows times fixed floors columns ≡ 0 = rw (m, le-ltb (length columns) (length rows) s, w) in
        (sym zero_is, e ∙ sym (left_accepted zero_is))
