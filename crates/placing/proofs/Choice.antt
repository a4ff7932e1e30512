-- What the walk's choice at a column tells of the rows.
use Prim.Native.Nat.{ℕ, zero, suc, ◌+◌, ◌≤◌}
use mathlib.Core.Path.{◌≡◌, refl, sym, ◌∙◌}
use mathlib.Core.Logic.{◌⊎◌, inl, inr}
use mathlib.Core.Bool.{Bool, true, false, cond, true≢false}
use mathlib.Core.List.{List, [], ◌∷◌}
use mathlib.Core.Option.{Option, none, some}
use native.Mathlib.Omega.{arith}
use lib.ListN.{get_or}
use lib.Dec.{ltb}
use borrow.Author.Tests.{ltb-true, ltb-false}
use Rattle.placing.specs.Walk.{Waiting, last_column, fixed_here, free_here, fixed_row, Candidate, sooner, free_row, or_else, chosen_row}

abbrev pub row_of : List (List Waiting) → ℕ → List Waiting
row_of rows r = get_or rows r []

-- A row that gives column c nothing: its next item is neither fixed there nor free with a floor below it.
abbrev pub GivesNone : ℕ → List Waiting → Type 0
GivesNone c ws = (fixed_here c ws ≡ false) × (free_here c ws ≡ false)

-- Of the rows counted from k: none has its next item fixed at column c, or row a is the first.
abbrev FixedSays : ℕ → ℕ → List (List Waiting) → Option ℕ → Type 0
FixedSays c k rows none = (r : ℕ) → fixed_here c (row_of rows r) ≡ false
FixedSays c k rows (some a) = (r : ℕ) × (a ≡ k + r) × (fixed_here c (row_of rows r) ≡ true)

fixed_step : (c k : ℕ) (ws : List Waiting) (rest : List (List Waiting)) (b : Bool) → fixed_here c ws ≡ b → (o : Option ℕ) → FixedSays c (suc k) rest o → FixedSays c k (ws ∷ rest) (cond b (some k) o)
fixed_step c k ws rest true e o h = (0, omega arith, e)
fixed_step c k ws rest false e none h = λ r. elim r as (λ (r : ℕ). fixed_here c (row_of (ws ∷ rest) r) ≡ false) [ zero ↦ e | suc r ↦ h r ]
fixed_step c k ws rest false e (some a) h = (suc h.0, omega (arith, h.1), h.2)

fixed_says : (c k : ℕ) (rows : List (List Waiting)) → FixedSays c k rows (fixed_row c k rows)
fixed_says c k [] = λ r. refl
fixed_says c k (ws ∷ rest) = fixed_step c k ws rest (fixed_here c ws) refl (fixed_row c (suc k) rest) (fixed_says c (suc k) rest)

-- Row r may give its free item, and no other that may has an earlier last column.
pub record Least (high c : ℕ) (rows : List (List Waiting)) (r last : ℕ) : Type 0 where
  pub may : free_here c (row_of rows r) ≡ true
  pub its : last ≡ last_column high (row_of rows r)
  pub least : (s : ℕ) → free_here c (row_of rows s) ≡ true → last ≤ last_column high (row_of rows s)

abbrev FreeSays : ℕ → ℕ → ℕ → List (List Waiting) → Option Candidate → Type 0
FreeSays high c k rows none = (r : ℕ) → free_here c (row_of rows r) ≡ false
FreeSays high c k rows (some f) = (r : ℕ) × (f.row ≡ k + r) × Least high c rows r f.last

module _ (high c k : ℕ) (ws : List Waiting) (rest : List (List Waiting)) where
  over_both : (P : ℕ → Type 0) → P 0 → ((r : ℕ) → P (suc r)) → (r : ℕ) → P r
  over_both P z s zero = z
  over_both P z s (suc r) = s r

  sooner-step : (f : Candidate) → free_here c ws ≡ true → FreeSays high c (suc k) rest (some f) → (b : Bool) → ltb f.last (last_column high ws) ≡ b
      → FreeSays high c k (ws ∷ rest) (cond b (some f) (some (record { row = k; last = last_column high ws })))
  sooner-step f e h true l =
      (suc h.0, omega (arith, h.1), record { may = h.2.may; its = h.2.its; least = over_both _ (λ _. omega (arith, ltb-true f.last (last_column high ws) l)) h.2.least })
  sooner-step f e h false l =
      (0, omega arith, record { may = e; its = refl; least = over_both _ (λ _. omega arith) (λ s t. omega (arith, ltb-false f.last (last_column high ws) l, h.2.least s t)) })

  free_step : (b : Bool) → free_here c ws ≡ b → (o : Option Candidate) → FreeSays high c (suc k) rest o → FreeSays high c k (ws ∷ rest) (sooner (cond b (some (record { row = k; last = last_column high ws })) none) o)
  free_step false e none h = over_both (λ (r : ℕ). free_here c (row_of (ws ∷ rest) r) ≡ false) e h
  free_step false e (some f) h = (suc h.0, omega (arith, h.1), record { may = h.2.may; its = h.2.its; least = over_both _ (λ t. absurd (true≢false (sym t ∙ e))) h.2.least })
  free_step true e none h = (0, omega arith, record { may = e; its = refl; least = over_both _ (λ _. omega arith) (λ s t. absurd (true≢false (sym t ∙ h s))) })
  free_step true e (some f) h = sooner-step f e h (ltb f.last (last_column high ws)) refl

free_says : (high c k : ℕ) (rows : List (List Waiting)) → FreeSays high c k rows (free_row high c k rows)
free_says high c k [] = λ r. refl
free_says high c k (ws ∷ rest) = free_step high c k ws rest (free_here c ws) refl (free_row high c (suc k) rest) (free_says high c (suc k) rest)

-- A free item is chosen only where no row's next item is fixed at the column.
pub record FreeChosen (high c : ℕ) (rows : List (List Waiting)) (a : ℕ) : Type 0 where
  pub no_fixed : (r : ℕ) → fixed_here c (row_of rows r) ≡ false
  pub may : free_here c (row_of rows a) ≡ true
  pub least : (s : ℕ) → free_here c (row_of rows s) ≡ true → last_column high (row_of rows a) ≤ last_column high (row_of rows s)

abbrev pub ChoiceSays : ℕ → ℕ → List (List Waiting) → Option ℕ → Type 0
ChoiceSays high c rows none = (r : ℕ) → GivesNone c (row_of rows r)
ChoiceSays high c rows (some a) = (fixed_here c (row_of rows a) ≡ true) ⊎ FreeChosen high c rows a

choice_step : (high c : ℕ) (rows : List (List Waiting)) (x : Option ℕ) (f : Option Candidate) → FixedSays c 0 rows x → FreeSays high c 0 rows f → ChoiceSays high c rows (or_else x f)
choice_step high c rows (some a) f g h = inl (let e : g.0 ≡ a = omega (arith, g.1) in rw e at g.2)
choice_step high c rows none none g h = λ r. (g r, h r)
choice_step high c rows none (some f) g h =
    let e : h.0 ≡ f.row = omega (arith, h.1) in
    let l : Least high c rows f.row f.last = rw e at h.2 in
    inr (record { no_fixed = g; may = l.may; least = λ s t. rw (← l.its) (l.least s t) })

pub choice_says : (high c : ℕ) (rows : List (List Waiting)) → ChoiceSays high c rows (chosen_row high c rows)
unfolding chosen_row
choice_says high c rows = choice_step high c rows (fixed_row c 0 rows) (free_row high c 0 rows) (fixed_says c 0 rows) (free_says high c 0 rows)
