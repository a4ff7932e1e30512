-- The search over the rows, turn by turn: the candidate so far, and what the rows left offer.
use Prim.Native.Nat.{ℕ, suc, ◌+◌, ◌<◌, ◌≤◌}
use mathlib.Core.Path.{◌≡◌, refl, sym, ap, ◌∙◌}
use mathlib.Core.Bool.{Bool, true, false, cond}
use mathlib.Core.List.{List, [], ◌∷◌}
use mathlib.Core.Option.{Option, none, some}
use native.Mathlib.Omega.{arith}
use native.Mathlib.Numerals.{add-one}
use lib.ListN.{length, drop, drop_of_length-le}
use lib.Seq.{drop-cons}
use lib.Dec.{ltb}
use borrow.Author.Tests.{lt-ltb, le-ltb, ltb-true, ltb-false}
use Rattle.placing.specs.Walk.{Waiting, last_column, fixed_here, free_here, fixed_row, free_row, Candidate, candidate, sooner, or_else, chosen_row}
use Rattle.placing.proofs.Choice.{row_of}

-- The first of three is found from the left or from the right.
three : (a b d : Candidate) (ba db da : Bool) → ltb b.last a.last ≡ ba → ltb d.last b.last ≡ db → ltb d.last a.last ≡ da
    → sooner (some a) (cond db (some d) (some b)) ≡ sooner (cond ba (some b) (some a)) (some d)
three a b d true true da p q r = rw (q, lt-ltb d.last a.last (omega (arith, ltb-true b.last a.last p, ltb-true d.last b.last q)))
three a b d true false da p q r = rw (p, q)
three a b d false true da p q r = refl
three a b d false false da p q r = rw (p, le-ltb d.last a.last (omega (arith, ltb-false b.last a.last p, ltb-false d.last b.last q)))

or_none : (t : Bool) (a b : Candidate) → sooner (cond t (some b) (some a)) none ≡ cond t (some b) (some a)
or_none true a b = refl
or_none false a b = refl

pub sooner_assoc : (a b d : Option Candidate) → sooner a (sooner b d) ≡ sooner (sooner a b) d
sooner_assoc none b d = refl
sooner_assoc (some a) none d = refl
sooner_assoc (some a) (some b) none = sym (or_none (ltb b.last a.last) a b)
sooner_assoc (some a) (some b) (some d) = three a b d (ltb b.last a.last) (ltb d.last b.last) (ltb d.last a.last) refl refl refl

sooner_nothing : (o : Option Candidate) → sooner o none ≡ o
sooner_nothing none = refl
sooner_nothing (some a) = refl

-- Rows before r are searched: none of them has its next item fixed at the column, and the best of them is known.
pub record Searched (high c : ℕ) (rows : List (List Waiting)) (r : ℕ) (best : Option Candidate) : Type 0 where
  pub fixed_from : fixed_row c 0 rows ≡ fixed_row c r (drop r rows)
  pub free_from : free_row high c 0 rows ≡ sooner best (free_row high c r (drop r rows))

pub search_begun : (high c : ℕ) (rows : List (List Waiting)) → Searched high c rows 0 none
search_begun high c rows = record { fixed_from = refl; free_from = refl }

module _ (high c : ℕ) (rows : List (List Waiting)) (r : ℕ) (best : Option Candidate) (l : r < length rows) (s : Searched high c rows r best) where
  row_next : drop r rows ≡ row_of rows r ∷ drop (r + 1) rows
  row_next = drop-cons rows r [] l ∙ ap (λ (k : ℕ). row_of rows r ∷ drop k rows) (sym (add-one r))

  -- A row whose next item is fixed at the column is the choice.
  pub search_fixed : fixed_here c (row_of rows r) ≡ true → chosen_row high c rows ≡ some r
  unfolding chosen_row
  search_fixed e =
      let found : fixed_row c 0 rows ≡ some r = s.fixed_from ∙ (rw (row_next, e)) in
      rw found

  fixed_on : fixed_here c (row_of rows r) ≡ false → fixed_row c 0 rows ≡ fixed_row c (r + 1) (drop (r + 1) rows)
  fixed_on e = s.fixed_from ∙ (rw (row_next, e, add-one))

  free_on : free_row high c 0 rows ≡ sooner (sooner best (candidate high c r (row_of rows r))) (free_row high c (r + 1) (drop (r + 1) rows))
  free_on =
      s.free_from ∙ ap (λ (x : List (List Waiting)). sooner best (free_row high c r x)) row_next
      ∙ sooner_assoc best (candidate high c r (row_of rows r)) (free_row high c (suc r) (drop (r + 1) rows))
      ∙ ap (λ (k : ℕ). sooner (sooner best (candidate high c r (row_of rows r))) (free_row high c k (drop (r + 1) rows))) (sym (add-one r))

  on : fixed_here c (row_of rows r) ≡ false → (now : Option Candidate) → sooner best (candidate high c r (row_of rows r)) ≡ now → Searched high c rows (r + 1) now
  on e now same =
      record { fixed_from = fixed_on e; free_from = free_on ∙ ap (λ (x : Option Candidate). sooner x (free_row high c (r + 1) (drop (r + 1) rows))) same }

  -- A row that offers nothing.
  pub search_nothing : fixed_here c (row_of rows r) ≡ false → free_here c (row_of rows r) ≡ false → Searched high c rows (r + 1) best
  search_nothing e f = on e best (rw f (sooner_nothing best))

  -- A row that offers a free item.
  pub search_free : fixed_here c (row_of rows r) ≡ false → free_here c (row_of rows r) ≡ true → (last : ℕ) → last ≡ last_column high (row_of rows r) → Searched high c rows (r + 1) (sooner best (some (record { row = r; last = last })))
  search_free e f last its = on e (sooner best (some (record { row = r; last = last }))) (rw (f, ← its))

-- All rows are searched.
pub search_ended : (high c : ℕ) (rows : List (List Waiting)) (r : ℕ) (best : Option Candidate) → length rows ≤ r → Searched high c rows r best → chosen_row high c rows ≡ or_else none best
unfolding chosen_row
search_ended high c rows r best l s =
    let none_left : drop r rows ≡ [] = drop_of_length-le rows l in
    let no_fixed : fixed_row c 0 rows ≡ none = s.fixed_from ∙ ap (fixed_row c r) none_left in
    let free : free_row high c 0 rows ≡ best = s.free_from ∙ ap (λ (x : List (List Waiting)). sooner best (free_row high c r x)) none_left ∙ sooner_nothing best in
    rw (no_fixed, free)
