-- What a table within the limits and in order tells of its rows.
use Prim.Native.Nat.{ℕ, zero, suc, ◌<◌, ◌≤◌}
use mathlib.Core.Path.{◌≡◌, refl}
use mathlib.Core.Bool.{Bool, true, false, ◌&&◌, ◌||◌}
use mathlib.Core.List.{List, [], ◌∷◌}
use native.Mathlib.Omega.{arith}
use lib.ListN.{length}
use lib.Dec.{ltb, eqb}
use borrow.Author.Tests.{ltb-true, eqb-true}
use Rattle.placing.specs.Item.{Item}
use Rattle.placing.specs.Table.{row_count, item_fits, comes_after, items_fit}
use Rattle.placing.specs.Places.{row_at}
use Rattle.placing.proofs.Rows.{Sorted}
use Rattle.basics.specs.Bools.{both_true, and_left}

first_fits : (low high row time : ℕ) (x : Item) (xs : List Item) → items_fit low high row time (x ∷ xs) ≡ true → (item_fits low high x ≡ true) × (comes_after row time x.row x.time ≡ true) × (items_fit low high x.row x.time xs ≡ true)
first_fits low high row time x xs e =
    let t = both_true (item_fits low high x && comes_after row time x.row x.time) (items_fit low high x.row x.time xs) e in
    let u = both_true (item_fits low high x) (comes_after row time x.row x.time) t.0 in
    (u.0, u.1, t.1)

after_row : (row time : ℕ) (x : Item) → comes_after row time x.row x.time ≡ true → row ≤ x.row
unfolding comes_after
after_row row time x e = cases (ltb row x.row) refl e
  where
    cases : (b : Bool) → ltb row x.row ≡ b → (b || (eqb row x.row && ltb time x.time)) ≡ true → row ≤ x.row
    cases true l h = omega (arith, ltb-true row x.row l)
    cases false l h = omega (arith, eqb-true row x.row (both_true (eqb row x.row) (ltb time x.time) h).0)

row_fits : (low high : ℕ) (x : Item) → item_fits low high x ≡ true → x.row < row_count
unfolding item_fits
row_fits low high x e = ltb-true x.row row_count (search and_left)

module _ (low high : ℕ) where
  rows_from : (row time : ℕ) (xs : List Item) → items_fit low high row time xs ≡ true → (k : ℕ) → k < length xs → row ≤ row_at xs k
  rows_from row time [] e k l = omega arith
  rows_from row time (x ∷ xs) e zero l = after_row row time x (first_fits low high row time x xs e).1
  rows_from row time (x ∷ xs) e (suc k) l =
      let t = first_fits low high row time x xs e in
      omega (arith, after_row row time x t.1, rows_from x.row x.time xs t.2 k (omega arith))

  pub rows_rise : (row time : ℕ) (xs : List Item) → items_fit low high row time xs ≡ true → Sorted xs
  rows_rise row time [] e j k p q = omega arith
  rows_rise row time (x ∷ xs) e zero zero p q = omega arith
  rows_rise row time (x ∷ xs) e zero (suc k) p q = rows_from x.row x.time xs (first_fits low high row time x xs e).2 k (omega arith)
  rows_rise row time (x ∷ xs) e (suc j) zero p q = omega arith
  rows_rise row time (x ∷ xs) e (suc j) (suc k) p q = rows_rise x.row x.time xs (first_fits low high row time x xs e).2 j k (omega arith) (omega arith)

  pub rows_four : (row time : ℕ) (xs : List Item) → items_fit low high row time xs ≡ true → (k : ℕ) → k < length xs → row_at xs k < row_count
  rows_four row time [] e k l = omega arith
  rows_four row time (x ∷ xs) e zero l = row_fits low high x (first_fits low high row time x xs e).0
  rows_four row time (x ∷ xs) e (suc k) l = rows_four x.row x.time xs (first_fits low high row time x xs e).2 k (omega arith)
