-- The table that four slices hold, place by place.
use Prim.Native.Nat.{ℕ, zero, suc, ◌+◌, ◌<◌}
use mathlib.Core.Path.{◌≡◌, refl, sym, ap, ◌∙◌}
use mathlib.Core.Bool.{Bool, true, not, ◌&&◌, and_assoc}
use lib.Dec.{leb, eqb}
use borrow.Author.Tests.{eqb-true}
use Rattle.basics.specs.Bools.{both_true}
use mathlib.Core.List.{List, [], ◌∷◌}
use native.Mathlib.Omega.{arith}
use native.Mathlib.Numerals.{add-one}
use lib.ListN.{length, get_or, drop}
use lib.Seq.{drop-cons}
use Rattle.placing.specs.Item.{Item, items_of, item_at, no_item}
use Rattle.placing.specs.Table.{most_items, greatest, item_fits, comes_after, items_fit, malformed, lengths_agree, table_fits, bounds_fit}

pub length_items : (rows times fixed floors : List ℕ) → length (items_of rows times fixed floors) ≡ length rows
length_items [] times fixed floors = refl
length_items (r ∷ rows) times fixed floors = ap suc (length_items rows (drop 1 times) (drop 1 fixed) (drop 1 floors))

get_d_rest : (xs : List ℕ) (i : ℕ) → get_or (drop 1 xs) i 0 ≡ get_or xs (suc i) 0
get_d_rest [] i = refl
get_d_rest (x ∷ xs) i = refl

pub items_at : (rows times fixed floors : List ℕ) (i : ℕ) → i < length rows
    → item_at (items_of rows times fixed floors) i ≡ record { row = get_or rows i 0; time = get_or times i 0; fixed = get_or fixed i 0; floor = get_or floors i 0 }
items_at [] times fixed floors i l = let no : ⊥ = omega arith in absurd no
items_at (r ∷ rows) times fixed floors zero l = refl
items_at (r ∷ rows) times fixed floors (suc i) l =
    items_at rows (drop 1 times) (drop 1 fixed) (drop 1 floors) i (omega arith)
    ∙ λ k. record { row = get_or rows i 0; time = get_d_rest times i k; fixed = get_d_rest fixed i k; floor = get_d_rest floors i k }

module _ (low high row time : ℕ) (rows times fixed floors : List ℕ) (i : ℕ) (l : i < length rows) where
  item : Item
  item = record { row = get_or rows i 0; time = get_or times i 0; fixed = get_or fixed i 0; floor = get_or floors i 0 }

  pub fit_more : (ok : Bool) → (ok && items_fit low high row time (drop i (items_of rows times fixed floors)))
      ≡ (ok && (item_fits low high (record { row = get_or rows i 0; time = get_or times i 0; fixed = get_or fixed i 0; floor = get_or floors i 0 })
      && comes_after row time (get_or rows i 0) (get_or times i 0))
      && items_fit low high (get_or rows i 0) (get_or times i 0) (drop (i + 1) (items_of rows times fixed floors)))
  unfolding item
  fit_more ok =
      let table = items_of rows times fixed floors in
      let split : drop i table ≡ item ∷ drop (i + 1) table = drop-cons table i no_item (rw (length_items rows times fixed floors) l) ∙ (λ k. items_at rows times fixed floors i l k ∷ drop (suc i) table) ∙ ap (λ (j : ℕ). item ∷ drop j table) (sym (add-one i)) in
      rw split (sym (and_assoc ok (item_fits low high item && comes_after row time item.row item.time) (items_fit low high item.row item.time (drop (i + 1) table))))

-- Refusal 22 as the code tests it.
pub malformed_is : (low high : ℕ) (rows times fixed floors : List ℕ)
    → malformed low high rows times fixed floors ≡ not (lengths_agree rows times fixed floors && (leb (length rows) most_items && (leb low high && leb high greatest) && items_fit low high 0 0 (items_of rows times fixed floors)))
unfolding malformed table_fits bounds_fit
malformed_is low high rows times fixed floors = rw length_items

-- By the code's test of the lengths and the bounds, before the items'.
pub malformed_by : (low high : ℕ) (rows times fixed floors : List ℕ) (well : Bool) → (lengths_agree rows times fixed floors && (leb (length rows) most_items && leb low high && leb high greatest)) ≡ well
    → malformed low high rows times fixed floors ≡ not (well && items_fit low high 0 0 (items_of rows times fixed floors))
malformed_by low high rows times fixed floors well e =
    let bounds = and_assoc (leb (length rows) most_items) (leb low high) (leb high greatest) in
    let fit = items_fit low high 0 0 (items_of rows times fixed floors) in
    malformed_is low high rows times fixed floors
    ∙ ap not (sym (and_assoc (lengths_agree rows times fixed floors) (leb (length rows) most_items && (leb low high && leb high greatest)) fit) ∙ ap (λ (b : Bool). b && fit) (ap (λ (b : Bool). lengths_agree rows times fixed floors && b) (sym bounds) ∙ e))

module _ (rows times fixed floors : List ℕ) where
  pub lengths_are : lengths_agree rows times fixed floors ≡ true → (length times ≡ length rows) × (length fixed ≡ length rows) × (length floors ≡ length rows)
  unfolding lengths_agree
  lengths_are e =
      let t = both_true (eqb (length times) (length rows) && eqb (length fixed) (length rows)) (eqb (length floors) (length rows)) e in
      let u = both_true (eqb (length times) (length rows)) (eqb (length fixed) (length rows)) t.0 in
      (eqb-true (length times) (length rows) u.0, eqb-true (length fixed) (length rows) u.1, eqb-true (length floors) (length rows) t.1)
