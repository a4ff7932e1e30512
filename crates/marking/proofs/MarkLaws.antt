-- The mark, case by case.
use Prim.Native.Nat.{ℕ, ◌≤◌}
use mathlib.Core.Path.{◌≡◌, refl, sym, ap, ◌∙◌}
use mathlib.Core.Logic.{◌≢◌}
use mathlib.Core.Bool.{Bool, true, false, not, ◌&&◌, true≢false}
use mathlib.Core.List.{List}
use native.Mathlib.Omega.{arith}
use lib.ListN.{length}
use Rattle.std.specs.Prelude.{Some, None}
use lib.Dec.{leb}
use borrow.Author.Tests.{eq-eqb, ne_eqb, leb-true, not-false}
use Rattle.basics.specs.Bools.{both_true}
use Rattle.placing.specs.Item.{Item, items_of}
use Rattle.placing.specs.Table.{malformed, lengths_agree, table_fits, bounds_fit, items_fit, most_items}
use Rattle.placing.proofs.ItemsLaws.{length_items, lengths_are}
use Rattle.marking.specs.declared.Mark.TheVariants.{Yes, No, Refused}
use Rattle.marking.specs.Mark.{first_broken, mark_by, mark_table, mark}
use Rattle.marking.specs.Loops.{FoundBy, Aligned}

-- A table that fits, with a column for each item.
pub table_by : (low high : ℕ) (table : List Item) (columns : List ℕ) → table_fits low high table ≡ true → length columns ≡ length table → mark_table low high table columns ≡ mark_by (first_broken low high table columns 0 (length table))
unfolding mark_table
table_by low high table columns f q = rw (f, mark_table, eq-eqb (length columns) (length table) q, mark_table)

-- A table that is not malformed has at most 64 items.
pub few_rows : (low high : ℕ) (rows times fixed floors : List ℕ) → malformed low high rows times fixed floors ≡ false → length rows ≤ 64
unfolding malformed table_fits
few_rows low high rows times fixed floors e =
    let table = items_of rows times fixed floors in
    let few = leb (length table) most_items in
    let fits = both_true (lengths_agree rows times fixed floors) (table_fits low high table) (not-false (lengths_agree rows times fixed floors && table_fits low high table) e) in
    omega (arith, leb-true (length table) most_items (both_true few (bounds_fit low high) (both_true (few && bounds_fit low high) (items_fit low high 0 0 table) fits.1).0).0, length_items rows times fixed floors)

module _ (low high : ℕ) (rows times fixed floors columns : List ℕ) where
  abbrev table : List Item
  table = items_of rows times fixed floors

  pub marks_malformed : malformed low high rows times fixed floors ≡ true → Refused 22 ≡ mark low high rows times fixed floors columns
  unfolding malformed mark mark_table
  marks_malformed = go (lengths_agree rows times fixed floors) (table_fits low high table) refl refl
    where
      go : (agree fits : Bool) → lengths_agree rows times fixed floors ≡ agree → table_fits low high table ≡ fits → not (agree && fits) ≡ true → Refused 22 ≡ mark low high rows times fixed floors columns
      go false fits a f e = rw (a, mark)
      go true false a f e = rw (a, mark, f, mark_table)
      go true true a f e = absurd (true≢false (sym e))

  module _ (e : malformed low high rows times fixed floors ≡ false) where
    formed : (lengths_agree rows times fixed floors ≡ true) × (table_fits low high (items_of rows times fixed floors) ≡ true)
    unfolding malformed
    formed = both_true (lengths_agree rows times fixed floors) (table_fits low high table) (not-false (lengths_agree rows times fixed floors && table_fits low high table) e)

    pub marks_length : length columns ≢ length rows → Refused 28 ≡ mark low high rows times fixed floors columns
    unfolding mark mark_table
    marks_length d = rw (formed.0, mark, formed.1, mark_table, ne_eqb (length columns) (length table) (λ q. d (q ∙ length_items rows times fixed floors)), mark_table)

    pub marks_by : length columns ≡ length rows → mark low high rows times fixed floors columns ≡ mark_by (first_broken low high (items_of rows times fixed floors) columns 0 (length rows))
    unfolding mark
    marks_by q = rw (formed.0, mark) (table_by low high table columns formed.1 (q ∙ sym (length_items rows times fixed floors)) ∙ ap (λ (n : ℕ). mark_by (first_broken low high table columns 0 n)) (length_items rows times fixed floors))

    pub aligned : length columns ≡ length rows → Aligned rows fixed floors columns
    aligned q = let (_, f, g) = lengths_are rows times fixed floors formed.0 in record { fixed_long = f; floors_long = g; columns_long = q }

    module _ (q : length columns ≡ length rows) where
      pub marks_no : (k : ℕ) → FoundBy low high rows fixed floors columns (Some k) → No k ≡ mark low high rows times fixed floors columns
      marks_no k found = sym (marks_by q ∙ ap mark_by (sym (found.1 times)))

      pub marks_yes : FoundBy low high rows fixed floors columns None → Yes ≡ mark low high rows times fixed floors columns
      marks_yes found = sym (marks_by q ∙ ap mark_by (sym (found.1 times)))
