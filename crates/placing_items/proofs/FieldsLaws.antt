-- More than 64 items are malformed; and the items' arrays grow by one item at a time.
use Rattle.std.proofs.Common.{◌≡◌, refl, sym, ap, ◌∙◌, ℕ, ◌<◌, Bool, true, false, not, ◌&&◌, List, map, length, take, arith}
use lib.ListN.{length-map}
use borrow.Author.Tests.{lt-leb}
use Rattle.placing.specs.Item.{items_of}
use Rattle.placing.specs.Table.{most_items, table_fits, lengths_agree, malformed}
use Rattle.placing.specs.Answer.{answer, columns_left}
use Rattle.placing.proofs.Promise.{promise}
use Rattle.placing_items.specs.declared.Item.{Item}
use Rattle.placing_items.specs.Fields.{rows_of, times_of, fixed_of, floors_of, item_of, table_is}

-- The first i numbers are a field of the first i items.
pub record Filled (of : Item → ℕ) (items : List Item) (field : List ℕ) (i : ℕ) : Type 0 where
  pub long : length field ≡ most_items
  pub first : take i field ≡ map of (take i items)

not_fit : (agree : Bool) → not (agree && false) ≡ true
not_fit true = refl
not_fit false = refl

-- More than 64 items are malformed, whatever else holds.
too_many_lem : (low high : ℕ) (items : List Item) → most_items < length items → malformed low high (rows_of items) (times_of items) (fixed_of items) (floors_of items) ≡ true
unfolding malformed table_fits
too_many_lem low high items m =
    let table = items_of (rows_of items) (times_of items) (fixed_of items) (floors_of items) in
    let long : length table ≡ length items = ap length (table_is items) ∙ length-map items item_of in
    rw (lt-leb (length table) most_items (omega (arith, m, long))) (not_fit (lengths_agree (rows_of items) (times_of items) (fixed_of items) (floors_of items)))

-- So they are refused, and leave the columns as they came.
module _ (low high : ℕ) (items : List Item) (columns : List ℕ) (m : most_items < length items) where
  pub many_answer : 22 ≡ answer low high (rows_of items) (times_of items) (fixed_of items) (floors_of items) columns
  many_answer = sym ((promise low high (rows_of items) (times_of items) (fixed_of items) (floors_of items) columns).malformed.1 (too_many_lem low high items m))

  pub many_left : columns ≡ columns_left low high (rows_of items) (times_of items) (fixed_of items) (floors_of items) columns
  many_left = sym ((promise low high (rows_of items) (times_of items) (fixed_of items) (floors_of items) columns).refused (λ z. omega (arith, many_answer, z)))
