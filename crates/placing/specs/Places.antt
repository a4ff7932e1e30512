-- Where each row's items stand in a table, which the code goes by. Only the contracts of functions within the crate cite this.
use Rattle.std.specs.Prelude.{ℕ, ◌+◌, ◌-◌, ◌<◌, ◌≤◌, ◌≡◌, Bool, true, false, cond, ◌&&◌, List, length, get_or, take, drop, ltb, eqb}
use Rattle.std.proofs.Math.Option.{Option, none, some}
use Rattle.placing.specs.Item.{Item, items_of, item_at}
use Rattle.placing.specs.Table.{most_items, greatest, row_count}
use Rattle.placing.specs.Walk.{Waiting, Candidate, in_row, last_column, walked, none_wait}
use Rattle.placing.specs.declared.Offer.{Offer}
use Rattle.placing.specs.declared.Offer.TheVariants.{Fixed, Free, Passed, Nothing}
use Rattle.answers.specs.Number.{number}
use Rattle.answers.specs.declared.Refusal.{Refusal}
use Rattle.std.specs.declared.result.Result.{Result}
use Rattle.std.specs.declared.option.Option as rust
use Rattle.std.specs.declared.option.Option.TheVariants.{None, Some}
use Rattle.placing.specs.declared.Pick.{Pick}

abbrev pub row_at : List Item → ℕ → ℕ
row_at table k = (item_at table k).row

-- The items of row r from place i on.
unfoldable pub row_from : List Item → ℕ → ℕ → List Waiting
row_from table r i = in_row r i (drop i table)

-- From place i on, no item of a row below r.
abbrev pub RowsAtLeast : List Item → ℕ → ℕ → Type 0
RowsAtLeast table r i = (k : ℕ) → i ≤ k → k < length table → r ≤ row_at table k

-- The rows of a table that passed its check.
pub record Ordered (rows : List ℕ) : Type 0 where
  pub few : length rows ≤ most_items
  pub four : (k : ℕ) → k < length rows → get_or rows k 0 < row_count
  pub rise : (j k : ℕ) → j ≤ k → k < length rows → get_or rows j 0 ≤ get_or rows k 0

-- From place i on, row r's items begin at place j, or there are none and j is the table's length.
pub record BeginsAt (table : List Item) (r i j : ℕ) : Type 0 where
  pub after : i ≤ j
  pub within : j ≤ length table
  pub there : j < length table → row_at table j ≡ r
  pub low : RowsAtLeast table r j
  pub waits : row_from table r i ≡ row_from table r j

-- The tables with these rows and fixed columns, whatever their times and floors.
abbrev pub Tables : List ℕ → List ℕ → (List Item → Type 0) → Type 0
Tables rows fixed P = (times floors : List ℕ) → P (items_of rows times fixed floors)

-- The items from place i on have their last columns, and each row its next place.
pub record Prepared (high i : ℕ) (rows fixed lasts next : List ℕ) : Type 0 where
  pub lasts_long : length lasts ≡ most_items
  pub next_long : length next ≡ row_count
  pub lasts_are : (k : ℕ) → i ≤ k → k < length rows → Tables rows fixed λ table. get_or lasts k 0 ≡ last_column high (row_from table (row_at table k) k)
  pub begins : (r : ℕ) → r < row_count → Tables rows fixed λ table. BeginsAt table r i (get_or next r 0)

-- What a table that is not malformed tells the code.
pub record Formed (low high : ℕ) (rows fixed floors : List ℕ) : Type 0 where
  pub ordered : Ordered rows
  pub bounds : low ≤ high
  pub high_fits : high ≤ greatest
  pub fixed_long : length fixed ≡ length rows
  pub floors_long : length floors ≡ length rows

-- The last column that finds an item shut: its floor, or the one before its fixed column.
abbrev pub shut_before : ℕ → ℕ → ℕ
shut_before fixed floor = cond (eqb fixed 0) floor (fixed - 1)

-- The last column that finds row r shut where its next place is i. Without an item there it stays shut.
unfoldable pub shut_until : ℕ → List ℕ → List ℕ → List ℕ → ℕ → ℕ → ℕ
shut_until high rows fixed floors r i = cond (ltb i (length rows) && eqb (get_or rows i 0) r) (shut_before (get_or fixed i 0) (get_or floors i 0)) high

-- The first n rows are shut until these columns.
pub record ShutRows (high : ℕ) (rows fixed floors next : List ℕ) (n : ℕ) (shut : List ℕ) : Type 0 where
  pub long : length shut ≡ row_count
  pub until : (r : ℕ) → r < n → get_or shut r 0 ≡ shut_until high rows fixed floors r (get_or next r 0)

-- A column d past c, and every row is shut at the columns between.
pub record NextColumn (high : ℕ) (shut : List ℕ) (c d : ℕ) : Type 0 where
  pub past : c < d
  pub within : d ≤ high + 1
  pub between : (r e : ℕ) → r < row_count → c < e → e < d → e ≤ get_or shut r 0

-- What a row offers a column, by whether it is open, its next item is fixed at the column, or is free.
abbrev pub offer_by : Bool → Bool → Bool → ℕ → Offer
offer_by false fixed free last = Nothing
offer_by true true free last = Fixed
offer_by true false true last = Free last
offer_by true false false last = Passed

-- What a row that is shut up to the column `shut`, with its next place at i, offers column c.
unfoldable pub offer_at : List ℕ → List ℕ → ℕ → ℕ → ℕ → Offer
offer_at fixed lasts shut i c = offer_by (ltb shut c) (eqb (get_or fixed i 0) c) (eqb (get_or fixed i 0) 0) (get_or lasts i 0)

-- The candidate that the code's pick stands for.
abbrev pub candidate_of : rust.Option Pick → Option Candidate
candidate_of None = none
candidate_of (Some p) = some (record { row = p.row; last = p.last })

-- What `walk` gives: the columns of the whole walk, and a refusal where something is left waiting.
pub record WalkGives (low high : ℕ) (rows fixed floors : List ℕ) (outcome : Result Unit Refusal) (work : List ℕ) : Type 0 where
  pub number_is : (times : List ℕ) → number outcome ≡ cond (none_wait (walked low high (items_of rows times fixed floors)).waiting) 0 24
  pub columns_are : (times : List ℕ) → take (length rows) work ≡ (walked low high (items_of rows times fixed floors)).columns
