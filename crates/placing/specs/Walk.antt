-- The chosen placing (document 01, "Placing": "The one chosen walks columns upwards").
-- It is an earliest-deadline-first schedule: a column is a time slot, a floor a release time, a last column a deadline.
use Rattle.std.specs.Prelude.{ℕ, zero, suc, ◌+◌, ◌-◌, Bool, true, false, cond, ◌&&◌, List, [], ◌∷◌, length, get_or, set, replicate, ltb, eqb}
use Rattle.std.proofs.Math.Option.{Option, none, some}
use Rattle.placing.specs.Item.{Item}

-- An item that waits for its column, with its place in the table.
pub record Waiting : Type 0 where
  pub place : ℕ
  pub item : Item

abbrev pub cons_if : {A : Type 0} → Bool → A → List A → List A
cons_if true x xs = x ∷ xs
cons_if false x xs = xs

-- The items of row r in a list of items whose first has place k.
abbrev pub in_row : ℕ → ℕ → List Item → List Waiting
in_row r k [] = []
in_row r k (x ∷ xs) = cons_if (eqb x.row r) (record { place = k; item = x }) (in_row r (suc k) xs)

-- What waits at first: the four rows.
unfoldable pub rows_of : List Item → List (List Waiting)
rows_of table = in_row 0 0 table ∷ in_row 1 0 table ∷ in_row 2 0 table ∷ in_row 3 0 table ∷ []

-- "the next fixed column in its row (high + 1 if none)"
abbrev pub next_fixed : ℕ → List Waiting → ℕ
next_fixed high [] = high + 1
next_fixed high (w ∷ ws) = cond (eqb w.item.fixed 0) (next_fixed high ws) w.item.fixed

-- "the number of row items from it up to there"
abbrev pub up_to_fixed : List Waiting → ℕ
up_to_fixed [] = 0
up_to_fixed (w ∷ ws) = cond (eqb w.item.fixed 0) (suc (up_to_fixed ws)) 0

-- The last column of the first item that waits in a row; 0 where the difference would fall below 0.
unfoldable pub last_column : ℕ → List Waiting → ℕ
last_column high ws = next_fixed high ws - up_to_fixed ws

-- A row whose next item is fixed at column c. Only the row's next item counts: a fixed one behind it waits (docs/DECISIONS.md).
abbrev pub fixed_here : ℕ → List Waiting → Bool
fixed_here c [] = false
fixed_here c (w ∷ ws) = eqb w.item.fixed c

-- A row "whose next unplaced item is free with a floor below the column".
abbrev pub free_here : ℕ → List Waiting → Bool
free_here c [] = false
free_here c (w ∷ ws) = eqb w.item.fixed 0 && ltb w.item.floor c

-- The first row, counted from r, whose next item is fixed at column c.
abbrev pub fixed_row : ℕ → ℕ → List (List Waiting) → Option ℕ
fixed_row c r [] = none
fixed_row c r (ws ∷ rest) = cond (fixed_here c ws) (some r) (fixed_row c (suc r) rest)

-- A row that may give its next item, with that item's last column.
pub record Candidate : Type 0 where
  pub row : ℕ
  pub last : ℕ

abbrev pub candidate : ℕ → ℕ → ℕ → List Waiting → Option Candidate
candidate high c r ws = cond (free_here c ws) (some (record { row = r; last = last_column high ws })) none

-- "the item with the least last column, then the lowest row": the first of two unless the second's is less.
abbrev pub sooner : Option Candidate → Option Candidate → Option Candidate
sooner none b = b
sooner (some a) none = some a
sooner (some a) (some b) = cond (ltb b.last a.last) (some b) (some a)

abbrev pub free_row : ℕ → ℕ → ℕ → List (List Waiting) → Option Candidate
free_row high c r [] = none
free_row high c r (ws ∷ rest) = sooner (candidate high c r ws) (free_row high c (suc r) rest)

-- "a fixed item takes its column; else" the free one; "none leaves it empty".
abbrev pub or_else : Option ℕ → Option Candidate → Option ℕ
or_else (some r) f = some r
or_else none none = none
or_else none (some f) = some f.row

unfoldable pub chosen_row : ℕ → ℕ → List (List Waiting) → Option ℕ
chosen_row high c rows = or_else (fixed_row c 0 rows) (free_row high c 0 rows)

-- A walk on its way: what waits in each row, and each item's column, 0 while it has none.
pub record Walk : Type 0 where
  pub waiting : List (List Waiting)
  pub columns : List ℕ

-- Row r's first waiting item, if any, takes column c.
abbrev pub first_takes : ℕ → ℕ → List Waiting → Walk → Walk
first_takes c r [] s = s
first_takes c r (w ∷ ws) s = record { waiting = set s.waiting r ws; columns = set s.columns w.place c }

abbrev pub place_in : ℕ → Option ℕ → Walk → Walk
place_in c none s = s
place_in c (some r) s = first_takes c r (get_or s.waiting r []) s

-- The walk over n columns from column c.
abbrev pub walk : ℕ → ℕ → ℕ → Walk → Walk
walk high zero c s = s
walk high (suc n) c s = walk high n (suc c) (place_in c (chosen_row high c s.waiting) s)

unfoldable pub begun : List Item → Walk
begun table = record { waiting = rows_of table; columns = replicate (length table) 0 }

-- The whole walk.
unfoldable pub walked : ℕ → ℕ → List Item → Walk
walked low high table = walk high (high - low) (suc low) (begun table)

-- Nothing waits any more.
abbrev pub none_wait : List (List Waiting) → Bool
none_wait [] = true
none_wait ([] ∷ rest) = none_wait rest
none_wait ((w ∷ ws) ∷ rest) = false
