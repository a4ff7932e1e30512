-- The limits and the order of a replay table: refusal 22 (document 01, "Placing" and "Numbers returned").
use Rattle.std.specs.Prelude.{ℕ, ◌≡◌, Bool, true, not, ◌&&◌, ◌||◌, List, [], ◌∷◌, length, leb, ltb, eqb}
use Rattle.placing.specs.Item.{Item, items_of}

-- "at most 64 items"
abbrev pub most_items : ℕ
most_items = 64

-- The limit on columns, row times and floors. 2026-01: "the limits of a replay table on columns, row times and floors rise to 4,000,000".
abbrev pub greatest : ℕ
greatest = 4_000_000

-- Rows 0..3.
abbrev pub row_count : ℕ
row_count = 4

-- "a fixed column outside low + 1..high, or a fixed item with a floor" is refused; 0 is free.
unfoldable pub fixed_fits : ℕ → ℕ → ℕ → ℕ → Bool
fixed_fits low high fixed floor = eqb fixed 0 || (ltb low fixed && leb fixed high && eqb floor 0)

-- The row, the row time, the floor and the fixed column within their limits.
unfoldable pub item_fits : ℕ → ℕ → Item → Bool
unfolding fixed_fits
item_fits low high x = ltb x.row row_count && leb 1 x.time && leb x.time greatest && leb x.floor greatest && fixed_fits low high x.fixed x.floor

-- "by row (0..3, parents in rising number), then by row time, strictly rising": an item comes after another row and row time.
unfoldable pub comes_after : ℕ → ℕ → ℕ → ℕ → Bool
comes_after row time itsRow itsTime = ltb row itsRow || (eqb row itsRow && ltb time itsTime)

-- Every item is within its limits and comes after the one before it, the first after row 0 and time 0.
abbrev pub items_fit : ℕ → ℕ → ℕ → ℕ → List Item → Bool
items_fit low high row time [] = true
items_fit low high row time (x ∷ xs) = item_fits low high x && comes_after row time x.row x.time && items_fit low high x.row x.time xs

-- low ≤ high ≤ 4,000,000
unfoldable pub bounds_fit : ℕ → ℕ → Bool
bounds_fit low high = leb low high && leb high greatest

-- The whole table.
unfoldable pub table_fits : ℕ → ℕ → List Item → Bool
unfolding bounds_fit
table_fits low high table = leb (length table) most_items && bounds_fit low high && items_fit low high 0 0 table

-- Four slices of one length.
unfoldable pub lengths_agree : List ℕ → List ℕ → List ℕ → List ℕ → Bool
lengths_agree rows times fixed floors = eqb (length times) (length rows) && eqb (length fixed) (length rows) && eqb (length floors) (length rows)

abbrev pub AgreesLengths : List ℕ → List ℕ → List ℕ → List ℕ → Type 0
AgreesLengths rows times fixed floors = (length times ≡ length rows) × (length fixed ≡ length rows) × (length floors ≡ length rows)

-- 22: "replay table breaks the limits or order above, a fixed column outside low + 1..high, or a fixed item with a floor". Slices of unequal length hold no table.
unfoldable pub malformed : ℕ → ℕ → List ℕ → List ℕ → List ℕ → List ℕ → Bool
malformed low high rows times fixed floors = not (lengths_agree rows times fixed floors && table_fits low high (items_of rows times fixed floors))
