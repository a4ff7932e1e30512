-- The replay table's items (document 01, "Placing").
use Rattle.std.specs.Prelude.{ℕ, List, [], ◌∷◌, get_or, drop}

-- "Each item is a row, a row time, a fixed column (0 is free) and a floor."
pub record Item : Type 0 where
  pub row : ℕ
  pub time : ℕ
  pub fixed : ℕ
  pub floor : ℕ

-- What four slices hold at their first places.
abbrev pub first_item : ℕ → List ℕ → List ℕ → List ℕ → Item
first_item r times fixed floors = record { row = r; time = get_or times 0 0; fixed = get_or fixed 0 0; floor = get_or floors 0 0 }

-- The table that four slices hold, item by item.
abbrev pub items_of : List ℕ → List ℕ → List ℕ → List ℕ → List Item
items_of [] times fixed floors = []
items_of (r ∷ rows) times fixed floors = first_item r times fixed floors ∷ items_of rows (drop 1 times) (drop 1 fixed) (drop 1 floors)

-- What stands past a table's end.
abbrev pub no_item : Item
no_item = record { row = 0; time = 0; fixed = 0; floor = 0 }

-- The item at a place of the table, from 0.
abbrev pub item_at : List Item → ℕ → Item
item_at table k = get_or table k no_item
