-- A slice of items as four lists, one for each field.
use Rattle.std.specs.Prelude.{ℕ, ◌≡◌, refl, List, [], ◌∷◌, map}
use Rattle.std.proofs.Common.{ap}
use Rattle.placing.specs.Item as placing
use Rattle.placing.specs.Item.{items_of}
use Rattle.placing_items.specs.declared.Item.{Item}

abbrev pub rows_of : List Item → List ℕ
rows_of items = map (λ (x : Item). x.row) items

abbrev pub times_of : List Item → List ℕ
times_of items = map (λ (x : Item). x.time) items

abbrev pub fixed_of : List Item → List ℕ
fixed_of items = map (λ (x : Item). x.fixed) items

abbrev pub floors_of : List Item → List ℕ
floors_of items = map (λ (x : Item). x.floor) items

-- The item of the placing's definitions with the same fields.
abbrev pub item_of : Item → placing.Item
item_of x = record { row = x.row; time = x.time; fixed = x.fixed; floor = x.floor }

-- The table that the four lists hold is the items, in their order.
pub table_is : (items : List Item) → items_of (rows_of items) (times_of items) (fixed_of items) (floors_of items) ≡ map item_of items
table_is [] = refl
table_is (x ∷ items) = ap (λ (table : List placing.Item). item_of x ∷ table) (table_is items)
