-- The number answered, and what is left in the lent columns (document 01, "Numbers returned", 22 to 24).
use Rattle.std.specs.Prelude.{ℕ, Bool, true, false, not, List, ◌++◌, length, drop, ltb, eqb}
use Rattle.placing.specs.Item.{Item, items_of}
use Rattle.placing.specs.Table.{malformed}
use Rattle.placing.specs.Walk.{walked, none_wait}

-- 24: "no placing exists". The walk leaves something waiting exactly then (proofs/Promise.antt).
unfoldable pub unplaceable : ℕ → ℕ → List Item → Bool
unplaceable low high table = not (none_wait (walked low high table).waiting)

-- The columns of the chosen placing, in table order.
unfoldable pub chosen_columns : ℕ → ℕ → List Item → List ℕ
chosen_columns low high table = (walked low high table).columns

-- "each in rising order, and the first that applies is returned": 22, 23, 24; "0 is accepted".
abbrev pub first_of : Bool → Bool → Bool → ℕ
first_of true short unplaced = 22
first_of false true unplaced = 23
first_of false false true = 24
first_of false false false = 0

-- 23: "output shorter than needed".
abbrev pub too_short : List ℕ → List ℕ → Bool
too_short columns rows = ltb (length columns) (length rows)

-- The number answered.
unfoldable pub answer : ℕ → ℕ → List ℕ → List ℕ → List ℕ → List ℕ → List ℕ → ℕ
answer low high rows times fixed floors columns = first_of (malformed low high rows times fixed floors) (too_short columns rows) (unplaceable low high (items_of rows times fixed floors))

-- Accepted, the chosen columns, "places past their result unchanged"; refused, the columns as they came.
unfoldable pub columns_left : ℕ → ℕ → List ℕ → List ℕ → List ℕ → List ℕ → List ℕ → List ℕ
columns_left low high rows times fixed floors columns =
    elim (eqb (answer low high rows times fixed floors columns) 0) [
      | true ↦ chosen_columns low high (items_of rows times fixed floors) ++ drop (length rows) columns
      | false ↦ columns
    ]
