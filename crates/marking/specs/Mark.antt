-- Marking a candidate's columns (document 02, 2026-09).
use Rattle.std.specs.Prelude.{ℕ, zero, suc, ◌+◌, Bool, true, false, not, ◌||◌, ◌&&◌, List, length, get_or, leb, ltb, eqb}
use Rattle.std.proofs.Math.Option.{Option, none, some}
use Rattle.placing.specs.Item.{Item, items_of, item_at}
use Rattle.placing.specs.Table.{lengths_agree, table_fits, bounds_fit, item_fits, fixed_fits, comes_after}
use Rattle.marking.specs.declared.Mark.{Mark}
use Rattle.marking.specs.declared.Mark.TheVariants.{Yes, No, Refused}

-- An item in column c "breaks a rule by itself": the column is not in low + 1..high, it is not above a free item's floor, or it is not a fixed item's.
unfoldable pub breaks_alone : ℕ → ℕ → ℕ → ℕ → ℕ → Bool
breaks_alone low high fixed floor c = leb c low || ltb high c || (eqb fixed 0 && leb c floor) || (not (eqb fixed 0) && not (eqb c fixed))

-- "or with an earlier item", whose row and column come first: the same column, or one that does not rise along the row.
abbrev pub clash : ℕ → ℕ → ℕ → ℕ → Bool
clash itsRow its row c = eqb its c || (eqb itsRow row && leb c its)

-- Item k with one of the first j items.
abbrev pub clashes : List Item → List ℕ → ℕ → ℕ → Bool
clashes table columns k zero = false
clashes table columns k (suc j) = clashes table columns k j || clash (item_at table j).row (get_or columns j 0) (item_at table k).row (get_or columns k 0)

unfoldable pub breaks : ℕ → ℕ → List Item → List ℕ → ℕ → Bool
unfolding breaks_alone
breaks low high table columns k = breaks_alone low high (item_at table k).fixed (item_at table k).floor (get_or columns k 0) || clashes table columns k k

-- "the number, from 0, of the first item, in table order, that breaks a rule", among so many items from item k on.
abbrev pub first_broken : ℕ → ℕ → List Item → List ℕ → ℕ → ℕ → Option ℕ
first_broken low high table columns k zero = none
first_broken low high table columns k (suc left) = elim (breaks low high table columns k) [ true ↦ some k | false ↦ first_broken low high table columns (suc k) left ]

abbrev pub mark_by : Option ℕ → Mark
mark_by none = Yes
mark_by (some k) = No k

-- "given a table and columns": 22, and "It refuses with 28 a list whose length is not the table's, after 22."
unfoldable pub mark_table : ℕ → ℕ → List Item → List ℕ → Mark
unfolding table_fits bounds_fit item_fits fixed_fits comes_after breaks
mark_table low high table columns =
    elim (table_fits low high table) [
      | false ↦ Refused 22
      | true ↦ elim (eqb (length columns) (length table)) [ false ↦ Refused 28 | true ↦ mark_by (first_broken low high table columns 0 (length table)) ]
    ]

-- The same of a table that four slices hold. Slices of unequal length hold none.
unfoldable pub mark : ℕ → ℕ → List ℕ → List ℕ → List ℕ → List ℕ → List ℕ → Mark
unfolding lengths_agree mark_table
mark low high rows times fixed floors columns = elim (lengths_agree rows times fixed floors) [ false ↦ Refused 22 | true ↦ mark_table low high (items_of rows times fixed floors) columns ]

-- One number for the panel: 0 is yes, a no is 256 and the item's number, a refusal its own.
abbrev pub mark_number : Mark → ℕ
mark_number Yes = 0
mark_number (No k) = 256 + k
mark_number (Refused n) = n

abbrev is_yes : Mark → Bool
is_yes Yes = true
is_yes (No k) = false
is_yes (Refused n) = false

-- Whether columns get yes for a table.
unfoldable pub gets_yes : ℕ → ℕ → List Item → List ℕ → Bool
unfolding mark_table
gets_yes low high table columns = is_yes (mark_table low high table columns)
