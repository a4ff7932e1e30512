-- The marked sheets P3 to P8 of document 01, one case each; its examples of 22, 23 and 24; one of ours.
use Rattle.std.specs.Prelude.{ℕ, zero, suc, ◌≡◌, refl, List, [], ◌∷◌, ◌++◌, map, replicate}
use Rattle.placing.specs.Item.{Item}
use Rattle.placing.specs.Answer.{answer, columns_left, unplaceable, chosen_columns}
use Rattle.placing.specs.Table.{malformed, lengths_agree, table_fits, bounds_fit, item_fits, fixed_fits, comes_after}
use Rattle.placing.specs.Walk.{walked, begun, rows_of, chosen_row, last_column}

-- A replay table and the columns lent.
pub record Sheet : Type 0 where
  pub low : ℕ
  pub high : ℕ
  pub items : List Item
  pub lent : List ℕ

-- The number answered and the columns left.
pub record Mark : Type 0 where
  pub number : ℕ
  pub columns : List ℕ

pub record Case : Type 0 where
  pub sheet : Sheet
  pub mark : Mark

-- A free item: its row, row time and floor. A fixed one: its row, row time and column.
abbrev pub free : ℕ → ℕ → ℕ → Item
free row time floor = record { row = row; time = time; fixed = 0; floor = floor }

abbrev pub at : ℕ → ℕ → ℕ → Item
at row time column = record { row = row; time = time; fixed = column; floor = 0 }

abbrev case : ℕ → ℕ → List Item → List ℕ → ℕ → List ℕ → Case
case low high items lent number columns = record { sheet = record { low = low; high = high; items = items; lent = lent }; mark = record { number = number; columns = columns } }

-- The places lent hold 9, so that one written by a refusal, or past the result, would show.
unfoldable pub marked : List Case
marked =
    -- P3
    case 1 6 (free 1 1 3 ∷ at 1 2 5 ∷ free 2 1 1 ∷ at 2 2 6 ∷ []) (9 ∷ 9 ∷ 9 ∷ 9 ∷ 9 ∷ []) 0 (4 ∷ 5 ∷ 2 ∷ 6 ∷ 9 ∷ [])
    -- P4
    ∷ case 1 6 (free 1 1 4 ∷ at 1 2 5 ∷ free 2 1 1 ∷ at 2 2 6 ∷ []) (9 ∷ 9 ∷ 9 ∷ 9 ∷ 9 ∷ []) 24 (9 ∷ 9 ∷ 9 ∷ 9 ∷ 9 ∷ [])
    -- P5
    ∷ case 0 3 (free 0 1 0 ∷ free 1 1 0 ∷ at 1 2 2 ∷ []) (9 ∷ 9 ∷ 9 ∷ []) 0 (3 ∷ 1 ∷ 2 ∷ [])
    -- P6
    ∷ case 0 2 (free 0 1 0 ∷ free 1 1 0 ∷ []) (9 ∷ 9 ∷ []) 0 (1 ∷ 2 ∷ [])
    -- P7
    ∷ case 5 5 [] (9 ∷ []) 0 (9 ∷ [])
    -- P8
    ∷ case 4 4 (free 0 1 0 ∷ []) (9 ∷ []) 24 (9 ∷ [])
    ∷ []

-- So many free items of row 0, at times from t on, and so many columns from t on.
abbrev free_from : ℕ → ℕ → List Item
free_from zero t = []
free_from (suc n) t = free 0 t 0 ∷ free_from n (suc t)

abbrev columns_from : ℕ → ℕ → List ℕ
columns_from zero t = []
columns_from (suc n) t = t ∷ columns_from n (suc t)

-- The examples in document 01's table of numbers, each before one that is accepted and one in which the next number applies too; and the limits of 2026-01.
unfoldable pub numbered : List Case
numbered =
    -- 22: "65 items"; 64 items; 65 items and no place
    case 0 65 (free_from 65 1) (replicate 65 9) 22 (replicate 65 9)
    ∷ case 0 65 (free_from 64 1) (replicate 65 9) 0 (columns_from 64 1 ++ 9 ∷ [])
    ∷ case 0 65 (free_from 65 1) [] 22 []
    -- "columns, row times and floors rise to 4,000,000": all three there, and each one more
    ∷ case 3_999_998 4_000_000 (free 0 4_000_000 3_999_999 ∷ []) (9 ∷ []) 0 (4_000_000 ∷ [])
    ∷ case 3_999_998 4_000_001 (free 0 1 0 ∷ []) (9 ∷ []) 22 (9 ∷ [])
    ∷ case 3_999_998 4_000_000 (free 0 4_000_001 0 ∷ []) (9 ∷ []) 22 (9 ∷ [])
    ∷ case 3_999_998 4_000_000 (free 0 1 4_000_001 ∷ []) (9 ∷ []) 22 (9 ∷ [])
    ∷ case 3_999_998 4_000_000 (free 0 1 4_000_000 ∷ []) (9 ∷ []) 24 (9 ∷ [])
    -- 23: "0 places, 1 item"; 1 place; 0 places, and no placing exists
    ∷ case 0 4 (free 0 1 0 ∷ []) [] 23 []
    ∷ case 0 4 (free 0 1 0 ∷ []) (9 ∷ []) 0 (1 ∷ [])
    ∷ case 0 4 (free 0 1 5 ∷ []) [] 23 []
    -- 24: "floor 5, last column 4"; floor 3
    ∷ case 0 4 (free 0 1 5 ∷ []) (9 ∷ []) 24 (9 ∷ [])
    ∷ case 0 4 (free 0 1 3 ∷ []) (9 ∷ []) 0 (4 ∷ [])
    ∷ []

-- Ours, not of the paper. With the fixed item counted, row 1's first item would have the last column 2 and go first.
unfoldable pub ours : List Case
ours =
    case 0 4 (free 0 1 0 ∷ free 0 2 0 ∷ free 1 1 0 ∷ at 1 2 4 ∷ []) (9 ∷ 9 ∷ 9 ∷ 9 ∷ []) 0 (1 ∷ 3 ∷ 2 ∷ 4 ∷ [])
    ∷ []

-- What the definitions give for a sheet.
unfoldable pub mark_of : Sheet → Mark
unfolding answer columns_left chosen_columns malformed lengths_agree table_fits bounds_fit item_fits fixed_fits comes_after unplaceable walked begun rows_of chosen_row last_column
mark_of s =
    let rows = map (λ (x : Item). x.row) s.items in
    let times = map (λ (x : Item). x.time) s.items in
    let fixed = map (λ (x : Item). x.fixed) s.items in
    let floors = map (λ (x : Item). x.floor) s.items in
    record { number = answer s.low s.high rows times fixed floors s.lent; columns = columns_left s.low s.high rows times fixed floors s.lent }

-- The definitions give every mark.
pub marks_hold : map (λ (x : Case). mark_of x.sheet) marked ≡ map (λ (x : Case). x.mark) marked
unfolding marked mark_of
marks_hold = refl

pub numbered_hold : map (λ (x : Case). mark_of x.sheet) numbered ≡ map (λ (x : Case). x.mark) numbered
unfolding numbered mark_of
numbered_hold = refl

pub ours_hold : map (λ (x : Case). mark_of x.sheet) ours ≡ map (λ (x : Case). x.mark) ours
unfolding ours mark_of
ours_hold = refl
