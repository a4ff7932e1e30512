-- Marks of the tables P3, P5, P7 and P8 of document 01, and of malformed ones, computed.
use Rattle.std.specs.Prelude.{ℕ, ◌≡◌, refl, List, [], ◌∷◌, map}
use Rattle.placing.specs.Item.{Item}
use Rattle.placing.specs.Marked.{free, at}
use Rattle.marking.specs.Mark.{mark, mark_number}

unfoldable pub number_of : ℕ → ℕ → List Item → List ℕ → ℕ
unfolding mark
number_of low high items columns =
    mark_number (mark low high (map (λ (x : Item). x.row) items) (map (λ (x : Item). x.time) items) (map (λ (x : Item). x.fixed) items) (map (λ (x : Item). x.floor) items) columns)

-- P3: the chosen columns and the other placing
right_columns : map (number_of 1 6 (free 1 1 3 ∷ at 1 2 5 ∷ free 2 1 1 ∷ at 2 2 6 ∷ [])) ((4 ∷ 5 ∷ 2 ∷ 6 ∷ []) ∷ (4 ∷ 5 ∷ 3 ∷ 6 ∷ []) ∷ []) ≡ 0 ∷ 0 ∷ []
unfolding number_of
right_columns = refl

-- P3: at the floor; a fixed item elsewhere; the column of an earlier item of another row; low itself; past high; two that break a rule; one column less, one more
wrong_columns : map (number_of 1 6 (free 1 1 3 ∷ at 1 2 5 ∷ free 2 1 1 ∷ at 2 2 6 ∷ []))
    ((3 ∷ 5 ∷ 2 ∷ 6 ∷ []) ∷ (4 ∷ 6 ∷ 2 ∷ 6 ∷ []) ∷ (4 ∷ 5 ∷ 4 ∷ 6 ∷ []) ∷ (4 ∷ 5 ∷ 1 ∷ 6 ∷ []) ∷ (4 ∷ 5 ∷ 2 ∷ 7 ∷ []) ∷ (4 ∷ 5 ∷ 5 ∷ 7 ∷ []) ∷ (4 ∷ 5 ∷ 2 ∷ []) ∷ (4 ∷ 5 ∷ 2 ∷ 6 ∷ 7 ∷ []) ∷ [])
    ≡ 256 ∷ 257 ∷ 258 ∷ 258 ∷ 259 ∷ 258 ∷ 28 ∷ 28 ∷ []
unfolding number_of
wrong_columns = refl

-- P5: the chosen columns; row 1 falls to its fixed item, which is the one named; row 0's free item past high, and the greatest number that can be lent
falling_columns : map (number_of 0 3 (free 0 1 0 ∷ free 1 1 0 ∷ at 1 2 2 ∷ [])) ((3 ∷ 1 ∷ 2 ∷ []) ∷ (1 ∷ 3 ∷ 2 ∷ []) ∷ (4 ∷ 1 ∷ 2 ∷ []) ∷ (4_294_967_295 ∷ 1 ∷ 2 ∷ []) ∷ []) ≡ 0 ∷ 258 ∷ 256 ∷ 256 ∷ []
unfolding number_of
falling_columns = refl

-- P7, no items: no columns, one; P8, no placing: every column
no_items : map (number_of 5 5 []) ([] ∷ (6 ∷ []) ∷ []) ≡ 0 ∷ 28 ∷ []
unfolding number_of
no_items = refl

no_placing : map (number_of 4 4 (free 0 1 0 ∷ [])) ((4 ∷ []) ∷ (5 ∷ []) ∷ [] ∷ []) ≡ 256 ∷ 256 ∷ 28 ∷ []
unfolding number_of
no_placing = refl

-- 22 before 28: row times that do not rise, with two columns and with none; slices of unequal length
malformed_tables : number_of 0 4 (free 0 2 0 ∷ free 0 2 0 ∷ []) (1 ∷ 2 ∷ []) ∷ number_of 0 4 (free 0 2 0 ∷ free 0 2 0 ∷ []) [] ∷ mark_number (mark 0 4 (0 ∷ []) [] (0 ∷ []) (0 ∷ []) (1 ∷ [])) ∷ [] ≡ 22 ∷ 22 ∷ 22 ∷ []
unfolding number_of mark
malformed_tables = refl
