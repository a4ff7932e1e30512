-- Where a row's items stand in a table whose rows rise: from a row's next place on, its items stand one behind the other.
use Prim.Native.Nat.{ℕ, suc, ◌+◌, ◌<◌, ◌≤◌}
use mathlib.Core.Path.{◌≡◌, refl, sym, ap, ◌∙◌}
use mathlib.Core.Logic.{◌≢◌}
use mathlib.Core.List.{List, [], ◌∷◌}
use native.Mathlib.Omega.{arith}
use native.Mathlib.Decide.{dec_lt, ℕ_discrete}
use lib.ListN.{length, get_or, drop, length-drop}
use lib.Seq.{drop-cons, get_or-drop}
use borrow.Author.Tests.{eq-eqb, ne_eqb}
use Rattle.placing.specs.Item.{Item, no_item, item_at}
use Rattle.placing.specs.Walk.{Waiting, in_row}
use Rattle.placing.specs.Places.{row_at, row_from, RowsAtLeast}

-- Rows rise along the table.
abbrev pub Sorted : List Item → Type 0
Sorted table = (j k : ℕ) → j ≤ k → k < length table → row_at table j ≤ row_at table k

pub nil_cons : {A : Type 0} {x : A} {xs : List A} → [] ≡ x ∷ xs → ⊥
nil_cons e = let z : ◌≡◌ {A = ℕ} 0 1 = cc in omega arith

pub in_row-none : (r k : ℕ) (xs : List Item) → ((j : ℕ) → j < length xs → (get_or xs j no_item).row ≢ r) → in_row r k xs ≡ []
in_row-none r k [] h = refl
in_row-none r k (x ∷ xs) h = rw (ne_eqb x.row r (h 0 (omega arith))) (in_row-none r (suc k) xs (λ j l. h (suc j) (omega arith)))

module _ (table : List Item) where
  pub from_head : (r i : ℕ) → i < length table → row_at table i ≡ r → row_from table r i ≡ record { place = i; item = item_at table i } ∷ row_from table r (suc i)
  unfolding row_from
  from_head r i l e = rw (drop-cons table i no_item l, eq-eqb (row_at table i) r e)

  pub from_skip : (r i : ℕ) → i < length table → row_at table i ≢ r → row_from table r i ≡ row_from table r (suc i)
  unfolding row_from
  from_skip r i l h = rw (drop-cons table i no_item l, ne_eqb (row_at table i) r h)

  pub from_end : (r i : ℕ) → length table ≤ i → row_from table r i ≡ []
  unfolding row_from
  from_end r i l = in_row-none r i (drop i table) (λ j h. absurd (not_there j h))
    where
      not_there : (j : ℕ) → j < length (drop i table) → ⊥
      not_there j h = omega (arith, length-drop i table)

  module _ (sorted : Sorted table) where
    pub from_none : (r i : ℕ) → RowsAtLeast table r i → (i < length table → row_at table i ≢ r) → row_from table r i ≡ []
    unfolding row_from
    from_none r i low h = in_row-none r i (drop i table) λ j l e. other j l e
      where
        other : (j : ℕ) → j < length (drop i table) → (get_or (drop i table) j no_item).row ≡ r → ⊥
        other j l e =
            let k : i + j < length table = omega (arith, length-drop i table) in
            let same : row_at table (i + j) ≡ r = ap (λ (x : Item). x.row) (sym (get_or-drop i table j no_item)) ∙ e in
            h (omega arith) (omega (arith, low i (omega arith) (omega arith), sorted i (i + j) (omega arith) k))

    pub low_next : (i : ℕ) → i < length table → RowsAtLeast table (row_at table i) (suc i)
    low_next i l k p q = sorted i k (omega arith) q

    -- Where a row waits from place i on, its first waits at i.
    pub from_some : (r i : ℕ) {w : Waiting} {ws : List Waiting} → RowsAtLeast table r i → row_from table r i ≡ w ∷ ws → (i < length table) × (row_at table i ≡ r)
    from_some r i {w} {ws} low e =
        elim (dec_lt i (length table)) [
          | no past ↦ absurd (nil_cons (sym (from_none r i low (λ l. absurd (past l))) ∙ e))
          | yes l ↦ elim (ℕ_discrete (row_at table i) r) [
            | yes same ↦ (l, same)
            | no other ↦ absurd (nil_cons (sym (from_none r i low (λ _. other)) ∙ e))
          ]
        ]

    -- An item of the row from place i on waits there.
    pub from_waits : (r i k : ℕ) → RowsAtLeast table r i → i ≤ k → k < length table → row_at table k ≡ r → row_from table r i ≡ [] → ⊥
    from_waits r i k low p q e n =
        let l : i < length table = omega arith in
        let same : row_at table i ≡ r = omega (arith, low i (omega arith) l, sorted i k p q) in
        nil_cons (sym n ∙ from_head r i l same)
