-- Each row's next place in the table: where it begins, and how it moves when the row's first item goes.
use Prim.Native.Nat.{ℕ, zero, suc, ◌+◌, ◌<◌, ◌≤◌}
use mathlib.Core.Path.{◌≡◌, refl, sym, ap, ◌∙◌}
use mathlib.Core.List.{List, ◌∷◌}
use native.Mathlib.Omega.{arith}
use native.Mathlib.Decide.{dec_lt, ℕ_discrete}
use lib.ListN.{length}
use Rattle.placing.specs.Item.{Item, item_at}
use Rattle.placing.specs.Walk.{Waiting}
use Rattle.basics.specs.Update.{changed, changed_there, changed_else}
use Rattle.placing.specs.Places.{row_at, row_from, RowsAtLeast}
use Rattle.placing.proofs.Rows.{Sorted, from_head, from_skip, low_next}
use Rattle.placing.proofs.Fits.{Rows, Takes}

-- What waits where each row's next place is given.
abbrev pub rows_at : List Item → (ℕ → ℕ) → Rows
rows_at table next = λ r. row_from table r (next r)

-- The next places once the item at place k is gone.
abbrev pub gone : List Item → (ℕ → ℕ) → ℕ → ℕ → ℕ
gone table next k = changed next (row_at table k) (suc k)

-- The first of a row that waits, taken away.
pub gone_takes : (table : List Item) (next : ℕ → ℕ) (k : ℕ) → k < length table → next (row_at table k) ≡ k → Takes (rows_at table next) (row_at table k) (record { place = k; item = item_at table k }) (rows_at table (gone table next k))
gone_takes table next k l e =
    let a = row_at table k in
    let w : Waiting = record { place = k; item = item_at table k } in
    record {
      first = ap (row_from table a) e ∙ from_head table a k l refl ∙ ap (λ (i : ℕ). w ∷ row_from table a i) (sym (changed_there next a (suc k) a refl));
      rest = λ s h. ap (row_from table s) (changed_else next a (suc k) s h);
    }

pub gone_low : (table : List Item) → Sorted table → (next : ℕ → ℕ) (k : ℕ) → k < length table → ((r : ℕ) → RowsAtLeast table r (next r)) → (r : ℕ) → RowsAtLeast table r (gone table next k r)
gone_low table sorted next k l lows r =
    let a = row_at table k in
    elim (ℕ_discrete r a) [
      | yes e ↦ rw (changed_there next a (suc k) r e, e) (low_next table sorted k l)
      | no h ↦ rw (changed_else next a (suc k) r h) (lows r)
    ]

-- Where row r begins.
pub record Begins (table : List Item) (r i : ℕ) : Type 0 where
  pub place : ℕ
  pub low : RowsAtLeast table r place
  pub waits : row_from table r i ≡ row_from table r place
  pub first : (k : ℕ) → i ≤ k → k < length table → row_at table k ≡ r → place ≤ k

pub begins : (table : List Item) → Sorted table → (r m i : ℕ) → i + m ≡ length table → Begins table r i
begins table sorted r zero i e =
    record { place = i; low = λ k p q. omega arith; waits = refl; first = λ k p q s. p }
begins table sorted r (suc m) i e =
    elim (dec_lt (row_at table i) r) [
      | no h ↦ record { place = i; low = λ k p q. omega (arith, sorted i k p q); waits = refl; first = λ k p q s. p }
      | yes l ↦
          (let b = begins table sorted r m (suc i) (omega arith) in
          record {
            place = b.place;
            low = b.low;
            waits = from_skip table r i (omega arith) (λ q. omega arith) ∙ b.waits;
            first = λ k p q s. b.first k (after l k p s) q s;
          })
    ]
  where
    after : row_at table i < r → (k : ℕ) → i ≤ k → row_at table k ≡ r → i < k
    after l k p s = elim (ℕ_discrete i k) [ yes same ↦ omega (arith, ap (row_at table) same) | no d ↦ omega arith ]
