-- A list of columns that keeps the rules is a completion of what waits at first.
use Prim.Native.Nat.{ℕ, zero, suc, ◌+◌, ◌<◌, ◌≤◌}
use mathlib.Core.Path.{◌≡◌, sym, ap, ◌∙◌}
use mathlib.Core.Logic.{◌≢◌, ◌⊎◌, inl, inr, ⊎_elim}
use mathlib.Core.List.{List, [], ◌∷◌}
use native.Mathlib.Omega.{arith}
use native.Mathlib.Decide.{dec_lt, ℕ_discrete}
use lib.ListN.{length, get_or}
use Rattle.placing.specs.Item.{Item, item_at}
use Rattle.placing.specs.Rules.{KeepsRules}
use Rattle.basics.specs.Update.{changed_there, changed_else}
use Rattle.placing.specs.Places.{row_at, RowsAtLeast}
use Rattle.placing.proofs.Rows.{Sorted, from_none}
use Rattle.placing.proofs.Next.{rows_at, gone, gone_takes, gone_low}
use Rattle.placing.proofs.Fits.{May, free, fixed, Fits, done, skip, put}

-- Whether a number stands in a list, and where.
seek : (xs : List ℕ) (c : ℕ) → ((k : ℕ) × (k < length xs) × (get_or xs k 0 ≡ c)) ⊎ ((k : ℕ) → k < length xs → get_or xs k 0 ≢ c)
seek [] c = inr (λ k l. absurd (no k l))
  where
    no : (k : ℕ) → k < 0 → ⊥
    no k l = omega arith
seek (x ∷ xs) c =
    elim (ℕ_discrete x c) [
      | yes e ↦ inl (0, omega arith, e)
      | no h ↦ ⊎_elim (λ f. inl (suc f.0, omega (arith, f.1), f.2)) (λ g. inr (later h g)) (seek xs c)
    ]
  where
    later : (x ≢ c) → ((k : ℕ) → k < length xs → get_or xs k 0 ≢ c) → (k : ℕ) → k < suc (length xs) → get_or (x ∷ xs) k 0 ≢ c
    later h g zero l = h
    later h g (suc k) l = g k (omega arith)

-- The places from which on each row's items stand at column c or later.
pub record Split (table : List Item) (columns : List ℕ) (c : ℕ) (next : ℕ → ℕ) : Type 0 where
  pub lows : (r : ℕ) → RowsAtLeast table r (next r)
  pub past : (k : ℕ) → k < length table → k < next (row_at table k) → get_or columns k 0 < c
  pub ahead : (k : ℕ) → k < length table → next (row_at table k) ≤ k → c ≤ get_or columns k 0

module _ (table : List Item) (sorted : Sorted table) (low high : ℕ) (columns : List ℕ) (keeps : KeepsRules low high table columns) where
  all_past : (c : ℕ) (next : ℕ → ℕ) → high < c → Split table columns c next → (r : ℕ) → rows_at table next r ≡ []
  all_past c next l s r =
      from_none table sorted r (next r) (s.lows r) λ i e.
      (let here : next (row_at table (next r)) ≡ next r = ap next e in
      omega (arith, s.ahead (next r) i (omega arith), (keeps.inside (next r) i).1))

  none_here : (c : ℕ) (next : ℕ → ℕ) → ((k : ℕ) → k < length table → get_or columns k 0 ≢ c) → Split table columns c next → Split table columns (suc c) next
  none_here c next h s =
      record {
        lows = s.lows;
        past = λ k l p. omega (arith, s.past k l p);
        ahead = λ k l p. omega (arith, s.ahead k l p, h k l);
      }

  module _ (c : ℕ) (next : ℕ → ℕ) (s : Split table columns c next) (k : ℕ) (l : k < length table) (here : get_or columns k 0 ≡ c) where
    -- The item at column c is its row's next.
    its_next : next (row_at table k) ≡ k
    its_next =
        elim (dec_lt k (next (row_at table k))) [
          | yes p ↦ omega (arith, s.past k l p)
          | no h ↦ elim (ℕ_discrete (next (row_at table k)) k) [
            | yes e ↦ e
            | no d ↦
                (let i = next (row_at table k) in
                let before : i < k = omega arith in
                let same : row_at table i ≡ row_at table k = omega (arith, sorted i k (omega arith) l, s.lows (row_at table k) i (omega arith) (omega arith)) in
                let at : next (row_at table i) ≡ i = ap next same in
                omega (arith, keeps.rising i k before l same, s.ahead i (omega arith) (omega arith)))
          ]
        ]

    may_here : May (item_at table k) c
    may_here =
        elim (ℕ_discrete (item_at table k).fixed 0) [
          | yes e ↦ free e (rw here at (keeps.free k l e))
          | no h ↦ fixed h (sym (keeps.fixed k l h) ∙ here)
        ]

    passed : (j : ℕ) → j < length table → j < gone table next k (row_at table j) → get_or columns j 0 < suc c
    passed j m p =
        elim (ℕ_discrete (row_at table j) (row_at table k)) [
          | no h ↦ omega (arith, s.past j m (rw (changed_else next (row_at table k) (suc k) (row_at table j) h) at p))
          | yes e ↦
              (let g = changed_there next (row_at table k) (suc k) (row_at table j) e in
              elim (ℕ_discrete j k) [
                | yes same ↦ (let at : get_or columns j 0 ≡ get_or columns k 0 = ap (λ (i : ℕ). get_or columns i 0) same in omega arith)
                | no d ↦ omega (arith, keeps.rising j k (omega arith) l e)
              ])
        ]

    coming : (j : ℕ) → j < length table → gone table next k (row_at table j) ≤ j → suc c ≤ get_or columns j 0
    coming j m p =
        elim (ℕ_discrete (row_at table j) (row_at table k)) [
          | yes e ↦
              (let g = changed_there next (row_at table k) (suc k) (row_at table j) e in
              omega (arith, keeps.rising k j (omega arith) m (sym e)))
          | no h ↦
              (let ahead = s.ahead j m (rw (changed_else next (row_at table k) (suc k) (row_at table j) h) at p) in
              elim (dec_lt j k) [
                | yes q ↦ omega (arith, keeps.distinct j k q l)
                | no q ↦ omega (arith, keeps.distinct k j (other q h) m)
              ])
        ]
      where
        other : ¬ (j < k) → row_at table j ≢ row_at table k → k < j
        other q h = elim (ℕ_discrete j k) [ yes same ↦ absurd (h (ap (row_at table) same)) | no d ↦ omega arith ]

    one_here : Split table columns (suc c) (gone table next k)
    one_here = record { lows = gone_low table sorted next k l s.lows; past = passed; ahead = coming }

  pub completion : (n c : ℕ) (next : ℕ → ℕ) → n + c ≡ suc high → Split table columns c next → Fits n c (rows_at table next)
  completion zero c next e s = done (all_past c next (omega arith) s)
  completion (suc n) c next e s =
      ⊎_elim
      (λ f.
      (let k : ℕ = f.0 in
      let l : k < length table = rw keeps.one_each at f.1 in
      put (row_at table k) (record { place = k; item = item_at table k }) (rows_at table (gone table next k))
      (gone_takes table next k l (its_next c next s k l f.2)) (may_here c next s k l f.2) (completion n (suc c) (gone table next k) (omega arith) (one_here c next s k l f.2))))
      (λ g. skip (completion n (suc c) next (omega arith) (none_here c next (λ k l. g k (rw keeps.one_each l)) s)))
      (seek columns c)
