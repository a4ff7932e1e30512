-- The walk is sound: where it leaves nothing waiting, its columns keep the rules.
use Prim.Native.Nat.{ℕ, zero, suc, ◌+◌, ◌<◌}
use mathlib.Core.Path.{◌≡◌, refl, sym, ap, subst, subst₂, ◌∙◌}
use mathlib.Core.Logic.{◌≢◌, ◌⊎◌, inl, inr, ⊎_elim}
use mathlib.Core.Bool.{true}
use mathlib.Core.List.{List, ◌∷◌}
use mathlib.Core.Option.{Option, none, some}
use native.Mathlib.Omega.{arith}
use native.Mathlib.Decide.{dec_lt, ℕ_discrete}
use lib.ListN.{length, get_or, set, length-set}
use lib.Seq.{get_or-set_same, get_or-set_other}
use Rattle.placing.specs.Item.{Item, item_at}
use Rattle.placing.specs.Rules.{KeepsRules}
use Rattle.placing.specs.Walk.{Waiting, Walk, chosen_row, place_in, walk, none_wait}
use Rattle.basics.specs.Update.{changed_there, changed_else}
use Rattle.placing.specs.Places.{row_at, row_from, RowsAtLeast}
use Rattle.placing.proofs.Rows.{Sorted, from_head, from_some, from_waits}
use Rattle.placing.proofs.Next.{rows_at, gone, gone_takes, gone_low}
use Rattle.placing.proofs.Fits.{Rows, May, free, fixed, Takes, same_rows, cons_first}
use Rattle.placing.proofs.Choice.{row_of, ChoiceSays, choice_says}
use Rattle.placing.proofs.Complete.{fixed_next, free_next, set-takes, took, none-waits}

-- The items that stand before their row's next place have columns before c that keep the rules among themselves.
pub record Good (table : List Item) (low c : ℕ) (next : ℕ → ℕ) (columns : List ℕ) : Type 0 where
  pub one_each : length columns ≡ length table
  pub lows : (r : ℕ) → RowsAtLeast table r (next r)
  pub inside : (k : ℕ) → k < length table → k < next (row_at table k) → (low < get_or columns k 0) × (get_or columns k 0 < c)
  pub may : (k : ℕ) → k < length table → k < next (row_at table k) → May (item_at table k) (get_or columns k 0)
  pub distinct : (j k : ℕ) → j < k → k < length table → j < next (row_at table j) → k < next (row_at table k) → get_or columns j 0 ≢ get_or columns k 0
  pub rising : (j k : ℕ) → j < k → k < length table → k < next (row_at table k) → row_at table j ≡ row_at table k → get_or columns j 0 < get_or columns k 0

module _ (table : List Item) (low : ℕ) where
  later : (c : ℕ) (next : ℕ → ℕ) (columns : List ℕ) → Good table low c next columns → Good table low (suc c) next columns
  later c next columns g =
      record {
        one_each = g.one_each;
        lows = g.lows;
        inside = λ k l p. omega (arith, (g.inside k l p).0, (g.inside k l p).1);
        may = g.may;
        distinct = g.distinct;
        rising = g.rising;
      }

  all_placed : (high : ℕ) (next : ℕ → ℕ) (columns : List ℕ) → Good table low (suc high) next columns → ((k : ℕ) → k < length table → k < next (row_at table k)) → KeepsRules low high table columns
  all_placed high next columns g all =
      record {
        one_each = g.one_each;
        inside = λ k l. omega (arith, (g.inside k l (all k l)).0, (g.inside k l (all k l)).1);
        distinct = λ j k p l. g.distinct j k p l (all j (omega arith)) (all k l);
        rising = λ j k p l e. g.rising j k p l (all k l) e;
        fixed = λ k l h. is_fixed k h (g.may k l (all k l));
        free = λ k l e. is_free k e (g.may k l (all k l));
      }
    where
      is_fixed : (k : ℕ) {c : ℕ} → (item_at table k).fixed ≢ 0 → May (item_at table k) c → c ≡ (item_at table k).fixed
      is_fixed k h (free e _) = absurd (h e)
      is_fixed k h (fixed _ e) = sym e

      is_free : (k : ℕ) {c : ℕ} → (item_at table k).fixed ≡ 0 → May (item_at table k) c → (item_at table k).floor < c
      is_free k e (free _ l) = l
      is_free k e (fixed h _) = absurd (h e)

  module _ (sorted : Sorted table) (c : ℕ) (next : ℕ → ℕ) (columns : List ℕ) (g : Good table low c next columns) (above : low < c)
      (k : ℕ) (l : k < length table) (its : next (row_at table k) ≡ k) (may : May (item_at table k) c) where
    -- An item that stands before its row's next place is the one just placed, or stood there before.
    now_placed : (j : ℕ) → j < length table → j < gone table next k (row_at table j) → (j ≡ k) ⊎ ((j ≢ k) × (j < next (row_at table j)))
    now_placed j m p =
        elim (ℕ_discrete j k) [
          | yes e ↦ inl e
          | no d ↦ inr (
            d,
            elim (ℕ_discrete (row_at table j) (row_at table k)) [
              | yes e ↦ (let moved = changed_there next (row_at table k) (suc k) (row_at table j) e in let same : next (row_at table j) ≡ k = ap next e ∙ its in omega arith)
              | no h ↦ rw (changed_else next (row_at table k) (suc k) (row_at table j) h) at p
            ],
          )
        ]

    here : (j : ℕ) → j ≡ k → get_or (set columns k c) j 0 ≡ c
    here j e = ap (λ (i : ℕ). get_or (set columns k c) i 0) e ∙ get_or-set_same columns k c 0 (rw g.one_each l)

    there : (j : ℕ) → j ≢ k → get_or (set columns k c) j 0 ≡ get_or columns j 0
    there j h = get_or-set_other columns k j c 0 h

    -- Where the item just placed and another stand, the other's column is before c.
    kept_distinct : (i j : ℕ) → i < j → j < length table → (i ≡ k) ⊎ ((i ≢ k) × (i < next (row_at table i))) → (j ≡ k) ⊎ ((j ≢ k) × (j < next (row_at table j))) → get_or (set columns k c) i 0 ≢ get_or (set columns k c) j 0
    kept_distinct i j o m (inl e) (inl f) q = omega arith
    kept_distinct i j o m (inl e) (inr f) q = omega (arith, here i e, there j f.0, (g.inside j m f.1).1)
    kept_distinct i j o m (inr e) (inl f) q = omega (arith, here j f, there i e.0, (g.inside i (omega arith) e.1).1)
    kept_distinct i j o m (inr e) (inr f) q = g.distinct i j o m e.1 f.1 (sym (there i e.0) ∙ q ∙ there j f.0)

    kept_rising : (i j : ℕ) → i < j → j < length table → row_at table i ≡ row_at table j → (j ≡ k) ⊎ ((j ≢ k) × (j < next (row_at table j))) → get_or (set columns k c) i 0 < get_or (set columns k c) j 0
    kept_rising i j o m e (inl f) =
        let at : next (row_at table i) ≡ k = ap next (e ∙ ap (row_at table) f) ∙ its in
        omega (arith, here j f, there i (λ q. omega arith), (g.inside i (omega arith) (omega arith)).1)
    kept_rising i j o m e (inr f) = omega (arith, there i not_k, there j f.0, g.rising i j o m f.1 e)
      where
        not_k : i ≢ k
        not_k q = let at : next (row_at table j) ≡ k = ap next (sym e ∙ ap (row_at table) q) ∙ its in omega (arith, f.1)

    kept_may : (j : ℕ) → j < length table → (j ≡ k) ⊎ ((j ≢ k) × (j < next (row_at table j))) → May (item_at table j) (get_or (set columns k c) j 0)
    kept_may j m (inl e) = rw (here j e) (subst (λ (i : ℕ). May (item_at table i) c) (sym e) may)
    kept_may j m (inr d) = rw (there j d.0) (g.may j m d.1)

    pub one_placed : Good table low (suc c) (gone table next k) (set columns k c)
    one_placed =
        record {
          one_each = length-set columns k c ∙ g.one_each;
          lows = gone_low table sorted next k l g.lows;
          inside = λ j m p. ⊎_elim (λ e. omega (arith, here j e)) (λ d. omega (arith, there j d.0, (g.inside j m d.1).0, (g.inside j m d.1).1)) (now_placed j m p);
          may = λ j m p. kept_may j m (now_placed j m p);
          distinct = λ i j o m p q. kept_distinct i j o m (now_placed i (omega arith) p) (now_placed j m q);
          rising = λ i j o m q e. kept_rising i j o m e (now_placed j m q);
        }

  module _ (sorted : Sorted table) (high : ℕ) where
    column_keeps : (c : ℕ) (s : Walk) (next : ℕ → ℕ) → c ≢ 0 → low < c → row_of s.waiting ≡ rows_at table next → Good table low c next s.columns → (o : Option ℕ) → ChoiceSays high c s.waiting o
        → (next' : ℕ → ℕ) × (row_of (place_in c o s).waiting ≡ rows_at table next') × Good table low (suc c) next' (place_in c o s).columns
    column_keeps c s next pos above waits g none says = (next, waits, later c next s.columns g)
    column_keeps c s next pos above waits g (some a) says = placed (⊎_elim (λ x. from_fixed (fixed_next c (row_of s.waiting a) x)) (λ x. from_free (free_next c (row_of s.waiting a) x.may)) says)
      where
        Next : Type 0
        Next = (w : Waiting) × (ws : List Waiting) × (row_of s.waiting a ≡ w ∷ ws) × May w.item c

        from_fixed : (w : Waiting) × (ws : List Waiting) × (row_of s.waiting a ≡ w ∷ ws) × (w.item.fixed ≡ c) → Next
        from_fixed x = (x.0, x.1, x.2, fixed (λ z. pos (sym x.3 ∙ z)) x.3)

        from_free : (w : Waiting) × (ws : List Waiting) × (row_of s.waiting a ≡ w ∷ ws) × (w.item.fixed ≡ 0) × (w.item.floor < c) → Next
        from_free x = (x.0, x.1, x.2, free x.3 x.4)

        placed : Next → (next' : ℕ → ℕ) × (row_of (place_in c (some a) s).waiting ≡ rows_at table next') × Good table low (suc c) next' (place_in c (some a) s).columns
        placed (w, ws, e, may) =
            let there : row_from table a (next a) ≡ w ∷ ws = sym (ap (λ (R : Rows). R a) waits) ∙ e in
            let (l, same) = from_some table sorted a (next a) (g.lows a) there in
            let k : ℕ = next a in
            let its : next (row_at table k) ≡ k = ap next same in
            let first : w ≡ record { place = k; item = item_at table k } = cons_first (sym there ∙ from_head table a k l same) in
            let takes : Takes (row_of s.waiting) a (record { place = k; item = item_at table k }) (rows_at table (gone table next k)) =
            subst₂ (λ (R : Rows) (r : ℕ). Takes R r (record { place = k; item = item_at table k }) (rows_at table (gone table next k))) (sym waits) same (gone_takes table next k l its) in
            rw (took c a s e) (
              gone table next k,
              same_rows a (set-takes s.waiting a w ws e) takes,
              rw (ap (λ (x : Waiting). x.place) first) (one_placed sorted c next s.columns g above k l its (subst (λ (x : Waiting). May x.item c) first may)),
            )

    pub walk-keeps : (n c : ℕ) (s : Walk) (next : ℕ → ℕ) → c ≢ 0 → low < c → n + c ≡ suc high → row_of s.waiting ≡ rows_at table next → Good table low c next s.columns → none_wait (walk high n c s).waiting ≡ true → KeepsRules low high table (walk high n c s).columns
    walk-keeps zero c s next pos above ends waits g empty =
        let e : c ≡ suc high = omega arith in
        all_placed high next s.columns (rw e at g) λ k l.
        elim (dec_lt k (next (row_at table k))) [
          | yes p ↦ p
          | no h ↦ absurd (from_waits table sorted (row_at table k) (next (row_at table k)) k (g.lows (row_at table k)) (omega arith) l refl (sym (ap (λ (R : Rows). R (row_at table k)) waits) ∙ none-waits s.waiting empty (row_at table k)))
        ]
    walk-keeps (suc n) c s next pos above ends waits g empty =
        let (next', waits', g') = column_keeps c s next pos above waits g (chosen_row high c s.waiting) (choice_says high c s.waiting) in
        walk-keeps n (suc c) (place_in c (chosen_row high c s.waiting) s) next' (λ z. omega arith) (omega arith) (omega arith) waits' g' empty
