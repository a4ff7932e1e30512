-- The walk is complete: where what waits can be placed from a column on, the walk places it.
use Prim.Native.Nat.{ℕ, zero, suc, ◌+◌, ◌<◌}
use mathlib.Core.Path.{◌≡◌, refl, sym, ap, subst, ◌∙◌}
use mathlib.Core.Logic.{◌≢◌, inl, inr}
use mathlib.Core.Bool.{true, true≢false}
use mathlib.Core.List.{List, [], ◌∷◌}
use mathlib.Core.Option.{Option, none, some}
use native.Mathlib.Omega.{arith}
use native.Mathlib.Decide.{dec_lt, ℕ_discrete}
use lib.ListN.{length, set, get_or-eq_default}
use lib.Seq.{get_or-set_same, get_or-set_other}
use lib.Dec.{ltb, eqb}
use borrow.Author.Tests.{ltb-true, eqb-true, eq-eqb, lt-ltb}
use Rattle.placing.specs.Walk.{Waiting, Walk, fixed_here, free_here, chosen_row, place_in, walk, none_wait}
use Rattle.basics.specs.Bools.{both_true}
use Rattle.placing.proofs.Rows.{nil_cons}
use Rattle.placing.proofs.Fits.{Rows, free, fixed, Takes, Fits, done, skip, put, due, fill, swap, same_rows, last_fixed}
use Rattle.placing.proofs.Choice.{row_of, FreeChosen, ChoiceSays, choice_says}

-- What a row's test says of its next item, and back.
pub fixed_next : (c : ℕ) (ws : List Waiting) → fixed_here c ws ≡ true → (w : Waiting) × (rest : List Waiting) × (ws ≡ w ∷ rest) × (w.item.fixed ≡ c)
fixed_next c [] e = absurd (true≢false (sym e))
fixed_next c (w ∷ ws) e = (w, ws, refl, eqb-true w.item.fixed c e)

pub free_next : (c : ℕ) (ws : List Waiting) → free_here c ws ≡ true → (w : Waiting) × (rest : List Waiting) × (ws ≡ w ∷ rest) × (w.item.fixed ≡ 0) × (w.item.floor < c)
free_next c [] e = absurd (true≢false (sym e))
free_next c (w ∷ ws) e =
    let t = both_true (eqb w.item.fixed 0) (ltb w.item.floor c) e in
    (w, ws, refl, eqb-true w.item.fixed 0 t.0, ltb-true w.item.floor c t.1)

fixed_test : (c : ℕ) (ws : List Waiting) {w : Waiting} {rest : List Waiting} → ws ≡ w ∷ rest → w.item.fixed ≡ c → fixed_here c ws ≡ true
fixed_test c ws {w} e h = rw e (eq-eqb w.item.fixed c h)

free_test : (c : ℕ) (ws : List Waiting) {w : Waiting} {rest : List Waiting} → ws ≡ w ∷ rest → w.item.fixed ≡ 0 → w.item.floor < c → free_here c ws ≡ true
free_test c ws {w} e h l = rw (e, eq-eqb w.item.fixed 0 h, lt-ltb w.item.floor c l)

-- A row that waits is among the rows.
pub row_there : (rows : List (List Waiting)) (r : ℕ) {w : Waiting} {ws : List Waiting} → row_of rows r ≡ w ∷ ws → r < length rows
row_there rows r e =
    elim (dec_lt r (length rows)) [ yes l ↦ l | no h ↦ absurd (nil_cons (sym (get_or-eq_default rows [] (omega arith)) ∙ e)) ]

pub set-takes : (rows : List (List Waiting)) (r : ℕ) (w : Waiting) (ws : List Waiting) → row_of rows r ≡ w ∷ ws → Takes (row_of rows) r w (row_of (set rows r ws))
set-takes rows r w ws e =
    record { first = e ∙ ap (λ (l : List Waiting). w ∷ l) (sym (get_or-set_same rows r ws [] (row_there rows r e))); rest = λ s h. get_or-set_other rows r s ws [] h }

module _ (high : ℕ) {n c : ℕ} (ends : n + suc c ≡ suc high) {R R' : Rows} (a : ℕ) (w : Waiting) (t : Takes R a w R') where
  at_a : (r : ℕ) (v : Waiting) (Q : Rows) → Takes R r v Q → r ≡ a → Fits n (suc c) Q → Fits n (suc c) R'
  at_a r v Q u e f = subst (λ (P : Rows). Fits n (suc c) P) (same_rows a (subst (λ (k : ℕ). Takes R k v Q) e u) t) f

  -- An item fixed at the column goes first in any completion.
  fixed_goes : w.item.fixed ≢ 0 → w.item.fixed ≡ c → Fits (suc n) c R → Fits n (suc c) R'
  fixed_goes h e (skip f) = absurd (missed f t.first)
    where
      missed : {Q : Rows} → Fits n (suc c) Q → Q a ≡ w ∷ R' a → ⊥
      missed g waits = omega (arith, due high g ends a waits, last_fixed high w (R' a) h)
  fixed_goes h e (put r v Q u may f) =
      elim (ℕ_discrete r a) [
        | yes same ↦ at_a r v Q u same f
        | no other ↦ (let no : ⊥ = omega (arith, due high f ends a (u.rest a (λ q. other (sym q)) ∙ t.first), last_fixed high w (R' a) h) in absurd no)
      ]

  -- So does the free item with the least last column where no item is fixed at the column.
  free_goes : (rows : List (List Waiting)) → R ≡ row_of rows → FreeChosen high c rows a → Fits (suc n) c R → Fits n (suc c) R'
  free_goes rows same says (skip f) = fill high a w t f
  free_goes rows same says (put r v Q u may f) =
      elim (ℕ_discrete r a) [
        | yes e ↦ at_a r v Q u e f
        | no other ↦ elim may [
          | fixed h e ↦ absurd (true≢false (sym (fixed_test c (row_of rows r) (sym (ap (λ (P : Rows). P r) same) ∙ u.first) e) ∙ says.no_fixed r))
          | free e l ↦ swap high a r w v u t (λ q. other (sym q)) e (omega arith) (rw same (says.least r (free_test c (row_of rows r) (sym (ap (λ (P : Rows). P r) same) ∙ u.first) e l))) ends f
        ]
      ]

pub took : (c a : ℕ) (s : Walk) {w : Waiting} {ws : List Waiting} → row_of s.waiting a ≡ w ∷ ws
    → place_in c (some a) s ≡ record { waiting = set s.waiting a ws; columns = set s.columns w.place c }
took c a s e = rw e

column_fits : (high n c : ℕ) (s : Walk) → c ≢ 0 → n + suc c ≡ suc high → (o : Option ℕ) → ChoiceSays high c s.waiting o → Fits (suc n) c (row_of s.waiting) → Fits n (suc c) (row_of (place_in c o s).waiting)
column_fits high n c s pos ends none says (skip f) = f
column_fits high n c s pos ends none says (put r v Q u (free e l) f) = absurd (true≢false (sym (free_test c (row_of s.waiting r) u.first e l) ∙ (says r).1))
column_fits high n c s pos ends none says (put r v Q u (fixed h e) f) = absurd (true≢false (sym (fixed_test c (row_of s.waiting r) u.first e) ∙ (says r).0))
column_fits high n c s pos ends (some a) (inl x) f =
    let (w, ws, e, at) = fixed_next c (row_of s.waiting a) x in
    rw (took c a s e) (fixed_goes high ends a w (set-takes s.waiting a w ws e) (λ z. pos (sym at ∙ z)) at f)
column_fits high n c s pos ends (some a) (inr x) f =
    let (w, ws, e, _, _) = free_next c (row_of s.waiting a) x.may in
    rw (took c a s e) (free_goes high ends a w (set-takes s.waiting a w ws e) s.waiting refl x f)

none_wait_lem : (rows : List (List Waiting)) → ((r : ℕ) → row_of rows r ≡ []) → none_wait rows ≡ true
none_wait_lem [] h = refl
none_wait_lem ([] ∷ rest) h = none_wait_lem rest (λ r. h (suc r))
none_wait_lem ((w ∷ ws) ∷ rest) h = absurd (nil_cons (sym (h 0)))

-- Where what waits fits into the columns, the walk leaves nothing waiting.
pub walk_places : (high n c : ℕ) (s : Walk) → c ≢ 0 → n + c ≡ suc high → Fits n c (row_of s.waiting) → none_wait (walk high n c s).waiting ≡ true
walk_places high zero c s pos ends (done empty) = none_wait_lem s.waiting empty
walk_places high (suc n) c s pos ends f =
    walk_places high n (suc c) (place_in c (chosen_row high c s.waiting) s) (λ z. omega arith) (omega arith)
    (column_fits high n c s pos (omega arith) (chosen_row high c s.waiting) (choice_says high c s.waiting) f)

pub none-waits : (rows : List (List Waiting)) → none_wait rows ≡ true → (r : ℕ) → row_of rows r ≡ []
none-waits [] e r = refl
none-waits ([] ∷ rest) e zero = refl
none-waits ([] ∷ rest) e (suc r) = none-waits rest e r
none-waits ((w ∷ ws) ∷ rest) e r = absurd (true≢false (sym e))
