-- Completions: what waits in the rows can take columns from c on, n of them. The exchange argument: a free item with a last column no later than another's may go first.
use Prim.Native.Nat.{ℕ, suc, ◌+◌, ◌-◌, ◌<◌, ◌≤◌}
use mathlib.Core.Path.{◌≡◌, refl, sym, ap, subst, fun_ext, ◌∙◌}
use mathlib.Core.Logic.{◌≢◌}
use mathlib.Core.List.{List, [], ◌∷◌}
use native.Mathlib.Omega.{arith}
use native.Mathlib.Decide.{ℕ_discrete}
use borrow.Author.Tests.{eq-eqb, ne_eqb}
use Rattle.placing.specs.Item.{Item}
use Rattle.placing.specs.Walk.{Waiting, last_column}
use Rattle.placing.proofs.Rows.{nil_cons}
use Rattle.basics.specs.Update.{changed, changed_there, changed_else}

-- What waits in each row.
abbrev pub Rows : Type 0
Rows = ℕ → List Waiting

-- An item may stand at a column.
pub data May (x : Item) (c : ℕ) : Type 0 where
  free : x.fixed ≡ 0 → x.floor < c → May x c
  fixed : x.fixed ≢ 0 → x.fixed ≡ c → May x c

-- R' is R without the first item of row r.
pub record Takes (R : Rows) (r : ℕ) (w : Waiting) (R' : Rows) : Type 0 where
  pub first : R r ≡ w ∷ R' r
  pub rest : (s : ℕ) → s ≢ r → R' s ≡ R s

pub data Fits : ℕ → ℕ → Rows → Type 0 where
  done : {c : ℕ} {R : Rows} → ((r : ℕ) → R r ≡ []) → Fits 0 c R
  skip : {n c : ℕ} {R : Rows} → Fits n (suc c) R → Fits (suc n) c R
  put : {n c : ℕ} {R : Rows} (r : ℕ) (w : Waiting) (R' : Rows) → Takes R r w R' → May w.item c → Fits n (suc c) R' → Fits (suc n) c R

pub cons_first : {A : Type 0} {x y : A} {xs ys : List A} → x ∷ xs ≡ y ∷ ys → x ≡ y
cons_first e = cc

pub cons_rest : {A : Type 0} {x y : A} {xs ys : List A} → x ∷ xs ≡ y ∷ ys → xs ≡ ys
cons_rest e = cc

pub last_fixed : (high : ℕ) (w : Waiting) (ws : List Waiting) → w.item.fixed ≢ 0 → last_column high (w ∷ ws) ≡ w.item.fixed
unfolding last_column
last_fixed high w ws h = rw (ne_eqb w.item.fixed 0 h) (omega arith)

pub last_free : (high : ℕ) (w : Waiting) (ws : List Waiting) → w.item.fixed ≡ 0 → last_column high (w ∷ ws) ≡ last_column high ws - 1
unfolding last_column
last_free high w ws h = rw (eq-eqb w.item.fixed 0 h) (omega arith)

pub last_none : (high : ℕ) → last_column high [] ≡ suc high
unfolding last_column
last_none high = omega arith

-- Rows without the first item of the same row are the same rows.
pub same_rows : {R Q R' : Rows} (r : ℕ) {v w : Waiting} → Takes R r v Q → Takes R r w R' → Q ≡ R'
same_rows {R} {Q} {R'} r {v} {w} t u =
    fun_ext λ s. elim (ℕ_discrete s r) [
      | yes e ↦ ap Q e ∙ cons_rest (sym t.first ∙ u.first) ∙ ap R' (sym e)
      | no h ↦ t.rest s h ∙ sym (u.rest s h)
    ]

-- Two rows give their first items in either order.
abbrev both_gone : Rows → ℕ → Rows → Rows
both_gone R' r Q = changed R' r (Q r)

module _ {R R' Q : Rows} (a r : ℕ) {w v : Waiting} (t : Takes R a w R') (u : Takes R r v Q) (apart : r ≢ a) where
  then_second : Takes R' r v (both_gone R' r Q)
  then_second = record { first = t.rest r apart ∙ u.first ∙ ap (λ (l : List Waiting). v ∷ l) (sym (changed_there R' r (Q r) r refl)); rest = changed_else R' r (Q r) }

  then_first : Takes Q a w (both_gone R' r Q)
  then_first =
      record {
        first = u.rest a (λ e. apart (sym e)) ∙ t.first ∙ ap (λ (l : List Waiting). w ∷ l) (sym (changed_else R' r (Q r) a (λ e. apart (sym e))));
        rest = λ s h. elim (ℕ_discrete s r) [ yes e ↦ ap (changed R' r (Q r)) e ∙ changed_there R' r (Q r) r refl ∙ ap Q (sym e) | no g ↦ changed_else R' r (Q r) s g ∙ t.rest s h ∙ sym (u.rest s g) ];
      }

due_behind : (high c : ℕ) (ws : List Waiting) → c ≤ high → ((w : Waiting) (rest : List Waiting) → ws ≡ w ∷ rest → c < last_column high (w ∷ rest)) → c < last_column high ws
due_behind high c [] l h = rw last_none (omega arith)
due_behind high c (w ∷ rest) l h = h w rest refl

due_here : (high c : ℕ) (w : Waiting) (ws : List Waiting) → May w.item c → c < last_column high ws → c ≤ last_column high (w ∷ ws)
due_here high c w ws (free e _) l = rw (last_free high w ws e) (omega arith)
due_here high c w ws (fixed h e) l = rw (last_fixed high w ws h) (omega arith)

module _ (high : ℕ) where
  -- What still waits at column c has its last column at c or later.
  pub due : {n c : ℕ} {R : Rows} → Fits n c R → n + c ≡ suc high → (a : ℕ) {w : Waiting} {ws : List Waiting} → R a ≡ w ∷ ws → c ≤ last_column high (w ∷ ws)
  due (done none) e a waits = absurd (nil_cons (sym (none a) ∙ waits))
  due (skip f) e a waits = let later = due f (omega arith) a waits in omega arith
  due (put {n = n} {c = c} {R = R} r v R' t may f) e a {w} {ws} waits =
      elim (ℕ_discrete a r) [
        | no other ↦ (let later = due f (omega arith) a (t.rest a other ∙ waits) in omega arith)
        | yes same ↦
            (let both : w ∷ ws ≡ v ∷ R' r = sym waits ∙ ap R same ∙ t.first in
            rw both (due_here high c v (R' r) may (due_behind high c (R' r) (omega arith) (λ y ys e'. due f (omega arith) r e'))))
      ]

  -- A column left empty is no loss to an item that waits: it may have taken it.
  pub fill : {n c : ℕ} {R R' : Rows} (a : ℕ) (w : Waiting) → Takes R a w R' → Fits n c R → Fits n c R'
  fill a w t (done none) = absurd (nil_cons (sym (none a) ∙ t.first))
  fill a w t (skip f) = skip (fill a w t f)
  fill {R' = R'} a w t (put {n = n} {c = c} {R = R} r v Q u may f) =
      elim (ℕ_discrete r a) [
        | yes e ↦ skip (subst (λ (P : Rows). Fits n (suc c) P) (same_rows a (subst (λ (k : ℕ). Takes R k v Q) e u) t) f)
        | no h ↦ put r v (both_gone R' r Q) (then_second a r t u h) may (fill a w (then_first a r t u h) f)
      ]

  -- Of two free items that may stand before column c, the one with the earlier last column may have gone first.
  pub swap : {n c : ℕ} {R P Q : Rows} (a b : ℕ) (x y : Waiting) → Takes R b y P → Takes R a x Q → a ≢ b
      → y.item.fixed ≡ 0 → y.item.floor < c → last_column high (R a) ≤ last_column high (R b) → n + c ≡ suc high → Fits n c P → Fits n c Q
  swap a b x y t u apart fy floor sooner e (done none) = absurd (nil_cons (sym (none a) ∙ t.rest a apart ∙ u.first))
  swap a b x y t u apart fy floor sooner e (skip f) = skip (swap a b x y t u apart fy (omega arith) sooner (omega arith) f)
  swap {R = R} {Q = Q} a b x y t u apart fy floor sooner e (put {n = n} {c = c} {R = P} r z P' v may f) =
      let la : last_column high (P a) ≡ last_column high (R a) = ap (last_column high) (t.rest a apart) in
      let lb : last_column high (R b) ≡ last_column high (P b) - 1 = ap (last_column high) t.first ∙ last_free high y (P b) fy in
      elim (ℕ_discrete r a) [
        | yes ra ↦
            put b y (both_gone P a Q) (then_first b a t u apart) (free fy floor)
            (subst (λ (S : Rows). Fits n (suc c) S) (same_rows a (subst (λ (k : ℕ). Takes P k z P') ra v) (then_second b a t u apart)) f)
        | no rna ↦ elim (ℕ_discrete r b) [
          | yes rb ↦
              (let v' : Takes P b z P' = subst (λ (k : ℕ). Takes P k z P') rb v in
              put {n = n} b y (both_gone P a Q) (then_first b a t u apart) (free fy floor)
              (elim may [
                | free fz lz ↦ swap a b x z v' (then_second b a t u apart) apart fz (omega arith) (omega arith) (omega arith) f
                | fixed hz ez ↦
                    (let lz : last_column high (P b) ≡ z.item.fixed = ap (last_column high) v'.first ∙ last_fixed high z (P' b) hz in
                    let waits : P' a ≡ x ∷ Q a = v'.rest a apart ∙ t.rest a apart ∙ u.first in
                    let still : suc c ≤ last_column high (x ∷ Q a) = due f (omega arith) a waits in
                    let lx : last_column high (R a) ≡ last_column high (x ∷ Q a) = ap (last_column high) u.first in
                    let no : ⊥ = omega arith in
                    absurd no)
              ]))
          | no rnb ↦
              (let R' : Rows = changed R r (P' r) in
              let w : Takes R r z R' =
              record {
                first = sym (t.rest r rnb) ∙ v.first ∙ ap (λ (l : List Waiting). z ∷ l) (sym (changed_there R r (P' r) r refl));
                rest = changed_else R r (P' r);
              } in
              let same : both_gone P r R' ≡ P' = same_rows r (then_second b r t w rnb) v in
              let la' : last_column high (R' a) ≡ last_column high (R a) = ap (last_column high) (changed_else R r (P' r) a (λ q. rna (sym q))) in
              let lb' : last_column high (R' b) ≡ last_column high (R b) = ap (last_column high) (changed_else R r (P' r) b (λ q. rnb (sym q))) in
              put r z (both_gone Q r R') (then_second a r u w rna) may
              (swap a b x y (subst (λ (S : Rows). Takes R' b y S) same (then_first b r t w rnb)) (then_first a r u w rna) apart fy (omega arith) (omega arith) (omega arith) f))
        ]
      ]
