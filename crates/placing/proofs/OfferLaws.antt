-- What a row offers a column, as the code finds it: what the offer tells of the row.
use Prim.Native.Nat.{ℕ, ◌<◌, ◌≤◌}
use mathlib.Core.Path.{◌≡◌, refl, ap, ◌∙◌}
use mathlib.Core.Bool.{Bool, true, false}
use mathlib.Core.List.{List}
use native.Mathlib.Omega.{arith}
use lib.ListN.{length, get_or}
use lib.Dec.{ltb, eqb}
use borrow.Author.Tests.{ltb-true, ltb-false, eqb-true, eqb-false, lt-ltb}
use Rattle.placing.specs.Item.{items_of}
use Rattle.placing.specs.Walk.{last_column, fixed_here, free_here}
use Rattle.placing.specs.declared.Offer.TheVariants.{Fixed, Free, Passed, Nothing}
use Rattle.placing.specs.Places.{row_at, row_from, offer_by, offer_at}
use Rattle.placing.proofs.PrepareLaws.{row_is}
use Rattle.placing.proofs.ShutLaws.{Opens, Shut, fixed_here_lem, free_here_lem, shut_passed}

never : {A : Type 0} → ◌≡◌ {A = ℕ} 0 1 → A
never z = let no : ⊥ = omega arith in absurd no

by_fixed : (b f g : Bool) (l : ℕ) → offer_by b f g l ≡ Fixed → (b ≡ true) × (f ≡ true)
by_fixed true true g l e = (refl, refl)
by_fixed true false true l e = never (cc)
by_fixed true false false l e = never (cc)
by_fixed false f g l e = never (cc)

by_free : (b f g : Bool) (l v : ℕ) → offer_by b f g l ≡ Free v → (b ≡ true) × (f ≡ false) × (g ≡ true) × (v ≡ l)
by_free true false true l v e = (refl, refl, refl, cc)
by_free true true g l v e = never (cc)
by_free true false false l v e = never (cc)
by_free false f g l v e = never (cc)

by_passed : (b f g : Bool) (l : ℕ) → offer_by b f g l ≡ Passed → (b ≡ true) × (f ≡ false) × (g ≡ false)
by_passed true false false l e = (refl, refl, refl)
by_passed true true g l e = never (cc)
by_passed true false true l e = never (cc)
by_passed false f g l e = never (cc)

by_nothing : (b f g : Bool) (l : ℕ) → offer_by b f g l ≡ Nothing → b ≡ false
by_nothing false f g l e = refl
by_nothing true true g l e = never (cc)
by_nothing true false true l e = never (cc)
by_nothing true false false l e = never (cc)

module _ {high : ℕ} {rows fixed floors : List ℕ} {r i c a : ℕ} (s : Shut high rows fixed floors r i c a) (inside : c ≤ high) (lasts : List ℕ) where
  open_now : ltb a c ≡ true → (a < c) × Opens rows fixed floors r i a
  open_now e = let l : a < c = ltb-true a c e in (l, s.opens (omega arith))

  pub offer_fixed : offer_at fixed lasts a i c ≡ Fixed → (times : List ℕ) → fixed_here c (row_from (items_of rows times fixed floors) r i) ≡ true
  unfolding offer_at
  offer_fixed e times =
      let (b, f) = by_fixed (ltb a c) (eqb (get_or fixed i 0) c) (eqb (get_or fixed i 0) 0) (get_or lasts i 0) e in
      let (_, o) = open_now b in
      fixed_here_lem rows fixed floors r i o.there o.row times c ∙ f

  pub offer_free : (last : ℕ) → offer_at fixed lasts a i c ≡ Free last
      → (times : List ℕ) → (i < length rows → get_or lasts i 0 ≡ last_column high (row_from (items_of rows times fixed floors) (row_at (items_of rows times fixed floors) i) i))
      → (fixed_here c (row_from (items_of rows times fixed floors) r i) ≡ false) × (free_here c (row_from (items_of rows times fixed floors) r i) ≡ true) × (last ≡ last_column high (row_from (items_of rows times fixed floors) r i))
  unfolding offer_at
  offer_free last e times Lasts-are =
      let (b, f, g, v) = by_free (ltb a c) (eqb (get_or fixed i 0) c) (eqb (get_or fixed i 0) 0) (get_or lasts i 0) last e in
      let (l, o) = open_now b in
      let below : get_or floors i 0 < c = omega (arith, o.by_floor (eqb-true (get_or fixed i 0) 0 g)) in (
        fixed_here_lem rows fixed floors r i o.there o.row times c ∙ f,
        free_here_lem rows fixed floors r i o.there o.row times c ∙ (rw (g, lt-ltb (get_or floors i 0) c below)),
        v ∙ Lasts-are o.there ∙ ap (λ (k : ℕ). last_column high (row_from (items_of rows times fixed floors) k i)) (row_is rows times fixed floors i o.there ∙ o.row),
      )

  pub offer_passed : offer_at fixed lasts a i c ≡ Passed → Shut high rows fixed floors r i c high
  unfolding offer_at
  offer_passed e =
      let (b, f, g) = by_passed (ltb a c) (eqb (get_or fixed i 0) c) (eqb (get_or fixed i 0) 0) (get_or lasts i 0) e in
      let (l, o) = open_now b in
      shut_passed high rows fixed floors r i c a l o (eqb-false (get_or fixed i 0) 0 g) (eqb-false (get_or fixed i 0) c f)

  pub offer_nothing : offer_at fixed lasts a i c ≡ Nothing → c ≤ a
  unfolding offer_at
  offer_nothing e = ltb-false a c (by_nothing (ltb a c) (eqb (get_or fixed i 0) c) (eqb (get_or fixed i 0) 0) (get_or lasts i 0) e)
