-- How many of a list pass a test, and how long a rising list can be.
use Prim.Native.Nat.{ℕ, suc, ◌+◌, ◌<◌, ◌≤◌}
use mathlib.Core.Path.{◌≡◌, refl, sym, ap, ◌∙◌}
use mathlib.Core.Logic.{inl, inr}
use mathlib.Core.Bool.{Bool, true, false, not, true≢false}
use mathlib.Core.List.{List, [], ◌∷◌, ◌++◌}
use native.Mathlib.Omega.{arith}
use native.Mathlib.Decide.{ℕ_discrete}
use lib.ListN.{length, length-append}
use Rattle.rules.specs.Lists.{keep, keep_one}
use Rattle.rules.proofs.Lists.Rising.{Rises, none, more}
use Rattle.rules.proofs.Lists.Members.{In, here, there, in_none, in_first, rises_in}

pub length_snoc : {A : Type 0} (xs : List A) (x : A) → length (xs ++ x ∷ []) ≡ suc (length xs)
length_snoc xs x = omega (arith, length-append xs (x ∷ []))

pub in_long : {A : Type 0} {x : A} {xs : List A} → In x xs → 0 < length xs
in_long here = omega arith
in_long (there i) = omega arith

pub keep_short : {A : Type 0} (f : A → Bool) (xs : List A) → length (keep f xs) ≤ length xs
keep_short f [] = omega arith
keep_short f (x ∷ xs) = one (f x) (keep_short f xs)
  where
    one : (t : Bool) → length (keep f xs) ≤ length xs → length (keep_one t x (keep f xs)) ≤ suc (length xs)
    one true h = omega arith
    one false h = omega arith

-- A narrower test is passed by no more, and by one less where it refuses one.
module _ {A : Type 0} (f g : A → Bool) where
  pub keep_fewer : (xs : List A) → ((x : A) → In x xs → f x ≡ true → g x ≡ true) → length (keep f xs) ≤ length (keep g xs)
  keep_fewer [] h = omega arith
  keep_fewer (x ∷ xs) h = one (f x) (g x) refl refl (keep_fewer xs (λ y i. h y (there i)))
    where
      one : (s t : Bool) → f x ≡ s → g x ≡ t → length (keep f xs) ≤ length (keep g xs) → length (keep_one s x (keep f xs)) ≤ length (keep_one t x (keep g xs))
      one true true d e ih = omega arith
      one true false d e ih = absurd (true≢false (sym (h x here d) ∙ e))
      one false true d e ih = omega arith
      one false false d e ih = ih

  pub keep_one_fewer : {y : A} {xs : List A} → ((x : A) → In x xs → f x ≡ true → g x ≡ true) → In y xs → f y ≡ false → g y ≡ true → length (keep f xs) < length (keep g xs)
  keep_one_fewer h (here {xs = xs}) d e = let ih = keep_fewer xs (λ z i. h z (there i)) in rw (d, e) (omega arith)
  keep_one_fewer {y} h (there {y = x} {xs = xs} i) d e = one (f x) (g x) refl refl (keep_one_fewer (λ z j. h z (there j)) i d e)
    where
      one : (s t : Bool) → f x ≡ s → g x ≡ t → length (keep f xs) < length (keep g xs) → length (keep_one s x (keep f xs)) < length (keep_one t x (keep g xs))
      one true true p q ih = omega arith
      one true false p q ih = absurd (true≢false (sym (h x here p) ∙ q))
      one false true p q ih = omega arith
      one false false p q ih = ih

-- Those that pass a test and those that do not.
pub keep_both : {A : Type 0} (f : A → Bool) (xs : List A) → length (keep f xs) + length (keep (λ (x : A). not (f x)) xs) ≡ length xs
keep_both f [] = refl
keep_both {A} f (x ∷ xs) = one (f x) (keep_both f xs)
  where
    one : (t : Bool) → length (keep f xs) + length (keep (λ (y : A). not (f y)) xs) ≡ length xs → length (keep_one t x (keep f xs)) + length (keep_one (not t) x (keep (λ (y : A). not (f y)) xs)) ≡ suc (length xs)
    one true h = omega arith
    one false h = omega arith

-- A rising list whose times all stand in another is no longer than it.
module _ {A B : Type 0} (time : A → ℕ) (at : B → ℕ) where
  -- Where the first of the other list is none of those asked for, the rest of it has them all.
  in_rest : {y : B} {ys : List B} (x : A) → (time x ≡ at y → ⊥) → (z : B) × In z (y ∷ ys) × (time x ≡ at z) → (z : B) × In z ys × (time x ≡ at z)
  in_rest x d (z, i, e) = elim (in_first i) [ inl q ↦ absurd (d (e ∙ ap at q)) | inr j ↦ (z, j, e) ]

  pub rises_fewer : {a b : ℕ} {xs : List A} {ys : List B} → Rises time a xs → Rises at b ys → ((x : A) → In x xs → (y : B) × In y ys × (time x ≡ at y)) → length xs ≤ length ys
  rises_fewer none s f = omega arith
  rises_fewer (more {x = x} h r) none f = absurd (in_none (f x here).1)
  rises_fewer (more {x = x} {xs = xs} h r) (more {x = y} {xs = ys} k s) f =
      elim (ℕ_discrete (time x) (at y)) [
        | yes q ↦ (let ih = rises_fewer r s (λ z i. in_rest z (λ e. omega (arith, rises_in time r i)) (f z (there i))) in omega arith)
        | no d ↦ (let ih = rises_fewer (more {x = x} h r) s (λ z i. in_rest z (λ e. later d z i e) (f z i)) in omega arith)
      ]
    where
      later : (time x ≡ at y → ⊥) → (z : A) → In z (x ∷ xs) → time z ≡ at y → ⊥
      later d z i e =
          elim (in_first i) [
            | inl q ↦ d (sym (ap time q) ∙ e)
            | inr j ↦ (let (w, k, u) = in_rest x d (f x here) in omega (arith, rises_in time r j, rises_in at s k))
          ]
