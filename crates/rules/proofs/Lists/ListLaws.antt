-- Lists joined at their ends, and selections from them.
use Prim.Native.Nat.{ℕ, zero, suc, ◌<◌}
use mathlib.Core.Path.{◌≡◌, refl, sym, ap, ◌∙◌}
use mathlib.Core.Bool.{Bool, true, false, true≢false}
use mathlib.Core.List.{List, [], ◌∷◌, ◌++◌, map, append-nil, append_cancel_left}
use native.Mathlib.Omega.{arith}
use lib.ListN.{length, get_or}
use Rattle.rules.specs.Lists.{keep, keep_one, is_empty}

pub nil_right : {A : Type 0} (xs : List A) → xs ++ [] ≡ xs
nil_right xs = append-nil xs

-- What stands behind one front is determined.
pub append_cancel : {A : Type 0} (xs : List A) {ys zs : List A} → xs ++ ys ≡ xs ++ zs → ys ≡ zs
append_cancel xs {ys} {zs} e = append_cancel_left xs ys zs e

pub map-append : {A B : Type 0} (g : A → B) (xs ys : List A) → map g (xs ++ ys) ≡ map g xs ++ map g ys
map-append g [] ys = refl
map-append g (x ∷ xs) ys = ap (λ (l : List _). g x ∷ l) (map-append g xs ys)

-- An empty list, and one that is not.
pub empty_none : {A : Type 0} (xs : List A) → is_empty xs ≡ true → xs ≡ []
empty_none [] e = refl
empty_none (x ∷ xs) e = absurd (true≢false (sym e))

pub some_first : {A : Type 0} (xs : List A) → is_empty xs ≡ false → (x : A) × (rest : List A) × (xs ≡ x ∷ rest)
some_first [] e = absurd (true≢false e)
some_first (x ∷ xs) e = (x, xs, refl)

module _ {A : Type 0} (f : A → Bool) where
  keep_one_lem : (b : Bool) (x : A) (xs ys : List A) → keep_one b x (xs ++ ys) ≡ keep_one b x xs ++ ys
  keep_one_lem true x xs ys = refl
  keep_one_lem false x xs ys = refl

  pub keep_append : (xs ys : List A) → keep f (xs ++ ys) ≡ keep f xs ++ keep f ys
  keep_append [] ys = refl
  keep_append (x ∷ xs) ys = ap (λ (l : List A). keep_one (f x) x l) (keep_append xs ys) ∙ keep_one_lem (f x) x (keep f xs) (keep f ys)

-- One more or none at the end, through a test that it passes, through one that it fails, and through a map.
module _ {A : Type 0} (f : A → Bool) (t : Bool) (x : A) (xs : List A) where
  pub keep_more : f x ≡ true → keep f (xs ++ keep_one t x []) ≡ keep f xs ++ keep_one t x []
  keep_more e = keep_append f xs (keep_one t x []) ∙ ap (λ (ys : List A). keep f xs ++ ys) (one t)
    where
      one : (s : Bool) → keep f (keep_one s x []) ≡ keep_one s x []
      one true = ap (λ (s : Bool). keep_one s x []) e
      one false = refl

  pub keep-none : f x ≡ false → keep f (xs ++ keep_one t x []) ≡ keep f xs
  keep-none e = keep_append f xs (keep_one t x []) ∙ ap (λ (ys : List A). keep f xs ++ ys) (one t) ∙ nil_right (keep f xs)
    where
      one : (s : Bool) → keep f (keep_one s x []) ≡ []
      one true = ap (λ (s : Bool). keep_one s x []) e
      one false = refl

pub map_more : {A B : Type 0} (f : A → B) (t : Bool) (x : A) (xs : List A) → map f (xs ++ keep_one t x []) ≡ map f xs ++ keep_one t (f x) []
map_more f true x xs = map-append f xs (x ∷ [])
map_more f false x xs = map-append f xs []

-- A selection from what a map gives.
keep_one-map : {A B : Type 0} (f : A → B) (b : Bool) (x : A) (xs : List A) (ys : List B) → ys ≡ map f xs → keep_one b (f x) ys ≡ map f (keep_one b x xs)
keep_one-map f true x xs ys e = ap (λ (zs : List _). f x ∷ zs) e
keep_one-map f false x xs ys e = e

pub keep-map : {A B : Type 0} (f : A → B) (t : B → Bool) (xs : List A) → keep t (map f xs) ≡ map f (keep (λ (x : A). t (f x)) xs)
keep-map f t [] = refl
keep-map f t (x ∷ xs) = keep_one-map f (t (f x)) x (keep (λ (y : _). t (f y)) xs) (keep t (map f xs)) (keep-map f t xs)

-- A selection from a selection.
module _ {A : Type 0} (f g : A → Bool) where
  pub keep_swap : (xs : List A) → keep f (keep g xs) ≡ keep g (keep f xs)
  keep_swap [] = refl
  keep_swap (x ∷ xs) = one (f x) (g x) refl refl (keep_swap xs)
    where
      one : (s t : Bool) → f x ≡ s → g x ≡ t → keep f (keep g xs) ≡ keep g (keep f xs) → keep f (keep_one t x (keep g xs)) ≡ keep g (keep_one s x (keep f xs))
      one true true d e q = rw (d, e) (ap (λ (ys : List A). x ∷ ys) q)
      one true false d e q = rw e q
      one false true d e q = rw d q
      one false false d e q = q

  -- What one test passes, a wider one has passed before.
  pub keep_wider : ((x : A) → f x ≡ true → g x ≡ true) → (xs : List A) → keep f (keep g xs) ≡ keep f xs
  keep_wider h [] = refl
  keep_wider h (x ∷ xs) = one (f x) (g x) refl refl (keep_wider h xs)
    where
      one : (s t : Bool) → f x ≡ s → g x ≡ t → keep f (keep g xs) ≡ keep f xs → keep f (keep_one t x (keep g xs)) ≡ keep_one s x (keep f xs)
      one true true d e q = rw d (ap (λ (ys : List A). x ∷ ys) q)
      one true false d e q = absurd (true≢false (sym (h x d) ∙ e))
      one false true d e q = rw d q
      one false false d e q = q

-- What is made of the thing at a place.
pub map_at : {A B : Type 0} (f : A → B) (xs : List A) (i : ℕ) (d : A) (e : B) → i < length xs → get_or (map f xs) i e ≡ f (get_or xs i d)
map_at f [] i d e h = let no : ⊥ = omega arith in absurd no
map_at f (x ∷ xs) zero d e h = refl
map_at f (x ∷ xs) (suc i) d e h = map_at f xs i d e (omega arith)
