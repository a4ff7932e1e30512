-- Lists: what holds of each thing in one, and parts of parts.
use Prim.Native.Nat.{ℕ, zero, suc, ◌+◌, ◌≤◌, ◌<◌}
use mathlib.Core.Path.{◌≡◌, refl, sym, ap, ap₂, ◌∙◌}
use mathlib.Core.Bool.{Bool, true, false, ◌||◌, true≢false}
use mathlib.Core.List.{List, [], ◌∷◌, ◌++◌, map}
use native.Mathlib.Nat.{add-zero}
use native.Mathlib.Omega.{arith}
use lib.ListN.{length, get_or, take, replicate}
use Rattle.basics.specs.Bools.{neither_true}
use Rattle.plan.specs.Lawful.{Each, Zeros}
use Rattle.rules.specs.Lists.{any_of, joined, up_to}

module _ {A : Type 0} (P : A → Type 0) where
  pub each_known : (xs : List A) (d : A) → ((i : ℕ) → i < length xs → P (get_or xs i d)) → Each P xs
  each_known [] d h = tt
  each_known (x ∷ xs) d h = (h zero (omega arith), each_known xs d (λ i k. h (suc i) (omega arith)))

  pub each_at : (xs : List A) (d : A) → Each P xs → (i : ℕ) → i < length xs → P (get_or xs i d)
  each_at [] d h i k = let no : ⊥ = omega arith in absurd no
  each_at (x ∷ xs) d h zero k = h.0
  each_at (x ∷ xs) d h (suc i) k = each_at xs d h.1 i (omega arith)

  pub each_append : (xs ys : List A) → Each P xs → Each P ys → Each P (xs ++ ys)
  each_append [] ys h k = k
  each_append (x ∷ xs) ys h k = (h.0, each_append xs ys h.1 k)

  pub each_replicate : (n : ℕ) (x : A) → P x → Each P (replicate n x)
  each_replicate zero x h = tt
  each_replicate (suc n) x h = (h, each_replicate n x h)

pub each_map : {A B : Type 0} (P : A → Type 0) (Q : B → Type 0) (f : A → B) → ((x : A) → P x → Q (f x)) → (xs : List A) → Each P xs → Each Q (map f xs)
each_map P Q f g [] h = tt
each_map P Q f g (x ∷ xs) h = (g x h.0, each_map P Q f g xs h.1)

-- ---- bytes that are all 0

abbrev pub IsZero : ℕ → Type 0
IsZero b = b ≡ 0

pub zeros-many : (n : ℕ) → Zeros (replicate n 0)
zeros-many n = each_replicate IsZero n 0 refl

pub zeros-append : (s t : List ℕ) → Zeros s → Zeros t → Zeros (s ++ t)
zeros-append s t h k = each_append IsZero s t h k

pub all_zero : (s : List ℕ) → Zeros s → s ≡ replicate (length s) 0
all_zero [] h = refl
all_zero (b ∷ s) h = ap₂ (λ (x : ℕ) (xs : List ℕ). x ∷ xs) h.0 (all_zero s h.1)

pub take-replicate : {A : Type 0} (n m : ℕ) (x : A) → n ≤ m → take n (replicate m x) ≡ replicate n x
take-replicate zero m x h = refl
take-replicate (suc n) zero x h = let no : ⊥ = omega arith in absurd no
take-replicate (suc n) (suc m) x h = ap (λ (ys : List _). x ∷ ys) (take-replicate n m x (omega arith))

-- ---- through joins, maps and tests

module _ {A : Type 0} (P : A → Type 0) where
  pub each_split : (xs ys : List A) → Each P (xs ++ ys) → Each P xs × Each P ys
  each_split [] ys h = (tt, h)
  each_split (x ∷ xs) ys h = let r = each_split xs ys h.1 in ((h.0, r.0), r.1)

  pub each_joined : {B : Type 0} (g : B → List A) (xs : List B) → Each P (joined (map g xs)) → Each (λ (x : B). Each P (g x)) xs
  each_joined g [] h = tt
  each_joined g (x ∷ xs) h = let r = each_split (g x) (joined (map g xs)) h in (r.0, each_joined g xs r.1)

  pub each_unmap : {B : Type 0} (g : B → A) (xs : List B) → Each P (map g xs) → Each (λ (x : B). P (g x)) xs
  each_unmap g [] h = tt
  each_unmap g (x ∷ xs) h = (h.0, each_unmap g xs h.1)

  -- From what holds of each by itself.
  pub each_imply : (Q : A → Type 0) → ((x : A) → P x → Q x) → (xs : List A) → Each P xs → Each Q xs
  each_imply Q f [] h = tt
  each_imply Q f (x ∷ xs) h = (f x h.0, each_imply Q f xs h.1)

  pub each_both : (Q R : A → Type 0) → ((x : A) → P x → Q x → R x) → (xs : List A) → Each P xs → Each Q xs → Each R xs
  each_both Q R f [] h k = tt
  each_both Q R f (x ∷ xs) h k = (f x h.0 k.0, each_both Q R f xs h.1 k.1)

  pub found_each : (f : A → Bool) (Q : Type 0) → ((x : A) → f x ≡ true → P x → Q) → (xs : List A) → any_of f xs ≡ true → Each P xs → Q
  found_each f Q give [] e h = absurd (true≢false (sym e))
  found_each f Q give (x ∷ xs) e h = one (f x) refl e (λ r. found_each f Q give xs r h.1)
    where
      one : (t : Bool) → f x ≡ t → (t || any_of f xs) ≡ true → (any_of f xs ≡ true → Q) → Q
      one true q r ih = give x q h.0
      one false q r ih = ih r

pub none_each : {A : Type 0} (f : A → Bool) (xs : List A) → any_of f xs ≡ false → Each (λ (x : A). f x ≡ false) xs
none_each f [] e = tt
none_each f (x ∷ xs) e = let r = neither_true (f x) (any_of f xs) e in (r.0, none_each f xs r.1)

pub none-numbered : (f : ℕ → Bool) (k n : ℕ) → any_of f (up_to k n) ≡ false → (i : ℕ) → i < n → f (k + i) ≡ false
none-numbered f k zero e i h = let no : ⊥ = omega arith in absurd no
none-numbered f k (suc n) e zero h = ap f (add-zero k) ∙ (neither_true (f k) (any_of f (up_to (suc k) n)) e).0
none-numbered f k (suc n) e (suc i) h = ap f (let same : k + suc i ≡ suc k + i = omega arith in same) ∙ none-numbered f (suc k) n (neither_true (f k) (any_of f (up_to (suc k) n)) e).1 i (omega arith)
