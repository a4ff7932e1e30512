-- Lists whose times rise strictly: cut at a time, joined, under a selection and under a map.
use Prim.Native.Nat.{ℕ, max, ◌<◌, ◌≤◌}
use mathlib.Core.Path.{◌≡◌, refl, sym, ap, ◌∙◌}
use mathlib.Core.Bool.{Bool, true, false, true≢false}
use mathlib.Core.List.{List, [], ◌∷◌, ◌++◌, map}
use native.Mathlib.Omega.{arith}
use native.Mathlib.Decide.{dec_le}
use lib.Dec.{leb, ltb}
use borrow.Author.Tests.{lt-ltb, le-ltb, le-leb, lt-leb, leb-true, ltb-true}
use Rattle.rules.specs.Lists.{keep, keep_one}
use Rattle.rules.proofs.Lists.ListLaws.{keep_append, keep_swap, keep_wider, nil_right}

module _ {A : Type 0} (time : A → ℕ) where
  -- Those with a time at most k, and those with one above k.
  abbrev pub until : ℕ → List A → List A
  until k xs = keep (λ (x : A). leb (time x) k) xs

  abbrev pub past : ℕ → List A → List A
  past k xs = keep (λ (x : A). ltb k (time x)) xs

  -- Times rise strictly from above a number.
  pub data Rises : ℕ → List A → Type 0 where
    none : {above : ℕ} → Rises above []
    more : {above : ℕ} {x : A} {xs : List A} → above < time x → Rises (time x) xs → Rises above (x ∷ xs)

  -- Every time is at most a number.
  pub data Within (k : ℕ) : List A → Type 0 where
    none_in : Within k []
    more_in : {x : A} {xs : List A} → time x ≤ k → Within k xs → Within k (x ∷ xs)

  pub rises_lower : {a b : ℕ} {xs : List A} → b ≤ a → Rises a xs → Rises b xs
  rises_lower l none = none
  rises_lower {b = b} l (more {x = x} h r) = more {above = b} {x = x} (omega arith) r

  pub within_higher : {j k : ℕ} {xs : List A} → j ≤ k → Within j xs → Within k xs
  within_higher l none_in = none_in
  within_higher l (more_in {x = x} h w) = more_in {x = x} (omega arith) (within_higher l w)

  -- What rises from k on lies past k.
  pub past_all : {k : ℕ} (a : ℕ) {xs : List A} → k ≤ a → Rises a xs → past k xs ≡ xs
  past_all a l none = refl
  past_all {k} a l (more {x = x} {xs = xs} h r) = rw (lt-ltb k (time x) (omega arith)) (ap (λ (ys : List A). x ∷ ys) (past_all (time x) (omega arith) r))

  pub until_none : {k : ℕ} (a : ℕ) {xs : List A} → k ≤ a → Rises a xs → until k xs ≡ []
  until_none a l none = refl
  until_none {k} a l (more {x = x} {xs = xs} h r) = rw (lt-leb (time x) k (omega arith)) (until_none (time x) (omega arith) r)

  pub until_all : {k : ℕ} {xs : List A} → Within k xs → until k xs ≡ xs
  until_all none_in = refl
  until_all {k} (more_in {x = x} h w) = rw (le-leb (time x) k h) (ap (λ (ys : List A). x ∷ ys) (until_all w))

  pub past_none : {k : ℕ} {xs : List A} → Within k xs → past k xs ≡ []
  past_none none_in = refl
  past_none {k} (more_in {x = x} h w) = rw (le-ltb k (time x) h) (past_none w)

  -- A rising list is what lies up to k and then what lies past it.
  pub cut_at : (k : ℕ) {a : ℕ} {xs : List A} → Rises a xs → xs ≡ until k xs ++ past k xs
  cut_at k none = refl
  cut_at k (more {x = x} {xs = xs} h r) =
      elim (dec_le (time x) k) [
        | yes l ↦ rw (le-leb (time x) k l, le-ltb k (time x) l) (ap (λ (ys : List A). x ∷ ys) (cut_at k r))
        | no g ↦ rw (lt-leb (time x) k (omega arith), lt-ltb k (time x) (omega arith), until_none {k = k} (time x) (omega arith) r, past_all {k = k} (time x) (omega arith) r)
      ]

  pub rises_past : (k : ℕ) {a : ℕ} {xs : List A} → Rises a xs → Rises k (past k xs)
  rises_past k none = none
  rises_past k (more {x = x} {xs = xs} h r) =
      elim (dec_le (time x) k) [
        | yes l ↦ rw (le-ltb k (time x) l) (rises_past k r)
        | no g ↦ rw (lt-ltb k (time x) (omega arith), past_all {k = k} (time x) (omega arith) r) (more {above = k} {x = x} (omega arith) r)
      ]

  pub within_until : (k : ℕ) (xs : List A) → Within k (until k xs)
  within_until k [] = none_in
  within_until k (x ∷ xs) =
      elim (dec_le (time x) k) [
        | yes l ↦ rw (le-leb (time x) k l) (more_in l (within_until k xs))
        | no g ↦ rw (lt-leb (time x) k (omega arith)) (within_until k xs)
      ]

  first_of : {k : ℕ} {x : A} {xs : List A} → Rises k (x ∷ xs) → (k < time x) × Rises (time x) xs
  first_of (more h r) = (h, r)

  module _ (k : ℕ) {a : ℕ} {xs : List A} (x : A) (rest : List A) (r : Rises a xs) (e : past k xs ≡ x ∷ rest) where
    split_next : xs ≡ until k xs ++ x ∷ rest
    split_next = cut_at k r ∙ ap (λ (ys : List A). until k xs ++ ys) e

    pub next_rises : (k < time x) × Rises (time x) rest
    next_rises = first_of (rw e at (rises_past k r))

    -- The next one past k ends what lies up to its own time, and the rest lies past that.
    pub next_until : until (time x) xs ≡ until k xs ++ x ∷ []
    next_until =
        let (l, q) = next_rises in
        ap (until (time x)) split_next ∙ keep_append (λ (y : A). leb (time y) (time x)) (until k xs) (x ∷ rest)
        ∙ ap (λ (ys : List A). ys ++ until (time x) (x ∷ rest)) (until_all (within_higher (omega arith) (within_until k xs)))
        ∙ ap (λ (ys : List A). until k xs ++ ys) (ap (λ (t : Bool). keep_one t x (until (time x) rest)) (le-leb (time x) (time x) (omega arith)) ∙ ap (λ (ys : List A). x ∷ ys) (until_none (time x) (omega arith) q))

    pub next_past : past (time x) xs ≡ rest
    next_past =
        let (l, q) = next_rises in
        ap (past (time x)) split_next ∙ keep_append (λ (y : A). ltb (time x) (time y)) (until k xs) (x ∷ rest)
        ∙ ap (λ (ys : List A). ys ++ past (time x) (x ∷ rest)) (past_none (within_higher (omega arith) (within_until k xs)))
        ∙ ap (λ (t : Bool). keep_one t x (past (time x) rest)) (le-ltb (time x) (time x) (omega arith)) ∙ past_all (time x) (omega arith) q

  -- One list behind another, later than it, or one more.
  pub rises-append : {a j : ℕ} {xs ys : List A} → a ≤ j → Rises a xs → Within j xs → Rises j ys → Rises a (xs ++ ys)
  rises-append h none none_in s = rises_lower h s
  rises-append h (more {x = x} k r) (more_in i w) s = more {x = x} k (rises-append i r w s)

  pub within-append : {k : ℕ} {xs ys : List A} → Within k xs → Within k ys → Within k (xs ++ ys)
  within-append none_in v = v
  within-append (more_in h w) v = more_in h (within-append w v)

  pub rises_snoc : {a k : ℕ} {xs : List A} (x : A) → a < time x → Within k xs → k < time x → Rises a xs → Rises a (xs ++ x ∷ [])
  rises_snoc {a} {k} x l w m r = rises-append {j = max a k} (omega arith) r (within_higher (omega arith) w) (more {x = x} (omega arith) none)

  pub within_snoc : {k : ℕ} {xs : List A} (x : A) → time x ≤ k → Within k xs → Within k (xs ++ x ∷ [])
  within_snoc x l w = within-append w (more_in {x = x} l none_in)

  pub until_snoc : {j : ℕ} (xs : List A) (x : A) → j < time x → until j (xs ++ x ∷ []) ≡ until j xs
  until_snoc {j} xs x l = keep_append (λ (y : A). leb (time y) j) xs (x ∷ []) ∙ ap (λ (t : Bool). until j xs ++ keep_one t x []) (lt-leb (time x) j l) ∙ nil_right (until j xs)

  pub past_snoc : {j : ℕ} (xs : List A) (x : A) → j < time x → past j (xs ++ x ∷ []) ≡ past j xs ++ x ∷ []
  past_snoc {j} xs x l = keep_append (λ (y : A). ltb j (time y)) xs (x ∷ []) ∙ ap (λ (t : Bool). past j xs ++ keep_one t x []) (lt-ltb j (time x) l)

  -- What lies past two times lies past the later one, and what lies up to two up to the earlier one.
  pub past_past : (j k : ℕ) → j ≤ k → (xs : List A) → past k (past j xs) ≡ past k xs
  past_past j k h xs = keep_wider (λ (x : A). ltb k (time x)) (λ (x : A). ltb j (time x)) (λ x e. lt-ltb j (time x) (omega (arith, ltb-true k (time x) e))) xs

  pub until_until : (j k : ℕ) → j ≤ k → (xs : List A) → until j (until k xs) ≡ until j xs
  until_until j k h xs = keep_wider (λ (x : A). leb (time x) j) (λ (x : A). leb (time x) k) (λ x e. le-leb (time x) k (omega (arith, leb-true (time x) j e))) xs

  pub within_first : {k : ℕ} {x : A} {xs : List A} → Within k (x ∷ xs) → (time x ≤ k) × Within k xs
  within_first (more_in h w) = (h, w)

  -- Under a selection.
  pub rises_one : {a : ℕ} (t : Bool) {x : A} {xs : List A} → a < time x → Rises (time x) xs → Rises a (keep_one t x xs)
  rises_one true {x} h r = more {x = x} h r
  rises_one false {x} h r = rises_lower (omega arith) r

  pub rises_rest : {a : ℕ} (t : Bool) (x : A) (xs : List A) → Rises a (keep_one t x xs) → Rises a xs
  rises_rest true x xs (more h r) = rises_lower (omega arith) r
  rises_rest false x xs r = r

  pub rises-after : {a : ℕ} (t : Bool) (x : A) (xs : List A) → t ≡ true → Rises a (keep_one t x xs) → Rises (time x) xs
  rises-after true x xs e (more h r) = r
  rises-after false x xs e r = absurd (true≢false (sym e))

  module _ (f : A → Bool) where
    pub rises-keep : {a : ℕ} {xs : List A} → Rises a xs → Rises a (keep f xs)
    rises-keep none = none
    rises-keep (more {x = x} h r) = rises_one (f x) h (rises-keep r)

    pub within-keep : {k : ℕ} {xs : List A} → Within k xs → Within k (keep f xs)
    within-keep none_in = none_in
    within-keep {k} (more_in {x = x} {xs = xs} h w) = one (f x) (within-keep w)
      where
        one : (t : Bool) → Within k (keep f xs) → Within k (keep_one t x (keep f xs))
        one true v = more_in {x = x} h v
        one false v = v

    -- The first that a test passes in a rising list: it lies past the list's bound, alone up to its own time, and the others lie past that.
    module _ {a : ℕ} {xs : List A} (x : A) (rest : List A) (r : Rises a xs) (e : keep f xs ≡ x ∷ rest) where
      kept_rises : (a < time x) × Rises (time x) rest
      kept_rises = first_of (rw e at (rises-keep r))

      pub first_above : a < time x
      first_above = kept_rises.0

      pub first_until : keep f (until (time x) xs) ≡ x ∷ []
      first_until =
          keep_swap f (λ (y : A). leb (time y) (time x)) xs ∙ ap (until (time x)) e
          ∙ ap (λ (t : Bool). keep_one t x (until (time x) rest)) (le-leb (time x) (time x) (omega arith))
          ∙ ap (λ (ys : List A). x ∷ ys) (until_none (time x) (omega arith) kept_rises.1)

      pub first_past : keep f (past (time x) xs) ≡ rest
      first_past =
          keep_swap f (λ (y : A). ltb (time x) (time y)) xs ∙ ap (past (time x)) e
          ∙ ap (λ (t : Bool). keep_one t x (past (time x) rest)) (le-ltb (time x) (time x) (omega arith))
          ∙ past_all (time x) (omega arith) kept_rises.1

  pub within_past : (k : ℕ) {j : ℕ} {xs : List A} → Within j xs → Within j (past k xs)
  within_past k w = within-keep (λ (x : A). ltb k (time x)) w

-- Under a map.
module _ {A B : Type 0} (f : A → B) (time : B → ℕ) where
  pub rises-map : {a : ℕ} {xs : List A} → Rises (λ (x : A). time (f x)) a xs → Rises time a (map f xs)
  rises-map none = none
  rises-map (more {x = x} h r) = more {x = f x} h (rises-map r)

  pub within-map : {k : ℕ} {xs : List A} → Within (λ (x : A). time (f x)) k xs → Within time k (map f xs)
  within-map none_in = none_in
  within-map (more_in {x = x} h w) = more_in {x = f x} h (within-map w)
