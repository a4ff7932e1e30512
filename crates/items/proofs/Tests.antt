-- Tests that are each other's opposite, over several parts and over lists.
use Prim.Native.Nat.{ℕ, zero, suc}
use mathlib.Core.Path.{◌≡◌, refl, sym, ap, ◌∙◌}
use mathlib.Core.Bool.{Bool, true, false, not, ◌&&◌, ◌||◌, or_assoc, not-not}
use mathlib.Core.List.{List, [], ◌∷◌, ◌++◌, map}
use lib.ListN.{get_or}
use lib.Dec.{leb, ltb}
use borrow.Author.Tests.{ltb-true, leb-false, lt-ltb, lt-leb}
use Rattle.basics.specs.Bools.{both_true, neither_true}
use Rattle.rules.specs.Lists.{all_of, any_of, joined}
use Rattle.rules.proofs.Lists.Members.{In, here, there}

pub opposite : (a b : Bool) → (a ≡ false → b ≡ true) → (b ≡ true → a ≡ false) → a ≡ not b
opposite false b f g = sym (ap not (f refl))
opposite true true f g = g refl
opposite true false f g = refl

pub not_above : (a b : ℕ) → leb a b ≡ not (ltb b a)
not_above a b = opposite (leb a b) (ltb b a) (λ e. lt-ltb b a (leb-false a b e)) (λ e. lt-leb a b (ltb-true b a e))

pub above : (a b : ℕ) → ltb b a ≡ not (leb a b)
above a b = sym (not-not (ltb b a)) ∙ ap not (sym (not_above a b))

-- Tests joined by && are true together, tests joined by || false together.
abbrev pub and_from : Bool → List Bool → Bool
and_from a [] = a
and_from a (b ∷ bs) = and_from (a && b) bs

abbrev pub or_from : Bool → List Bool → Bool
or_from a [] = a
or_from a (b ∷ bs) = or_from (a || b) bs

abbrev pub Each : Bool → Bool → List Bool → Type 0
Each v a [] = a ≡ v
Each v a (b ∷ bs) = (a ≡ v) × Each v b bs

all_split : (a b : Bool) (bs : List Bool) → Each true (a && b) bs → Each true a (b ∷ bs)
all_split a b [] e = both_true a b e
all_split a b (c ∷ bs) (e, rest) = let (x, y) = both_true a b e in (x, (y, rest))

pub all_true : (a : Bool) (bs : List Bool) → and_from a bs ≡ true → Each true a bs
all_true a [] e = e
all_true a (b ∷ bs) e = all_split a b bs (all_true (a && b) bs e)

none_split : (a b : Bool) (bs : List Bool) → Each false (a || b) bs → Each false a (b ∷ bs)
none_split a b [] e = neither_true a b e
none_split a b (c ∷ bs) (e, rest) = let (x, y) = neither_true a b e in (x, (y, rest))

none_join : (a b : Bool) (bs : List Bool) → Each false a (b ∷ bs) → Each false (a || b) bs
none_join a b [] (x, y) = rw (x, y)
none_join a b (c ∷ bs) (x, (y, rest)) = (rw (x, y), rest)

pub all_false : (a : Bool) (bs : List Bool) → or_from a bs ≡ false → Each false a bs
all_false a [] e = e
all_false a (b ∷ bs) e = none_split a b bs (all_false (a || b) bs e)

pub false_all : (a : Bool) (bs : List Bool) → Each false a bs → or_from a bs ≡ false
false_all a [] e = e
false_all a (b ∷ bs) e = false_all (a || b) bs (none_join a b bs e)

-- The same of each member of a list.
module _ {A : Type 0} where
  pub each_all : (f : A → Bool) (xs : List A) → ((x : A) → In x xs → f x ≡ true) → all_of f xs ≡ true
  each_all f [] h = refl
  each_all f (x ∷ xs) h = rw (h x here, each_all f xs (λ y i. h y (there i)))

  -- And of what stands at a place, if it holds of what stands for none.
  pub all_at : (f : A → Bool) (xs : List A) (i : ℕ) (d : A) → f d ≡ true → all_of f xs ≡ true → f (get_or xs i d) ≡ true
  all_at f [] i d h e = h
  all_at f (x ∷ xs) zero d h e = (both_true (f x) (all_of f xs) e).0
  all_at f (x ∷ xs) (suc i) d h e = all_at f xs i d h (both_true (f x) (all_of f xs) e).1

  pub each_none : (f : A → Bool) (xs : List A) → ((x : A) → In x xs → f x ≡ false) → any_of f xs ≡ false
  each_none f [] h = refl
  each_none f (x ∷ xs) h = rw (h x here, each_none f xs (λ y i. h y (there i)))

  pub any_opposite : (f g : A → Bool) (xs : List A) → ((x : A) → In x xs → f x ≡ not (g x)) → any_of f xs ≡ not (all_of g xs)
  any_opposite f g [] h = refl
  any_opposite f g (x ∷ xs) h = ap (λ (t : Bool). t || any_of f xs) (h x here) ∙ ap (λ (t : Bool). not (g x) || t) (any_opposite f g xs (λ y i. h y (there i))) ∙ one (g x) (all_of g xs)
    where
      one : (a b : Bool) → (not a || not b) ≡ not (a && b)
      one true b = refl
      one false b = refl

  pub any_append : (f : A → Bool) (xs ys : List A) → any_of f (xs ++ ys) ≡ (any_of f xs || any_of f ys)
  any_append f [] ys = refl
  any_append f (x ∷ xs) ys = ap (λ (t : Bool). f x || t) (any_append f xs ys) ∙ sym (or_assoc (f x) (any_of f xs) (any_of f ys))

module _ {A B : Type 0} (f : B → Bool) where
  pub any_map : (g : A → B) (xs : List A) → any_of f (map g xs) ≡ any_of (λ (x : A). f (g x)) xs
  any_map g [] = refl
  any_map g (x ∷ xs) = ap (λ (t : Bool). f (g x) || t) (any_map g xs)

  pub any_joined : (g : A → List B) (xs : List A) → any_of f (joined (map g xs)) ≡ any_of (λ (x : A). any_of f (g x)) xs
  any_joined g [] = refl
  any_joined g (x ∷ xs) = any_append f (g x) (joined (map g xs)) ∙ ap (λ (t : Bool). any_of f (g x) || t) (any_joined g xs)
