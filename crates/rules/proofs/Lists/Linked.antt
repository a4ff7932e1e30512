-- Lists in which each member stands in a relation to all that come later.
use Prim.Native.Nat.{ℕ, ◌<◌}
use mathlib.Core.Path.{◌≡◌, refl, sym, ap, subst}
use mathlib.Core.Logic.{inl, inr}
use mathlib.Core.List.{List, [], ◌∷◌, ◌++◌, map}
use Rattle.rules.proofs.Lists.Rising.{Rises, none as no-times, more as more-times}
use Rattle.rules.proofs.Lists.Members.{In, here, there, in_none, in_first, append_in, in_map, rises_in}

pub data Linked {A : Type 0} (R : A → A → Type 0) : List A → Type 0 where
  none : Linked R []
  more : {x : A} {xs : List A} → ((y : A) → In y xs → R x y) → Linked R xs → Linked R (x ∷ xs)

pub linked_append : {A : Type 0} {R : A → A → Type 0} {xs ys : List A} → Linked R xs → Linked R ys → ((x y : A) → In x xs → In y ys → R x y) → Linked R (xs ++ ys)
linked_append none l f = l
linked_append {A} {R} {ys = ys} (more {x = x} {xs = xs} h k) l f = more both (linked_append k l (λ a b i j. f a b (there i) j))
  where
    both : (y : A) → In y (xs ++ ys) → R x y
    both y i = elim (append_in xs i) [ inl j ↦ h y j | inr j ↦ f x y here j ]

-- A relation that holds wherever another does.
pub linked_weaken : {A : Type 0} {R S : A → A → Type 0} {xs : List A} → ((x y : A) → In x xs → In y xs → R x y → S x y) → Linked R xs → Linked S xs
linked_weaken f none = none
linked_weaken f (more {x = x} h k) = more (λ y i. f x y here (there i) (h y i)) (linked_weaken (λ a b i j. f a b (there i) (there j)) k)

-- Through a map, and back.
module _ {A B : Type 0} (f : A → B) {R : B → B → Type 0} where
  pub map_linked : (xs : List A) → Linked R (map f xs) → Linked (λ (x y : A). R (f x) (f y)) xs
  map_linked [] none = none
  map_linked (x ∷ xs) (more h k) = more (λ y i. h (f y) (in_map f i)) (map_linked xs k)

-- A rising list.
pub rises_linked : {A : Type 0} (time : A → ℕ) {R : A → A → Type 0} {a : ℕ} {xs : List A} → ((x y : A) → In x xs → In y xs → time x < time y → R x y) → Rises time a xs → Linked R xs
rises_linked time f no-times = none
rises_linked time f (more-times {x = x} h r) = more (λ y i. f x y here (there i) (rises_in time r i)) (rises_linked time (λ a b i j. f a b (there i) (there j)) r)

-- A partner for each member, where each has one.
pub partners : {A B : Type 0} {P : A → B → Type 0} (xs : List A) → ((x : A) → In x xs → (b : B) × P x b) → (zs : List (A × B)) × (map (λ (z : A × B). z.0) zs ≡ xs) × ((z : A × B) → In z zs → P z.0 z.1)
partners [] f = ([], refl, λ z i. absurd (in_none i))
partners {A} {B} {P} (x ∷ xs) f =
    let (b, p) = f x here in
    let (zs, e, all) = partners xs (λ y i. f y (there i)) in
    ((x, b) ∷ zs, ap (λ (ys : List A). x ∷ ys) e, λ z i. elim (in_first i) [ inl q ↦ subst (λ (w : A × B). P w.0 w.1) (sym q) p | inr j ↦ all z j ])
