-- Members of lists: through tests, selections, maps and joins; two rising lists with the same members are equal.
use Prim.Native.Nat.{ℕ, zero, suc, max, ◌+◌, ◌<◌, ◌≤◌}
use mathlib.Core.Path.{◌≡◌, refl, sym, ap, subst, ◌∙◌}
use mathlib.Core.Logic.{◌⊎◌, inl, inr}
use mathlib.Core.Bool.{Bool, true, false, true≢false, ◌&&◌, ◌||◌}
use mathlib.Core.List.{List, [], ◌∷◌, ◌++◌, map}
use native.Mathlib.Omega.{arith}
use native.Mathlib.Decide.{dec_le, ℕ_discrete}
use lib.Dec.{leb}
use lib.ListN.{length, get_or, drop}
use borrow.Author.Tests.{le-leb}
use Rattle.basics.specs.Bools.{both_true, neither_true}
use Rattle.rules.specs.Lists.{keep, keep_one, is_empty, all_of, any_of, joined, greatest_of, least_of, up_to}
use Rattle.rules.proofs.Lists.Rising.{until, Rises, none, more, Within, none_in, more_in, within_until}

pub data In {A : Type 0} (x : A) : List A → Type 0 where
  here : {xs : List A} → In x (x ∷ xs)
  there : {y : A} {xs : List A} → In x xs → In x (y ∷ xs)

pub in_none : {A : Type 0} {x : A} → In x [] → ⊥
in_none = elim [ ]

pub in_first : {A : Type 0} {x y : A} {xs : List A} → In x (y ∷ xs) → (x ≡ y) ⊎ In x xs
in_first here = inl refl
in_first (there i) = inr i

-- What stands at a place, and behind one.
pub in_at : {A : Type 0} (xs : List A) (i : ℕ) (d : A) → i < length xs → In (get_or xs i d) xs
in_at [] i d h = let no : ⊥ = omega arith in absurd no
in_at (x ∷ xs) zero d h = here
in_at (x ∷ xs) (suc i) d h = there (in_at xs i d (omega arith))

pub in_drop : {A : Type 0} {x : A} (i : ℕ) (xs : List A) → In x (drop i xs) → In x xs
in_drop zero xs h = h
in_drop (suc i) [] h = h
in_drop (suc i) (y ∷ xs) h = there (in_drop i xs h)

-- A list with a member is not empty.
pub in_some : {A : Type 0} {x : A} {xs : List A} → In x xs → is_empty xs ≡ false
in_some here = refl
in_some (there i) = refl

pub some_in : {A : Type 0} (xs : List A) → is_empty xs ≡ false → (x : A) × In x xs
some_in [] e = absurd (true≢false e)
some_in (x ∷ xs) e = (x, here)

-- Through a selection.
module _ {A : Type 0} (f : A → Bool) where
  in_one : (b : Bool) {x : A} (y : A) {xs : List A} → In x xs → In x (keep_one b y xs)
  in_one true y i = there i
  in_one false y i = i

  pub in_keep : {x : A} {xs : List A} → In x xs → f x ≡ true → In x (keep f xs)
  in_keep {x} (here {xs = xs}) e = rw e here
  in_keep (there {y = y} i) e = in_one (f y) y (in_keep i e)

  pub keep_in : {x : A} (xs : List A) → In x (keep f xs) → In x xs × (f x ≡ true)
  keep_in [] i = absurd (in_none i)
  keep_in {x} (y ∷ xs) i = one (f y) refl i (λ k. keep_in xs k)
    where
      one : (b : Bool) → f y ≡ b → In x (keep_one b y (keep f xs)) → (In x (keep f xs) → In x xs × (f x ≡ true)) → In x (y ∷ xs) × (f x ≡ true)
      one true e j ih = elim (in_first j) [ inl q ↦ (subst (λ (z : A). In z (y ∷ xs)) (sym q) here, ap f q ∙ e) | inr k ↦ (there (ih k).0, (ih k).1) ]
      one false e j ih = (there (ih j).0, (ih j).1)

-- Through a map.
module _ {A B : Type 0} (f : A → B) where
  pub in_map : {x : A} {xs : List A} → In x xs → In (f x) (map f xs)
  in_map here = here
  in_map (there i) = there (in_map i)

  pub map_in : {y : B} (xs : List A) → In y (map f xs) → (x : A) × In x xs × (y ≡ f x)
  map_in [] i = absurd (in_none i)
  map_in (x ∷ xs) i = elim (in_first i) [ inl q ↦ (x, here, q) | inr k ↦ (let (z, j, e) = map_in xs k in (z, there j, e)) ]

pub map_same : {A B : Type 0} (f g : A → B) (xs : List A) → ((x : A) → In x xs → f x ≡ g x) → map f xs ≡ map g xs
map_same f g [] h = refl
map_same f g (x ∷ xs) h = ap (λ (y : _). y ∷ map f xs) (h x here) ∙ ap (λ (ys : List _). g x ∷ ys) (map_same f g xs (λ y i. h y (there i)))

-- Through a join.
pub in_left : {A : Type 0} {x : A} {xs : List A} (ys : List A) → In x xs → In x (xs ++ ys)
in_left ys here = here
in_left ys (there i) = there (in_left ys i)

pub in_right : {A : Type 0} {x : A} (xs : List A) {ys : List A} → In x ys → In x (xs ++ ys)
in_right [] i = i
in_right (y ∷ xs) i = there (in_right xs i)

pub append_in : {A : Type 0} {x : A} (xs : List A) {ys : List A} → In x (xs ++ ys) → In x xs ⊎ In x ys
append_in [] i = inr i
append_in (y ∷ xs) i = elim (in_first i) [ inl q ↦ inl (subst (λ (z : _). In z (y ∷ xs)) (sym q) here) | inr k ↦ elim (append_in xs k) [ inl j ↦ inl (there j) | inr j ↦ inr j ] ]

pub in_joined : {A : Type 0} {x : A} {xs : List A} {xss : List (List A)} → In x xs → In xs xss → In x (joined xss)
in_joined i (here {xs = rest}) = in_left (joined rest) i
in_joined i (there {y = ys} j) = in_right ys (in_joined i j)

pub joined_in : {A : Type 0} {x : A} (xss : List (List A)) → In x (joined xss) → (xs : List A) × In xs xss × In x xs
joined_in [] i = absurd (in_none i)
joined_in (xs ∷ xss) i = elim (append_in xs i) [ inl j ↦ (xs, here, j) | inr j ↦ (let (ys, k, h) = joined_in xss j in (ys, there k, h)) ]

-- A test that all pass, one that some pass, and one that none pass.
pub all_in : {A : Type 0} (f : A → Bool) {x : A} {xs : List A} → all_of f xs ≡ true → In x xs → f x ≡ true
all_in f {x = x} e (here {xs = xs}) = (both_true (f x) (all_of f xs) e).0
all_in f e (there {y = y} {xs = xs} i) = all_in f (both_true (f y) (all_of f xs) e).1 i

pub any_in : {A : Type 0} (f : A → Bool) (xs : List A) → any_of f xs ≡ true → (x : A) × In x xs × (f x ≡ true)
any_in f [] e = absurd (true≢false (sym e))
any_in {A} f (x ∷ xs) e = one (f x) refl e (λ z. any_in f xs z)
  where
    one : (t : Bool) → f x ≡ t → (t || any_of f xs) ≡ true → (any_of f xs ≡ true → (y : A) × In y xs × (f y ≡ true)) → (y : A) × In y (x ∷ xs) × (f y ≡ true)
    one true q z ih = (x, here, q)
    one false q z ih = let (y, i, k) = ih z in (y, there i, k)

pub in_any : {A : Type 0} (f : A → Bool) {x : A} {xs : List A} → In x xs → f x ≡ true → any_of f xs ≡ true
in_any f here e = rw e
in_any {A} f (there {y = y} {xs = xs} i) e = one (f y) (in_any f i e)
  where
    one : (t : Bool) → any_of f xs ≡ true → (t || any_of f xs) ≡ true
    one true q = refl
    one false q = q

pub none_any : {A : Type 0} (f : A → Bool) {x : A} {xs : List A} → any_of f xs ≡ false → In x xs → f x ≡ false
none_any f {x = x} e (here {xs = xs}) = (neither_true (f x) (any_of f xs) e).0
none_any f e (there {y = y} {xs = xs} i) = none_any f (neither_true (f y) (any_of f xs) e).1 i

pub not_all : {A : Type 0} (f : A → Bool) (xs : List A) → all_of f xs ≡ false → (x : A) × In x xs × (f x ≡ false)
not_all f [] e = absurd (true≢false e)
not_all {A} f (x ∷ xs) e = one (f x) refl e (λ z. not_all f xs z)
  where
    one : (t : Bool) → f x ≡ t → (t && all_of f xs) ≡ false → (all_of f xs ≡ false → (y : A) × In y xs × (f y ≡ false)) → (y : A) × In y (x ∷ xs) × (f y ≡ false)
    one false q z ih = (x, here, q)
    one true q z ih = let (y, i, k) = ih z in (y, there i, k)

pub all_by : {A : Type 0} (f : A → Bool) (xs : List A) → ((x : A) → In x xs → f x ≡ true) → all_of f xs ≡ true
all_by f [] h = refl
all_by f (x ∷ xs) h = rw (h x here, all_by f xs (λ y i. h y (there i)))

-- The greatest of some numbers is none below any, and one of them or 0.
pub in_greatest : {n : ℕ} {ns : List ℕ} → In n ns → n ≤ greatest_of ns
in_greatest (here {xs = ns}) = omega arith
in_greatest (there {y = m} {xs = ns} i) = let h = in_greatest i in omega arith

pub greatest_in : (ns : List ℕ) → (greatest_of ns ≡ 0) ⊎ In (greatest_of ns) ns
greatest_in [] = inl refl
greatest_in (n ∷ ns) =
    elim (dec_le (greatest_of ns) n) [
      | yes h ↦ inr (subst (λ (z : ℕ). In z (n ∷ ns)) (first h) here)
      | no h ↦ elim (greatest_in ns) [
        | inl q ↦ (let no : ⊥ = omega arith in absurd no)
        | inr i ↦ inr (subst (λ (z : ℕ). In z (n ∷ ns)) (rest h) (there i))
      ]
    ]
  where
    first : greatest_of ns ≤ n → n ≡ max n (greatest_of ns)
    first h = omega arith

    rest : ¬ (greatest_of ns ≤ n) → greatest_of ns ≡ max n (greatest_of ns)
    rest h = omega arith

pub greatest_snoc : {A : Type 0} (f : A → ℕ) (xs : List A) (x : A) → greatest_of (map f (xs ++ x ∷ [])) ≡ max (greatest_of (map f xs)) (f x)
greatest_snoc f [] x = omega arith
greatest_snoc f (y ∷ xs) x = omega (arith, greatest_snoc f xs x)

-- The least of some numbers is none above any, and none above the greatest.
pub in_least : {n : ℕ} {ns : List ℕ} → In n ns → least_of ns ≤ n
in_least {n} (here {xs = []}) = omega arith
in_least {n} (here {xs = m ∷ ns}) = omega arith
in_least (there {y = m} {xs = []} i) = absurd (in_none i)
in_least (there {y = m} {xs = k ∷ ns} i) = let h = in_least i in omega arith

pub least_greatest : (ns : List ℕ) → least_of ns ≤ greatest_of ns
least_greatest [] = omega arith
least_greatest (n ∷ ns) =
    let first : In n (n ∷ ns) = here in
    let low = in_least first in
    let high = in_greatest first in
    omega arith

pub least_above : {k : ℕ} (ns : List ℕ) → is_empty ns ≡ false → ((n : ℕ) → In n ns → k ≤ n) → k ≤ least_of ns
least_above [] e f = absurd (true≢false e)
least_above (n ∷ []) e f = f n here
least_above (n ∷ m ∷ ns) e f = let first = f n here in let rest = least_above (m ∷ ns) refl (λ x i. f x (there i)) in omega arith

-- The numbers from k on.
pub in_up_to : (k n i : ℕ) → k ≤ i → i < k + n → In i (up_to k n)
in_up_to k zero i l h = let no : ⊥ = omega arith in absurd no
in_up_to k (suc n) i l h = elim (ℕ_discrete i k) [ yes q ↦ subst (λ (x : ℕ). In i (x ∷ up_to (suc k) n)) q here | no d ↦ there (in_up_to (suc k) n i (omega arith) (omega arith)) ]

-- In lists whose times rise or lie within a bound.
module _ {A : Type 0} (time : A → ℕ) where
  pub rises_in : {a : ℕ} {x : A} {xs : List A} → Rises time a xs → In x xs → a < time x
  rises_in none i = elim i [ ]
  rises_in (more h r) here = h
  rises_in (more {x = y} h r) (there i) = let k = rises_in r i in omega arith

  pub within_in : {k : ℕ} {x : A} {xs : List A} → Within time k xs → In x xs → time x ≤ k
  within_in none_in i = elim i [ ]
  within_in (more_in h w) here = h
  within_in (more_in h w) (there i) = within_in w i

  pub within_by : {k : ℕ} (xs : List A) → ((x : A) → In x xs → time x ≤ k) → Within time k xs
  within_by [] f = none_in
  within_by (x ∷ xs) f = more_in {x = x} (f x here) (within_by xs (λ y i. f y (there i)))

  -- The one that ends what lies up to its time, where the others lie up to k, is the first past k.
  pub next_first : {k : ℕ} {x y : A} {xs : List A} → until time (time x) xs ≡ until time k xs ++ x ∷ [] → In y xs → k < time y → time x ≤ time y
  next_first {k} {x} {y} {xs} e i l =
      elim (dec_le (time x) (time y)) [
        | yes h ↦ h
        | no h ↦ elim (append_in (until time k xs) (subst (λ (ys : List A). In y ys) e (in_keep (λ (z : A). leb (time z) (time x)) i (le-leb (time y) (time x) (omega arith))))) [
          | inl j ↦ (let u = within_in (within_until time k xs) j in let no : ⊥ = omega arith in absurd no)
          | inr j ↦ elim (in_first j) [ inl q ↦ (let u = ap time q in let no : ⊥ = omega arith in absurd no) | inr z ↦ absurd (in_none z) ]
        ]
      ]

  -- In a rising list a time stands once.
  pub rises_once : {a : ℕ} {x y : A} {xs : List A} → Rises time a xs → In x xs → In y xs → time x ≡ time y → x ≡ y
  rises_once none i _ e = elim i [ ]
  rises_once (more h r) here here e = refl
  rises_once (more h r) here (there j) e = let k = rises_in r j in let no : ⊥ = omega arith in absurd no
  rises_once (more h r) (there i) here e = let k = rises_in r i in let no : ⊥ = omega arith in absurd no
  rises_once (more h r) (there i) (there j) e = rises_once r i j e

  rest_in : {x y : A} {xs ys : List A} → Rises time (time x) xs → In y xs → In y (x ∷ ys) → In y ys
  rest_in {x = x} {y = y} r i j = elim (in_first j) [ inl q ↦ (let k = rises_in r i in let e = ap time q in let no : ⊥ = omega arith in absurd no) | inr k ↦ k ]

  same_first : {a : ℕ} {x y : A} {xs ys : List A} → Rises time a (x ∷ xs) → Rises time a (y ∷ ys) → In x (y ∷ ys) → In y (x ∷ xs) → x ≡ y
  same_first {x = x} {y = y} (more h r) (more k s) i j =
      elim (in_first i) [
        | inl q ↦ q
        | inr u ↦ elim (in_first j) [
          | inl q ↦ sym q
          | inr v ↦ (let p = rises_in s u in let q = rises_in r v in let no : ⊥ = omega arith in absurd no)
        ]
      ]

  -- Two rising lists with the same members are equal.
  pub rises_same : {a : ℕ} {xs ys : List A} → Rises time a xs → Rises time a ys → ((x : A) → In x xs → In x ys) → ((y : A) → In y ys → In y xs) → xs ≡ ys
  rises_same none none f g = refl
  rises_same none (more {x = y} k s) f g = absurd (in_none (g y here))
  rises_same (more {x = x} h r) none f g = absurd (in_none (f x here))
  rises_same (more {x = x} {xs = xs} h r) (more {x = y} {xs = ys} k s) f g =
      let q : x ≡ y = same_first (more {x = x} h r) (more {x = y} k s) (f x here) (g y here) in
      let s' : Rises time (time x) ys = subst (λ (z : A). Rises time (time z) ys) (sym q) s in
      ap (λ (z : A). z ∷ xs) q ∙ ap (λ (zs : List A). y ∷ zs)
      (rises_same r s' (λ z i. rest_in r i (subst (λ (w : A). In z (w ∷ ys)) (sym q) (f z (there i)))) (λ z i. rest_in s' i (subst (λ (w : A). In z (x ∷ xs)) q (g z (there i)))))
