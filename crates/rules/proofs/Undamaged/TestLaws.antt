-- Tests over lists and tests joined by "or", taken apart and put together again.
use Prim.Native.Nat.{ℕ, zero, suc, ◌+◌, ◌<◌}
use mathlib.Core.Path.{◌≡◌, refl, sym}
use mathlib.Core.Logic.{inl, inr}
use mathlib.Core.Bool.{Bool, true, false, ◌&&◌, ◌||◌, true≢false}
use mathlib.Core.List.{List, [], ◌∷◌, map}
use native.Mathlib.Omega.{arith}
use lib.Dec.{leb, ltb}
use borrow.Author.Tests.{ltb-true, leb-true, lt-ltb, le-leb}
use Rattle.basics.specs.Bools.{both_true, neither_true}
use Rattle.rules.specs.Lists.{all_of, any_of, up_to}
use Rattle.rules.specs.Line.{Status, up, down, replay, is_replay}
use Rattle.rules.specs.Damaged.{rises, rises_to}
use Rattle.rules.proofs.Lists.Members.{In, here, there, in_none, in_first}
use Rattle.rules.proofs.Lists.Rising.{Rises, none, more, Within, none_in, more_in}

pub none_by : {A : Type 0} (f : A → Bool) (xs : List A) → ((x : A) → In x xs → f x ≡ false) → any_of f xs ≡ false
none_by f [] h = refl
none_by f (x ∷ xs) h = rw (h x here, none_by f xs (λ y i. h y (there i)))

pub any_by : {A : Type 0} (f : A → Bool) {x : A} {xs : List A} → In x xs → f x ≡ true → any_of f xs ≡ true
any_by f (here {xs = xs}) e = rw e
any_by f (there {y = y} i) e = one (f y) (any_by f i e)
  where
    one : (t : Bool) {s : Bool} → s ≡ true → (t || s) ≡ true
    one true q = refl
    one false q = q

pub up_to_in : (k n i : ℕ) → In i (up_to k n) → i < k + n
up_to_in k zero i j = absurd (in_none j)
up_to_in k (suc n) i j = elim (in_first j) [ inl q ↦ omega arith | inr r ↦ (let h = up_to_in (suc k) n i r in omega arith) ]

-- Tests joined by "or", from the left.
abbrev pub or_from : Bool → List Bool → Bool
or_from a [] = a
or_from a (b ∷ bs) = or_from (a || b) bs

abbrev pub AllFalse : List Bool → Type 0
AllFalse [] = Unit {0}
AllFalse (b ∷ bs) = (b ≡ false) × AllFalse bs

pub all_false : (a : Bool) (bs : List Bool) → or_from a bs ≡ false → (a ≡ false) × AllFalse bs
all_false a [] e = (e, tt)
all_false a (b ∷ bs) e = let (ab, rest) = all_false (a || b) bs e in let (x, y) = neither_true a b ab in (x, (y, rest))

-- "not both", taken apart by the first.
pub unless : (a b : Bool) → (a && b) ≡ false → a ≡ true → b ≡ false
unless true b e q = e
unless false b e q = absurd (true≢false (sym q))

pub by_unless : (a b : Bool) → (a ≡ true → b ≡ false) → (a && b) ≡ false
by_unless true b f = f refl
by_unless false b f = refl

-- Times that rise to a last one.
module _ {A : Type 0} (time : A → ℕ) where
  pub rises-of : (above : ℕ) (xs : List A) → rises above (map time xs) ≡ true → Rises time above xs
  rises-of above [] e = none
  rises-of above (x ∷ xs) e = let (a, b) = both_true (ltb above (time x)) (rises (time x) (map time xs)) e in more (ltb-true above (time x) a) (rises-of (time x) xs b)

  pub of-rises : {above : ℕ} {xs : List A} → Rises time above xs → rises above (map time xs) ≡ true
  of-rises none = refl
  of-rises {above} (more {x = x} h r) = rw (lt-ltb above (time x) h) (of-rises r)

  pub within_of : (last : ℕ) (xs : List A) → all_of (λ (t : ℕ). leb t last) (map time xs) ≡ true → Within time last xs
  within_of last [] e = none_in
  within_of last (x ∷ xs) e = let (a, b) = both_true (leb (time x) last) (all_of (λ (t : ℕ). leb t last) (map time xs)) e in more_in (leb-true (time x) last a) (within_of last xs b)

  pub of-within : {last : ℕ} {xs : List A} → Within time last xs → all_of (λ (t : ℕ). leb t last) (map time xs) ≡ true
  of-within none_in = refl
  of-within {last} (more_in {x = x} h w) = rw (le-leb (time x) last h) (of-within w)

  pub to_of : (above last : ℕ) (xs : List A) → rises_to above last (map time xs) ≡ true → Rises time above xs × Within time last xs
  to_of above last xs e = let (a, b) = both_true (rises above (map time xs)) (all_of (λ (t : ℕ). leb t last) (map time xs)) e in (rises-of above xs a, within_of last xs b)

  pub of_to : {above last : ℕ} {xs : List A} → Rises time above xs → Within time last xs → rises_to above last (map time xs) ≡ true
  of_to r w = rw (of-rises r, of-within w)

-- A node's status.
pub is_replay_lem : (s : Status) → is_replay s ≡ true → s ≡ replay
is_replay_lem up e = absurd (true≢false (sym e))
is_replay_lem down e = absurd (true≢false (sym e))
is_replay_lem replay e = refl
