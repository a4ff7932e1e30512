-- Lists in slots: what is asked of each slot's bytes and of what stands in it, in one pass.
use Prim.Native.Nat.{ℕ, zero, suc, ◌+◌, ◌*◌, ◌-◌, ◌≤◌, ◌<◌}
use mathlib.Core.Path.{◌≡◌, refl, sym, ap, ◌∙◌}
use mathlib.Core.Bool.{Bool, true, false, ◌&&◌, and_assoc}
use mathlib.Core.List.{List, [], ◌∷◌}
use native.Mathlib.Nat.{add-zero, mul-zero, mul-suc, sub-zero}
use native.Mathlib.Numerals.{add-one}
use native.Mathlib.Omega.{arith}
use lib.ListN.{length, get_or}
use Rattle.rules.specs.Lists.{all_of, up_to}
use Rattle.buffer.specs.Exact.{slots_exact}
use Rattle.node_check.specs.NodeCheck.{slots_pass}

pub swap_middle : (a b c d : Bool) → ((a && b) && (c && d)) ≡ ((a && c) && (b && d))
swap_middle true true c d = refl
swap_middle true false true d = refl
swap_middle true false false d = refl
swap_middle false b c d = refl

-- What stands in so many slots.
abbrev pub slots_in : {A : Type 0} → (ℕ → List ℕ → A) → ℕ → ℕ → ℕ → List ℕ → List A
slots_in item size a zero s = []
slots_in item size a (suc k) s = item a s ∷ slots_in item size (a + size) k s

-- A test of each in turn, that goes by what came before.
abbrev pub passes : {A S : Type 0} → (S → A → Bool) → (S → A → S) → S → List A → Bool
passes test next st [] = true
passes test next st (x ∷ xs) = test st x && passes test next (next st x) xs

-- Slots by their numbers: where the k-th from an offset on stands, and behind it.
next_slot : (a size k : ℕ) → a + size * suc k ≡ a + size * k + size
next_slot a size k = rw (mul-suc size k) (omega arith)

first_slot : (a size : ℕ) → a + size * 0 ≡ a
first_slot a size = ap (λ (x : ℕ). a + x) (mul-zero size) ∙ add-zero a

module _ {A : Type 0} (item : ℕ → List ℕ → A) (size : ℕ) (s : List ℕ) where
  pub length-slots : (a k : ℕ) → length (slots_in item size a k s) ≡ k
  length-slots a zero = refl
  length-slots a (suc k) = ap suc (length-slots (a + size) k)

  pub slots_at : (d : A) (a k i : ℕ) → i < k → get_or (slots_in item size a k s) i d ≡ item (a + size * i) s
  slots_at d a zero i h = let no : ⊥ = omega arith in absurd no
  slots_at d a (suc k) zero h = ap (λ (x : ℕ). item x s) (sym (first_slot a size))
  slots_at d a (suc k) (suc i) h = slots_at d (a + size) k i (omega arith) ∙ ap (λ (x : ℕ). item x s) (next i)
    where
      next : (i : ℕ) → a + size + size * i ≡ a + size * suc i
      next i = rw (mul-suc size i) (omega arith)

  -- A test of each slot by its number, against what stands in them.
  module _ (test : A → Bool) where
    each_from : (a k n : ℕ) → all_of (λ i. test (item (a + size * i) s)) (up_to k n) ≡ all_of test (slots_in item size (a + size * k) n s)
    each_from a k zero = refl
    each_from a k (suc n) =
        ap (λ (t : Bool). test (item (a + size * k) s) && t)
        (each_from a (suc k) n ∙ ap (λ (x : ℕ). all_of test (slots_in item size x n s)) (next_slot a size k))

    pub each_slot : (a n : ℕ) → all_of (λ i. test (item (a + size * i) s)) (up_to 0 n) ≡ all_of test (slots_in item size a n s)
    each_slot a n = each_from a 0 n ∙ ap (λ (x : ℕ). all_of test (slots_in item size x n s)) (first_slot a size)

    -- The same, with its bytes.
    module _ (exact : ℕ → List ℕ → Bool) where
      exact_from : (a k n : ℕ) → all_of (λ i. exact (a + size * i) s && test (item (a + size * i) s)) (up_to k n) ≡ (slots_exact exact size (a + size * k) n s && all_of test (slots_in item size (a + size * k) n s))
      exact_from a k zero = refl
      exact_from a k (suc n) =
          let here = a + size * k in
          ap (λ (t : Bool). (exact here s && test (item here s)) && t)
          (exact_from a (suc k) n ∙ ap (λ (x : ℕ). slots_exact exact size x n s && all_of test (slots_in item size x n s)) (next_slot a size k))
          ∙ swap_middle (exact here s) (test (item here s)) (slots_exact exact size (here + size) n s) (all_of test (slots_in item size (here + size) n s))

      pub exact_slot : (a n : ℕ) → all_of (λ i. exact (a + size * i) s && test (item (a + size * i) s)) (up_to 0 n) ≡ (slots_exact exact size a n s && all_of test (slots_in item size a n s))
      exact_slot a n = exact_from a 0 n ∙ ap (λ (x : ℕ). slots_exact exact size x n s && all_of test (slots_in item size x n s)) (first_slot a size)

  module _ {S : Type 0} (exact : ℕ → List ℕ → Bool) (test : S → A → Bool) (next : S → A → S) where
    abbrev pass : S → ℕ → ℕ → Bool
    pass st a k = slots_pass item size s exact test next st a k

    pub slots_pass_lem : (st : S) (a k : ℕ) → pass st a k ≡ (slots_exact exact size a k s && passes test next st (slots_in item size a k s))
    slots_pass_lem st a zero = refl
    slots_pass_lem st a (suc k) =
        let x = item a s in
        ap (λ (t : Bool). (exact a s && test st x) && t) (slots_pass_lem (next st x) (a + size) k)
        ∙ swap_middle (exact a s) (test st x) (slots_exact exact size (a + size) k s) (passes test next (next st x) (slots_in item size (a + size) k s))

    pub pass_more : (ok : Bool) (st : S) (a k : ℕ) → (ok && pass st a (suc k)) ≡ ((ok && (exact a s && test st (item a s))) && pass (next st (item a s)) (a + size) k)
    pass_more ok st a k = sym (and_assoc ok (exact a s && test st (item a s)) (pass (next st (item a s)) (a + size) k))

-- A pass over so many slots: what is asked of all is what is asked of those from the i-th on.
pub record Going {S : Type 0} (pass : S → ℕ → ℕ → Bool) (from size count : ℕ) (whole : Bool) (st : S) (i : ℕ) : Type 0 where
  pub same : whole ≡ pass st (from + size * i) (count - i)

module _ {S : Type 0} (pass : S → ℕ → ℕ → Bool) (from size count : ℕ) where
  pub going_start : (st : S) → Going pass from size count (pass st from count) st 0
  going_start st = record { same = sym (λ j. pass st (first_slot from size j) (sub-zero count j)) }

  module _ (whole : Bool) (st : S) (i : ℕ) (g : Going pass from size count whole st i) where
    -- One slot more.
    module _ (h : i < count) where
      one_more : whole ≡ pass st (from + size * i) (suc (count - suc i))
      one_more = let more : suc (count - suc i) ≡ count - i = omega arith in g.same ∙ ap (pass st (from + size * i)) (sym more)

      pub going_wrong : pass st (from + size * i) (suc (count - suc i)) ≡ false → false ≡ whole
      going_wrong e = sym (one_more ∙ e)

      pub going_more : (after : S) → pass st (from + size * i) (suc (count - suc i)) ≡ pass after (from + size * i + size) (count - suc i) → Going pass from size count whole after (i + 1)
      going_more after e =
          let next : from + size * i + size ≡ from + size * (i + 1) = rw (add-one i) (sym (next_slot from size i)) in
          let left : count - suc i ≡ count - (i + 1) = omega arith in
          record { same = one_more ∙ e ∙ (λ j. pass after (next j) (left j)) }

    pub going_end : count ≤ i → pass st (from + size * i) 0 ≡ true → true ≡ whole
    going_end h e = let none : 0 ≡ count - i = omega arith in sym (g.same ∙ ap (pass st (from + size * i)) (sym none) ∙ e)
