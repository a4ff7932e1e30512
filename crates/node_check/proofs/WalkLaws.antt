-- A test at each of so many numbers: what `all` over them answers.
use Prim.Native.Nat.{ℕ, zero, suc, ◌+◌, ◌<◌}
use mathlib.Core.Path.{◌≡◌, refl, sym, ap, subst, ◌∙◌}
use mathlib.Core.Bool.{Bool, true, false, ◌&&◌, and-false, true≢false}
use mathlib.Core.List.{List}
use native.Mathlib.Nat.{add-zero, zero-add}
use native.Mathlib.Omega.{arith}
use lib.ListN.{length, get_or}
use denote.Param.Members.{Mut}
use Rattle.std.specs.declared.option.Option.{Option}
use Rattle.std.specs.declared.ops.Range.{Range}
use Rattle.std.specs.Bool.{MatchBool}
use Rattle.std.specs.Fn.{Called}
use Rattle.std.specs.Iterator.{YieldsThen}
use Rattle.std.specs.List.{FoldsTo, AllWithin, HoldsAt, range_with_len}
use Rattle.std.specs.Option.{MatchOption}
use Rattle.std.proofs.iter.Yields.{nat_range_steps}
use Rattle.std.proofs.lemmas.Iterator.{cases_from_all, YieldsList-from_range}
use Rattle.std.proofs.lemmas.List.FromFn.{get_or-range_with_len, length-range_with_len}
use Rattle.rules.specs.Lists.{all_of, up_to}

module _ (test : ℕ → Bool) where
  each_passes : (k n : ℕ) → ((i : ℕ) → i < n → test (k + i) ≡ true) → all_of test (up_to k n) ≡ true
  each_passes k zero h = refl
  each_passes k (suc n) h =
      let here : test k ≡ true = ap test (sym (add-zero k)) ∙ h 0 (omega arith) in
      rw here (each_passes (suc k) n (λ i l. (let there : suc k + i ≡ k + suc i = omega arith in ap test there ∙ h (suc i) (omega arith))))

  one_fails : (k n i : ℕ) → i < n → test (k + i) ≡ false → all_of test (up_to k n) ≡ false
  one_fails k zero i h e = let no : ⊥ = omega arith in absurd no
  one_fails k (suc n) zero h e = rw (ap test (sym (add-zero k)) ∙ e) refl
  one_fails k (suc n) (suc i) h e =
      let there : suc k + i ≡ k + suc i = omega arith in
      ap (λ (t : Bool). test k && t) (one_fails (suc k) n i (omega arith) (ap test there ∙ e)) ∙ and-false (test k)

  pub each_of : (n : ℕ) → all_of test (up_to 0 n) ≡ true → (i : ℕ) → i < n → test i ≡ true
  each_of n e i h = go (test i) refl
    where
      go : (t : Bool) → test i ≡ t → t ≡ true
      go true f = refl
      go false f = absurd (true≢false (sym e ∙ one_fails 0 n i h (ap test (zero-add i) ∙ f)))

-- What the test says is asked of it below n alone.
module _ {F : Type 0} {g : Mut F (ℕ × Unit {0}) Bool} {s : Range ℕ} (u : Range ℕ) (f : F) (r : Bool) (test : ℕ → Bool) (n : ℕ) where
  pub all_below : (xs : List ℕ) × (o : Option ℕ) × (j : F) × YieldsThen nat_range_steps s xs o u × FoldsTo (λ p x q. Called g p (x, tt) true q) f xs j × MatchOption o (r ≡ true) (λ x. (r ≡ false) × ((h : F) × Called g j (x, tt) false h))
      → s ≡ record { start = 0; end = n } → ((x : ℕ) (t : Bool) (q : F) → Called g f (x, tt) t q → (q ≡ f) × (x < n → t ≡ test x))
      → r ≡ all_of test (up_to 0 n)
  all_below ran e says =
      by r (cases_from_all u f r (λ x. x < n → test x ≡ true) (λ x. x < n → test x ≡ false) ran (YieldsList-from_range 0 n n e (omega arith))
      (λ x q k. let h = says x true q k in (h.0, λ l. sym (h.1 l))) (λ x q k l. sym ((says x false q k).1 l)))
    where
      at : (k d : ℕ) → k < n → get_or (range_with_len 0 n) k d ≡ k
      at k d h = get_or-range_with_len 0 n k d h ∙ zero-add k

      by : (r : Bool) → MatchBool r (AllWithin (λ x. x < n → test x ≡ true) (range_with_len 0 n) 0 (length (range_with_len 0 n))) ((k : ℕ) × (k < length (range_with_len 0 n)) × HoldsAt (λ x. x < n → test x ≡ false) (range_with_len 0 n) k) → r ≡ all_of test (up_to 0 n)
      by true h = sym (each_passes test 0 n (λ i l. subst (λ x. test x ≡ true) (at i 0 l ∙ sym (zero-add i)) (h i 0 (omega arith) (omega (arith, length-range_with_len 0 n)) (omega (arith, at i 0 l)))))
      by false (k, l, h) =
          let below : k < n = omega (arith, length-range_with_len 0 n) in
          sym (one_fails test 0 n k below (subst (λ x. test x ≡ false) (at k 0 below ∙ sym (zero-add k)) (h 0 (omega (arith, at k 0 below)))))
