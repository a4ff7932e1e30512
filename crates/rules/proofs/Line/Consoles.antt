-- The counts of accepted steps, one for each console.
use Prim.Native.Nat.{ℕ, zero, suc, ◌*◌, ◌<◌, ◌≤◌}
use mathlib.Core.Path.{◌≡◌, refl, sym, ◌∙◌}
use mathlib.Core.List.{List, [], ◌∷◌}
use native.Mathlib.Omega.{arith}
use native.Mathlib.Decide.{ℕ_discrete}
use lib.ListN.{length, get_or, length-set}
use lib.Seq.{set_comm, get_or-set_same, get_or-set_other}
use Rattle.basics.specs.Replicate.{replicate_default}
use Rattle.plan.specs.Layout.{sum_of}
use Rattle.rules.specs.Line.{step_limit, console_count, only_count, one_more, time_limit}

pub record CountsFit (counts : List ℕ) : Type 0 where
  pub four : length counts ≡ console_count
  pub within : (c : ℕ) → get_or counts c 0 ≤ step_limit

pub start_counts : CountsFit (only_count 0)
start_counts = record { four = refl; within = λ c. omega (arith, replicate_default {A = ℕ} 4 c 0) }

-- One more step of a console's is one more of all.
pub sum_more : (c : ℕ) (counts : List ℕ) → c < length counts → sum_of (one_more c counts) ≡ suc (sum_of counts)
sum_more c [] h = let no : ⊥ = omega arith in absurd no
sum_more zero (k ∷ ks) h = omega arith
sum_more (suc c) (k ∷ ks) h = let ih = sum_more c ks (omega arith) in omega arith

sum_most : (counts : List ℕ) → ((c : ℕ) → get_or counts c 0 ≤ step_limit) → sum_of counts ≤ step_limit * length counts
sum_most [] h = omega arith
sum_most (k ∷ ks) h = let ih = sum_most ks (λ c. h (suc c)) in omega (arith, h 0)

pub counts-most : {counts : List ℕ} → CountsFit counts → sum_of counts ≤ time_limit
counts-most {counts} f = omega (arith, sum_most counts f.within, f.four)

-- A console that has steps left.
module _ {counts : List ℕ} (f : CountsFit counts) {c : ℕ} (inside : c < console_count) (left : get_or counts c 0 < step_limit) where
  there : c < length counts
  there = rw f.four inside

  pub more_fit : CountsFit (one_more c counts)
  more_fit = record {
    four = length-set counts c (suc (get_or counts c 0)) ∙ f.four;
    within = λ d. elim (ℕ_discrete d c) [
      | yes q ↦ rw (q, get_or-set_same counts c (suc (get_or counts c 0)) 0 there) left
      | no q ↦ rw (get_or-set_other counts c d (suc (get_or counts c 0)) 0 q) (f.within d)
    ];
  }

  pub counts_rise : sum_of (one_more c counts) ≡ suc (sum_of counts)
  counts_rise = sum_more c counts there

  pub own_more : get_or (one_more c counts) c 0 ≡ suc (get_or counts c 0)
  own_more = get_or-set_same counts c (suc (get_or counts c 0)) 0 there

  -- All of them together have one left, too.
  pub counts_left : sum_of counts < time_limit
  counts_left = omega (arith, counts_rise, counts-most more_fit)

-- Two steps are counted alike in either order.
pub more_swap : (c d : ℕ) (counts : List ℕ) → one_more d (one_more c counts) ≡ one_more c (one_more d counts)
more_swap c d counts =
    elim (ℕ_discrete c d) [
      | yes q ↦ (λ i. one_more (sym q i) (one_more (q i) counts))
      | no q ↦ rw (get_or-set_other counts c d (suc (get_or counts c 0)) 0 (λ z. q (sym z)), get_or-set_other counts d c (suc (get_or counts d 0)) 0 q)
          (set_comm counts c d (suc (get_or counts c 0)) (suc (get_or counts d 0)) q)
    ]
