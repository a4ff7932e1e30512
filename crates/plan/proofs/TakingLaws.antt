-- The channels that take a record are those among the leaving ones that do; a mask's channels, asked one by one.
use Prim.Native.Nat.{ℕ, zero, suc, ◌+◌, ◌^◌, ◌≤◌, ◌<◌}
use mathlib.Core.Path.{◌≡◌, refl, sym, ap, ◌∙◌}
use mathlib.Core.Logic.{⊎_elim}
use mathlib.Core.Bool.{Bool, true, false, not, cond, ◌&&◌}
use mathlib.Core.List.{List, [], ◌∷◌}
use native.Mathlib.Nat.{add-zero, zero-add, add-suc, suc-add, lt_of_not-le}
use native.Mathlib.Omega.{arith}
use lib.Dec.{eqb}
use lib.ListN.{length, get_or}
use lib.Pow.{pow_mono}
use Rattle.basics.specs.Bools.{below_or_not}
use Rattle.plan.specs.declared.Record.{Record}
use Rattle.plan.specs.declared.Channel.{Channel}
use Rattle.plan.specs.Channel.{takes}
use Rattle.plan.specs.Plan.{Plan, plan_of, plan_channels, no_channel, keep_if, numbers_from, is_none, leaving}
use Rattle.plan.specs.Mask.{mask_of, Rising, channels_in, among, taking, takes_at, some_takes, plan_mask, TakingOf}
use Rattle.plan.proofs.MaskLaws.{rising_lower, rising_kept, mask_kept, channels_rise, channels_mask, channels_listed, bit_at_most, leaving_rise, mask_few, mask_many}

both_kept : (g h : Bool) (f : ℕ → Bool) (k : ℕ) (ks : List ℕ) → f k ≡ h → keep_if (g && h) k (among f ks) ≡ among f (keep_if g k ks)
both_kept true h f k ks e = rw e
both_kept false h f k ks e = refl

numbers_among : {A : Type 0} (g h : A → Bool) (d : A) (f : ℕ → Bool) (k : ℕ) (xs : List A) → ((j : ℕ) → j < length xs → f (k + j) ≡ h (get_or xs j d))
    → numbers_from k (λ (x : A). g x && h x) xs ≡ among f (numbers_from k g xs)
numbers_among g h d f k [] same = refl
numbers_among g h d f k (x ∷ xs) same =
    rw (numbers_among g h d f (suc k) xs (λ j l. ap f (suc-add k j ∙ sym (add-suc k j)) ∙ same (suc j) (omega arith)))
    (both_kept (g x) (h x) f k (numbers_from (suc k) g xs) (ap f (sym (add-zero k)) ∙ same zero (omega arith)))

pub taking-among : (p : Plan) (n : ℕ) (r : Record) → taking p n r ≡ among (takes_at p r) (leaving p n)
unfolding taking leaving
taking-among p n r =
    numbers_among (λ (c : Channel). eqb c.sender n) (λ (c : Channel). takes c r) no_channel (takes_at p r) 0 p.channels
    (λ j l. ap (takes_at p r) (zero-add j))

-- ---- channels, asked one by one

among_rise : (f : ℕ → Bool) (k : ℕ) (bs : List ℕ) → Rising k bs → Rising k (among f bs)
among_rise f k [] h = tt
among_rise f k (b ∷ bs) h = rising_lower k b (keep_if (f b) b (among f bs)) h.0 (rising_kept (f b) b (among f bs) (among_rise f (suc b) bs h.1))

-- Some channels of a mask are left to ask; the mask of those that passed so far.
pub record Passed (f : ℕ → Bool) (all left : List ℕ) (found : ℕ) : Type 0 where
  pub below : found + mask_of left ≤ mask_of all
  pub whole : mask_of (among f all) ≡ found + mask_of (among f left)

module _ (f : ℕ → Bool) where
  module _ (mask found b : ℕ) (left rest : List ℕ) (low : mask < 2 ^ 32) (so_far : Passed f (channels_in mask) left found) (next : left ≡ b ∷ rest) where
    pub passed_bit : (b < 32) × (found + 2 ^ b < 2 ^ 32)
    passed_bit =
        let below = rw (next, channels_mask mask low) at so_far.below in
        (lt_of_not-le (λ (k : 32 ≤ b). let p : 2 ^ 32 ≤ 2 ^ b = pow_mono k in omega arith), omega arith)

    pub passed_more : Passed f (channels_in mask) rest (found + cond (f b) (2 ^ b) 0)
    passed_more =
        let below = rw next at so_far.below in
        let whole = rw next at so_far.whole in
        record { below = omega (arith, bit_at_most (f b) (2 ^ b)); whole = omega (arith, mask_kept (f b) b (among f rest)) }

  pub passed_end : (mask found : ℕ) (left : List ℕ) → mask < 2 ^ 32 → Passed f (channels_in mask) left found → left ≡ [] → channels_in found ≡ among f (channels_in mask)
  passed_end mask found left low so_far none =
      let below = rw (none, channels_mask mask low) at so_far.below in
      let whole = rw none at so_far.whole in
      channels_listed found (omega arith) (among f (channels_in mask)) (among_rise f 0 (channels_in mask) (channels_rise mask)) (omega arith)

-- ---- masks of a plan's channels

pub mask_planned : (s : List ℕ) (mask : ℕ) (bs : List ℕ) → mask < 2 ^ 32 → (plan_channels s ≤ 24 → channels_in mask ≡ bs) → (24 < plan_channels s → channels_in mask ≡ []) → mask ≡ plan_mask s bs
mask_planned s mask bs low few many =
    sym (channels_mask mask low)
    ∙ ⊎_elim (λ k. ap mask_of (many k) ∙ sym (mask_many s k bs)) (λ k. ap mask_of (few k) ∙ sym (mask_few s k bs)) (below_or_not 24 (plan_channels s))

-- What is found is the mask of those that take the record, of whichever list the mask is.
module _ (s : List ℕ) (r : Record) (mask m : ℕ) (small : mask < 2 ^ 32) (e : m ≡ mask_of (among (takes_at (plan_of s) r) (channels_in mask))) where
  found_listed : (bs : List ℕ) → Rising 0 bs → mask ≡ mask_of bs → m ≡ mask_of (among (takes_at (plan_of s) r) bs)
  found_listed bs h q = e ∙ ap (λ (cs : List ℕ). mask_of (among (takes_at (plan_of s) r) cs)) (channels_listed mask small bs h q)

  found_planned : (bs : List ℕ) → Rising 0 bs → mask ≡ plan_mask s bs → m ≡ plan_mask s (among (takes_at (plan_of s) r) bs)
  found_planned bs h q =
      ⊎_elim (λ k. found_listed [] tt (q ∙ mask_many s k bs) ∙ sym (mask_many s k (among (takes_at (plan_of s) r) bs)))
      (λ k. found_listed bs h (q ∙ mask_few s k bs) ∙ sym (mask_few s k (among (takes_at (plan_of s) r) bs))) (below_or_not 24 (plan_channels s))

  pub taking-of : TakingOf s r mask m
  taking-of = record { is = e; listed = found_planned }

-- Of the channels that leave a node, those that take a record, and whether there is one.
module _ (s : List ℕ) (n : ℕ) (r : Record) (mask : ℕ) (e : mask ≡ plan_mask s (leaving (plan_of s) n)) where
  pub taking-listed : (m : ℕ) → TakingOf s r mask m → m ≡ plan_mask s (taking (plan_of s) n r)
  taking-listed m t = rw (taking-among (plan_of s) n r) (t.listed (leaving (plan_of s) n) (leaving_rise (plan_of s) n) e)

  pub taking_some : mask < 2 ^ 32 → plan_channels s ≤ 24 → some_takes (plan_of s) r mask ≡ not (is_none (taking (plan_of s) n r))
  taking_some small few =
      let same = channels_listed mask small (leaving (plan_of s) n) (leaving_rise (plan_of s) n) (e ∙ mask_few s few (leaving (plan_of s) n)) in
      rw (taking-among (plan_of s) n r) (ap (λ (bs : List ℕ). not (is_none (among (takes_at (plan_of s) r) bs))) same)
