-- The low clock beside the clock: what the test of its words stands for.
use Prim.Native.Nat.{ℕ, zero, suc, ◌+◌, ◌*◌, ◌-◌, ◌≤◌, ◌<◌}
use mathlib.Core.Path.{◌≡◌, refl, sym, ap, ◌∙◌}
use mathlib.Core.Bool.{Bool, true, false, not, ◌&&◌, ◌||◌, and_assoc, and_comm, and-true}
use mathlib.Core.List.{List, [], ◌∷◌}
use native.Mathlib.Nat.{add-zero, zero-add}
use native.Mathlib.Omega.{arith}
use borrow.Author.Tests.{eqb-true}
use lib.Dec.{leb, ltb, eqb, leb-suc-zero, eqb-zero-suc}
use lib.ListN.{length, get_or}
use Rattle.plan.specs.Plan.{plan_of, channel_at}
use Rattle.rules.specs.Line.{Lane, lane_at}
use Rattle.rules.specs.Damaged.{low_past, low_wrong}
use Rattle.state.specs.Sizes.{block_at, taken_at, heard_at, parent_limit, low_at, low_limit}
use Rattle.state.specs.Right.{word_at}
use Rattle.state.specs.Lane.{heard_count}
use Rattle.state.specs.State.{line_of}
use Rattle.state.proofs.OffsetLaws.{line_taken, line-heard_at, line-low_at}
use Rattle.state.proofs.PlanFitting.{few_heard, heard_long, low_long}
use Rattle.items.proofs.Tests.{not_above}
use Rattle.buffer.specs.Ready.{OnChannel}
use Rattle.buffer.specs.Exact.{zero_at}
use Rattle.buffer.proofs.ReadyLaws.{counted}
use Rattle.basics.specs.Bools.{both_true}
use Rattle.channel_check.specs.Channel.{lows_within}
use Rattle.buffer.proofs.BytesLaws.{zero_parts}
use Rattle.channel_check.proofs.ChannelLaws.{word_zero}

within_none : (n : ℕ) → leb n 0 ≡ eqb 0 n
within_none zero = refl
within_none (suc n) = leb-suc-zero n ∙ sym (eqb-zero-suc n)

module _ (s : List ℕ) (a : ℕ) where
  abbrev low : ℕ → ℕ
  low i = a + (low_at + 4 * i)

  abbrev clock : ℕ → ℕ
  clock i = a + (taken_at + 4 * i)

  -- Where the clock's words from the n-th on are 0, the low clock's are to be 0.
  within_zero : (n m : ℕ) → zero_at (clock n) (4 * m) s ≡ true → lows_within s a (n + m) ≡ (lows_within s a n && zero_at (low n) (4 * m) s)
  within_zero n zero e = ap (lows_within s a) (add-zero n) ∙ sym (and-true (lows_within s a n))
  within_zero n (suc m) e =
      let last = n + m in
      let next : n + suc m ≡ suc last = omega arith in
      let more : 4 * suc m ≡ 4 * m + 4 = omega arith in
      let place : low n + 4 * m ≡ low last = omega arith in
      let clockPlace : clock n + 4 * m ≡ clock last = omega arith in
      let (before, here) = both_true (zero_at (clock n) (4 * m) s) (zero_at (clock n + 4 * m) 4 s) (sym (zero_parts (clock n) (4 * m) 4 s) ∙ rw more at e) in
      let none : 0 ≡ word_at (clock last) s = eqb-true 0 (word_at (clock last) s) (word_zero s (clock last) ∙ rw clockPlace at here) in
      rw (next, ← none, within_none (word_at (low last) s), word_zero s (low last), within_zero n m before, more, zero_parts (low n) (4 * m) 4 s, place)
      (and_assoc (lows_within s a n) (zero_at (low n) (4 * m) s) (zero_at (low last) 4 s))

  -- Numbers that stand in the two from the j-th word on.
  within_past : (j : ℕ) (ks ts : List ℕ) → length ks ≡ length ts
      → ((i : ℕ) → i < length ks → get_or ks i 0 ≡ word_at (low (j + i)) s) → ((i : ℕ) → i < length ks → get_or ts i 0 ≡ word_at (clock (j + i)) s)
      → lows_within s a (j + length ks) ≡ (lows_within s a j && not (low_past ks ts))
  within_past j [] ts e f g = ap (lows_within s a) (add-zero j) ∙ sym (and-true (lows_within s a j))
  within_past j (k ∷ ks) [] e f g = let no : ⊥ = omega arith in absurd no
  within_past j (k ∷ ks) (t ∷ ts) e f g =
      let next : j + suc (length ks) ≡ suc j + length ks = omega arith in
      let first : k ≡ word_at (low j) s = rw (add-zero j) at (f 0 (omega arith)) in
      let beside : t ≡ word_at (clock j) s = rw (add-zero j) at (g 0 (omega arith)) in
      ap (lows_within s a) next
      ∙ within_past (suc j) ks ts (omega arith) (λ i h. rw (shift i) (f (suc i) (omega arith))) (λ i h. rw (shift i) (g (suc i) (omega arith)))
      ∙ rw (← first, ← beside, not_above k t) (one (lows_within s a j) (ltb t k) (low_past ks ts))
    where
      shift : (i : ℕ) → suc j + i ≡ j + suc i
      shift i = omega arith

      one : (x y z : Bool) → ((x && not y) && not z) ≡ (x && not (y || z))
      one true true z = refl
      one true false z = refl
      one false y z = refl

module _ (s : List ℕ) (b heard : ℕ) (on : OnChannel s b) (many : heard ≡ heard_count (plan_of s) (channel_at (plan_of s) b)) where
  abbrev lane : Lane
  lane = lane_at (line_of s) b

  few : heard ≤ parent_limit
  few = rw many (few_heard s on.ready.fits b on.below)

  low_counted : length lane.low ≡ suc heard
  low_counted = low_long s on.ready.fits b on.below ∙ ap suc (sym many)

  clock_word : (i : ℕ) → i < suc heard → get_or (lane.taken ∷ lane.heard) i 0 ≡ word_at (block_at b + (taken_at + 4 * i)) s
  clock_word zero h = line_taken s (counted on.ready) b on.below
  clock_word (suc i) h =
      let place : heard_at + 4 * i ≡ taken_at + 4 * suc i = omega arith in
      line-heard_at s (counted on.ready) b on.below i (omega (arith, many)) (omega (arith, few)) ∙ ap (λ (k : ℕ). word_at (block_at b + k) s) place

  low_right : lows_within s (block_at b) (suc heard) ≡ not (low_wrong lane)
  unfolding low_wrong
  low_right =
      let long : length lane.heard ≡ heard = heard_long s on.ready.fits b on.below ∙ sym many in
      ap (lows_within s (block_at b)) (sym (zero-add (length lane.low) ∙ low_counted))
      ∙ within_past s (block_at b) 0 lane.low (lane.taken ∷ lane.heard) (omega (arith, low_counted, long))
      (λ i h. rw (zero-add i) (line-low_at s (counted on.ready) b on.below i (omega (arith, low_counted, many)) (omega (arith, low_counted, few)))) (λ i h. rw (zero-add i) (clock_word i (omega (arith, low_counted))))

  -- The low clock is right, where the clock's unused words are 0.
  pub low_tested : zero_at (block_at b + heard_at + 4 * heard) (4 * (parent_limit - heard)) s ≡ true
      → lows_within s (block_at b) low_limit ≡ (zero_at (block_at b + low_at + 4 + 4 * heard) (4 * (parent_limit - heard)) s && not (low_wrong lane))
  low_tested e =
      let all : low_limit ≡ suc heard + (parent_limit - heard) = omega (arith, few) in
      let clock : block_at b + heard_at + 4 * heard ≡ block_at b + (taken_at + 4 * suc heard) = omega arith in
      let low : block_at b + (low_at + 4 * suc heard) ≡ block_at b + low_at + 4 + 4 * heard = omega arith in
      ap (lows_within s (block_at b)) all
      ∙ within_zero s (block_at b) (suc heard) (parent_limit - heard) (rw clock at e)
      ∙ rw (low_right, low) (and_comm (not (low_wrong lane)) (zero_at (block_at b + low_at + 4 + 4 * heard) (4 * (parent_limit - heard)) s))
