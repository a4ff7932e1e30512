-- Which channels enter a node, which leave it, and which of these take a record.
use Prim.Native.Nat.{ℕ, suc, ◌+◌, ◌<◌}
use mathlib.Core.Path.{◌≡◌, refl, ap, subst}
use mathlib.Core.Logic.{◌≢◌, inl, inr}
use mathlib.Core.Bool.{Bool, true, false, not, ◌&&◌}
use mathlib.Core.List.{List, [], ◌∷◌}
use native.Mathlib.Omega.{arith}
use native.Mathlib.Nat.{zero-add}
use lib.ListN.{length, get_or}
use lib.Dec.{eqb}
use borrow.Author.Tests.{eq-eqb, ne_eqb, eqb-true, not-true}
use Rattle.basics.specs.Bools.{both_true}
use Rattle.plan.specs.declared.Record.{Record}
use Rattle.plan.specs.declared.Channel.{Channel}
use Rattle.plan.specs.Channel.{takes}
use Rattle.plan.specs.Plan.{Plan, channel_at, channel_count, no_channel, entering, leaving, is_source, is_sink, numbers_from, keep_if}
use Rattle.plan.specs.Mask.{taking}
use Rattle.rules.specs.Lists.{is_empty}
use Rattle.rules.specs.Replay.{passed_on}
use Rattle.rules.proofs.Lists.Members.{In, in_none, in_first, in_some, some_in}
use Rattle.rules.proofs.Line.LanesLaws.{Rising, Away, numbers_rise, numbers_in, numbers_away}

-- A number among those of the things that pass a test is the number of such a thing.
module _ {A : Type 0} (f : A → Bool) (d : A) where
  abbrev Passes : ℕ → List A → ℕ → Type 0
  Passes k xs c = (b : ℕ) × (c ≡ k + b) × (b < length xs) × (f (get_or xs b d) ≡ true)

  next_passes : (k : ℕ) (x : A) (xs : List A) (c : ℕ) → Passes (suc k) xs c → Passes k (x ∷ xs) c
  next_passes k x xs c (b, e, h, t) = (suc b, omega arith, omega arith, t)

  in_numbers : (k : ℕ) (xs : List A) (c : ℕ) → In c (numbers_from k f xs) → Passes k xs c
  in_numbers k [] c i = absurd (in_none i)
  in_numbers k (x ∷ xs) c i = one (f x) refl i (λ j. next_passes k x xs c (in_numbers (suc k) xs c j))
    where
      one : (t : Bool) → f x ≡ t → In c (keep_if t k (numbers_from (suc k) f xs)) → (In c (numbers_from (suc k) f xs) → Passes k (x ∷ xs) c) → Passes k (x ∷ xs) c
      one true e j later = elim (in_first j) [ inl q ↦ (0, omega arith, omega arith, e) | inr r ↦ later r ]
      one false e j later = later j

  -- Counted from 0.
  pub numbered : (xs : List A) (b : ℕ) → In b (numbers_from 0 f xs) → (b < length xs) × (f (get_or xs b d) ≡ true)
  numbered xs b i =
      let (c, e, h, t) = in_numbers 0 xs b i in
      let q : c ≡ b = omega arith in
      (omega arith, subst (λ (x : ℕ). f (get_or xs x d) ≡ true) q t)

  pub in_numbered : (xs : List A) (b : ℕ) → b < length xs → f (get_or xs b d) ≡ true → In b (numbers_from 0 f xs)
  in_numbered xs b h t = subst (λ (x : ℕ). In x (numbers_from 0 f xs)) (zero-add b) (numbers_in f 0 xs d b h t)

  away_numbered : (xs : List A) (b : ℕ) → f (get_or xs b d) ≡ false → Away b (numbers_from 0 f xs)
  away_numbered xs b t = subst (λ (x : ℕ). Away x (numbers_from 0 f xs)) (zero-add b) (numbers_away f 0 xs d b t)

module _ (p : Plan) (n : ℕ) where
  pub in_leaving : (b : ℕ) → b < channel_count p → (channel_at p b).sender ≡ n → In b (leaving p n)
  unfolding leaving
  in_leaving b h e = in_numbered (λ (c : Channel). eqb c.sender n) no_channel p.channels b h (eq-eqb (channel_at p b).sender n e)

  pub leaving_in : (b : ℕ) → In b (leaving p n) → (b < channel_count p) × ((channel_at p b).sender ≡ n)
  unfolding leaving
  leaving_in b i = let (h, e) = numbered (λ (c : Channel). eqb c.sender n) no_channel p.channels b i in (h, eqb-true (channel_at p b).sender n e)

  pub in_entering : (b : ℕ) → b < channel_count p → (channel_at p b).receiver ≡ n → In b (entering p n)
  unfolding entering
  in_entering b h e = in_numbered (λ (c : Channel). eqb c.receiver n) no_channel p.channels b h (eq-eqb (channel_at p b).receiver n e)

  pub entering_in : (b : ℕ) → In b (entering p n) → (b < channel_count p) × ((channel_at p b).receiver ≡ n)
  unfolding entering
  entering_in b i = let (h, e) = numbered (λ (c : Channel). eqb c.receiver n) no_channel p.channels b i in (h, eqb-true (channel_at p b).receiver n e)

  pub away_leaving : (b : ℕ) → (channel_at p b).sender ≢ n → Away b (leaving p n)
  unfolding leaving
  away_leaving b d = away_numbered (λ (c : Channel). eqb c.sender n) no_channel p.channels b (ne_eqb (channel_at p b).sender n d)

  pub away_entering : (b : ℕ) → (channel_at p b).receiver ≢ n → Away b (entering p n)
  unfolding entering
  away_entering b d = away_numbered (λ (c : Channel). eqb c.receiver n) no_channel p.channels b (ne_eqb (channel_at p b).receiver n d)

  pub leaving_rise : Rising 0 (leaving p n)
  unfolding leaving
  leaving_rise = numbers_rise (λ (c : Channel). eqb c.sender n) 0 p.channels

  pub entering_rise : Rising 0 (entering p n)
  unfolding entering
  entering_rise = numbers_rise (λ (c : Channel). eqb c.receiver n) 0 p.channels

  -- Those that leave and take a record.
  pub in_taking : (r : Record) (b : ℕ) → b < channel_count p → (channel_at p b).sender ≡ n → takes (channel_at p b) r ≡ true → In b (taking p n r)
  unfolding taking
  in_taking r b h e t = in_numbered (λ (c : Channel). eqb c.sender n && takes c r) no_channel p.channels b h (rw (eq-eqb (channel_at p b).sender n e, t))

  pub taking_in : (r : Record) (b : ℕ) → In b (taking p n r) → (b < channel_count p) × ((channel_at p b).sender ≡ n) × (takes (channel_at p b) r ≡ true)
  unfolding taking
  taking_in r b i =
      let (h, e) = numbered (λ (c : Channel). eqb c.sender n && takes c r) no_channel p.channels b i in
      let (s, t) = both_true (eqb (channel_at p b).sender n) (takes (channel_at p b) r) e in
      (h, eqb-true (channel_at p b).sender n s, t)

  -- A record is passed on exactly if some leaving channel takes it.
  pub takes_passed : (r : Record) (b : ℕ) → b < channel_count p → (channel_at p b).sender ≡ n → takes (channel_at p b) r ≡ true → passed_on p n r ≡ true
  unfolding passed_on
  takes_passed r b h e t = ap not (in_some (in_taking r b h e t))

  pub passed_takes : (r : Record) → passed_on p n r ≡ true → (b : ℕ) × (b < channel_count p) × ((channel_at p b).sender ≡ n) × (takes (channel_at p b) r ≡ true)
  unfolding passed_on
  passed_takes r e =
      let (b, i) = some_in (taking p n r) (not-true (is_empty (taking p n r)) e) in
      let (h, s, t) = taking_in r b i in
      (b, h, s, t)

  -- A node that is no sink has a leaving channel.
  pub some_leaves : is_sink p n ≡ false → (b : ℕ) × ((b < channel_count p) × ((channel_at p b).sender ≡ n))
  unfolding is_sink
  some_leaves e = let (b, i) = some_in (leaving p n) e in (b, leaving_in b i)

-- A channel's receiver is no source.
pub no_source : (p : Plan) (b : ℕ) → b < channel_count p → is_source p (channel_at p b).receiver ≡ false
unfolding is_source
no_source p b h = in_some (in_entering p (channel_at p b).receiver b h refl)
