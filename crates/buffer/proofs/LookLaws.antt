-- Lookups among a plan's channels, one channel at a time.
use Prim.Native.Nat.{ℕ, suc, ◌+◌, ◌≤◌, ◌<◌}
use mathlib.Core.Path.{◌≡◌, refl, sym, ap, ◌∙◌}
use mathlib.Core.Bool.{Bool, true, false, cond, ◌&&◌, and-false, true≢false}
use mathlib.Core.List.{List, [], ◌∷◌}
use mathlib.Core.Option.{Option, none, some}
use native.Mathlib.Nat.{add-zero}
use native.Mathlib.Numerals.{add-one}
use native.Mathlib.Omega.{arith}
use lib.Dec.{eqb}
use lib.ListN.{length, get_or, drop, drop_of_length-le}
use lib.Seq.{drop-cons}
use Rattle.plan.specs.declared.Channel.{Channel}
use Rattle.plan.specs.Plan.{Plan, plan_of, plan_channels, channel_from, channel_at, channel_count, no_channel, keep_if, numbers_from}
use Rattle.plan.proofs.ReadLaws.{channel-at}
use Rattle.rules.proofs.Lists.Options.{none_some, some_same}
use Rattle.items.specs.Items.{from_sender, place_from}

-- Those of the channels from b on that pass a test.
abbrev pub numbers_on : Plan → (Channel → Bool) → ℕ → List ℕ
numbers_on p f b = numbers_from b f (drop b p.channels)

module _ (p : Plan) (f : Channel → Bool) (b : ℕ) where
  pub numbers_turn : b < channel_count p → numbers_on p f b ≡ keep_if (f (channel_at p b)) b (numbers_on p f (suc b))
  numbers_turn h = rw (drop-cons p.channels b no_channel h)

  pub numbers_end : channel_count p ≤ b → numbers_on p f b ≡ []
  numbers_end h = rw (drop_of_length-le p.channels h)

-- ---- the channel between two nodes

-- What is made of the channel found.
module _ (p : Plan) (q n : ℕ) (g : Option ℕ → ℕ) where
  abbrev to : Channel → Bool
  to c = eqb c.receiver n

  abbrev pub found_on : ℕ → ℕ
  found_on b = g (from_sender p q (numbers_on p (λ (c : Channel). eqb c.receiver n) b))

  found_kept : (t : Bool) (b : ℕ) (bs : List ℕ) → g (from_sender p q (keep_if t b bs)) ≡ cond (eqb (channel_at p b).sender q && t) (g (some b)) (g (from_sender p q bs))
  found_kept true b bs = one (eqb (channel_at p b).sender q)
    where
      one : (t : Bool) → g (elim t [ true ↦ some b | false ↦ from_sender p q bs ]) ≡ cond (t && true) (g (some b)) (g (from_sender p q bs))
      one true = refl
      one false = refl
  found_kept false b bs = rw (and-false (eqb (channel_at p b).sender q))

  pub found_turn : (b : ℕ) → b < channel_count p → found_on b ≡ cond (eqb (channel_at p b).sender q && eqb (channel_at p b).receiver n) (g (some b)) (found_on (suc b))
  found_turn b h = ap (λ (bs : List ℕ). g (from_sender p q bs)) (numbers_turn p to b h) ∙ found_kept (to (channel_at p b)) b (numbers_on p to (suc b))

  pub found_end : (b : ℕ) → channel_count p ≤ b → found_on b ≡ g none
  found_end b h = ap (λ (bs : List ℕ). g (from_sender p q bs)) (numbers_end p to b h)

-- ---- the place of a sender

module _ (p : Plan) (q n : ℕ) where
  abbrev enters : Channel → Bool
  enters c = eqb c.receiver n

  abbrev pub place_on : ℕ → ℕ → Option ℕ
  place_on k b = place_from p q k (numbers_on p (λ (c : Channel). eqb c.receiver n) b)

  place_cons : (u : Bool) (k b : ℕ) (bs : List ℕ) → eqb (channel_at p b).sender q ≡ u → place_from p q k (b ∷ bs) ≡ (elim u [ true ↦ some k | false ↦ place_from p q (suc k) bs ])
  place_cons u k b bs e = ap (λ (t : Bool). elim t [ true ↦ some k | false ↦ place_from p q (suc k) bs ]) e

  place_here : (k b : ℕ) (bs : List ℕ) (t u : Bool) → eqb (channel_at p b).sender q ≡ u → (u && t) ≡ true → place_from p q k (keep_if t b bs) ≡ some k
  place_here k b bs true true e h = place_cons true k b bs e
  place_here k b bs true false e h = absurd (true≢false (sym h))
  place_here k b bs false true e h = absurd (true≢false (sym h))
  place_here k b bs false false e h = absurd (true≢false (sym h))

  place_past : (k b : ℕ) (bs : List ℕ) (t u : Bool) → eqb (channel_at p b).sender q ≡ u → (u && t) ≡ false → place_from p q k (keep_if t b bs) ≡ place_from p q (k + cond t 1 0) bs
  place_past k b bs true true e h = absurd (true≢false h)
  place_past k b bs true false e h = place_cons false k b bs e ∙ ap (λ (j : ℕ). place_from p q j bs) (sym (add-one k))
  place_past k b bs false u e h = ap (λ (j : ℕ). place_from p q j bs) (sym (add-zero k))

  pub place_found : (k b : ℕ) → b < channel_count p → (eqb (channel_at p b).sender q && eqb (channel_at p b).receiver n) ≡ true → place_on k b ≡ some k
  place_found k b h e = ap (place_from p q k) (numbers_turn p enters b h) ∙ place_here k b (numbers_on p enters (suc b)) (enters (channel_at p b)) (eqb (channel_at p b).sender q) refl e

  pub place_turn : (k b : ℕ) → b < channel_count p → (eqb (channel_at p b).sender q && eqb (channel_at p b).receiver n) ≡ false → place_on k b ≡ place_on (k + cond (eqb (channel_at p b).receiver n) 1 0) (suc b)
  place_turn k b h e = ap (place_from p q k) (numbers_turn p enters b h) ∙ place_past k b (numbers_on p enters (suc b)) (enters (channel_at p b)) (eqb (channel_at p b).sender q) refl e

pub place_below : (p : Plan) (q k i : ℕ) (bs : List ℕ) → place_from p q k bs ≡ some i → i < k + length bs
place_below p q k i [] e = none_some e
place_below p q k i (b ∷ bs) e = one (eqb (channel_at p b).sender q) (λ f. place_below p q (suc k) i bs f) e
  where
    one : (t : Bool) → (place_from p q (suc k) bs ≡ some i → i < suc k + length bs) → (elim t [ true ↦ some k | false ↦ place_from p q (suc k) bs ]) ≡ some i → i < k + suc (length bs)
    one true later f = let same : k ≡ i = some_same f in omega arith
    one false later f = let l = later f in omega arith

-- ---- a channel's ends in its bytes

module _ (s : List ℕ) (b : ℕ) (h : b < plan_channels s) where
  pub sender_byte : get_or s (channel_from s b) 0 ≡ (channel_at (plan_of s) b).sender
  sender_byte = ap (λ (c : Channel). c.sender) (sym (channel-at s b h))

  pub receiver_byte : get_or s (channel_from s b + 1) 0 ≡ (channel_at (plan_of s) b).receiver
  receiver_byte = ap (λ (c : Channel). c.receiver) (sym (channel-at s b h))
