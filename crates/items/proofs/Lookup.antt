-- Looking a node up among the senders of some channels, no two of which have one sender.
use Prim.Native.Nat.{ℕ, suc, ◌+◌}
use mathlib.Core.Path.{◌≡◌, refl, sym, ap, subst, ◌∙◌}
use mathlib.Core.Logic.{◌≢◌}
use mathlib.Core.Bool.{Bool, true, false, ◌&&◌, ◌||◌, or-false}
use mathlib.Core.List.{List, [], ◌∷◌, map}
use mathlib.Core.Option.{none, some}
use native.Mathlib.Omega.{arith}
use lib.ListN.{length, get_or}
use lib.Dec.{ltb, eqb}
use borrow.Author.Tests.{eqb-true, ne_eqb}
use Rattle.plan.specs.declared.Channel.{Channel}
use Rattle.plan.specs.Plan.{Plan, channel_at, entering}
use Rattle.rules.proofs.Lists.Options.{none_some, some_same}
use Rattle.rules.specs.Lists.{any_of}
use Rattle.rules.specs.Line.{made}
use Rattle.rules.specs.Damaged.{past_heard}
use Rattle.rules.proofs.Lists.Members.{In, here, there}
use Rattle.rules.proofs.Line.LanesLaws.{Rising, none, more, in_above, numbers_rise}
use Rattle.rules.proofs.Invariant.Inv.{Ordered, Enters}
use Rattle.rules.proofs.Line.Joins.{entering_in}
use Rattle.items.specs.Items.{from_sender, place_from, if_found}
use Rattle.items.proofs.Tests.{each_none}

module _ (p : Plan) where
  abbrev pub senders : List ℕ → List ℕ
  senders bs = map (λ (b : ℕ). (channel_at p b).sender) bs

  pub data Apart : List ℕ → Type 0 where
    alone : Apart []
    beside : {b : ℕ} {bs : List ℕ} → ((c : ℕ) → In c bs → (channel_at p c).sender ≢ (channel_at p b).sender) → Apart bs → Apart (b ∷ bs)

  -- Whether a node is a sender is whether it is found.
  pub sender_found : (s : ℕ) (bs : List ℕ) → any_of (λ (q : ℕ). eqb q s) (senders bs) ≡ if_found (from_sender p s bs) (λ (b : ℕ). true)
  sender_found s [] = refl
  sender_found s (b ∷ bs) = one (eqb (channel_at p b).sender s) (sender_found s bs)
    where
      one : (t : Bool) → any_of (λ (q : ℕ). eqb q s) (senders bs) ≡ if_found (from_sender p s bs) (λ (b : ℕ). true)
          → (t || any_of (λ (q : ℕ). eqb q s) (senders bs)) ≡ if_found (elim t [ true ↦ some b | false ↦ from_sender p s bs ]) (λ (b : ℕ). true)
      one true later = refl
      one false later = later

  pub sender_placed : (s k : ℕ) (bs : List ℕ) → any_of (λ (q : ℕ). eqb q s) (senders bs) ≡ if_found (place_from p s k bs) (λ (b : ℕ). true)
  sender_placed s k [] = refl
  sender_placed s k (b ∷ bs) = one (eqb (channel_at p b).sender s) (sender_placed s (suc k) bs)
    where
      one : (t : Bool) → any_of (λ (q : ℕ). eqb q s) (senders bs) ≡ if_found (place_from p s (suc k) bs) (λ (b : ℕ). true)
          → (t || any_of (λ (q : ℕ). eqb q s) (senders bs)) ≡ if_found (elim t [ true ↦ some k | false ↦ place_from p s (suc k) bs ]) (λ (b : ℕ). true)
      one true later = refl
      one false later = later

  pub found_in : (s : ℕ) (bs : List ℕ) (b : ℕ) → from_sender p s bs ≡ some b → In b bs × ((channel_at p b).sender ≡ s)
  found_in s [] b e = none_some e
  found_in s (c ∷ bs) b e = one (eqb (channel_at p c).sender s) refl (λ k. found_in s bs b k) e
    where
      one : (t : Bool) → eqb (channel_at p c).sender s ≡ t → (from_sender p s bs ≡ some b → In b bs × ((channel_at p b).sender ≡ s)) → (elim t [ true ↦ some c | false ↦ from_sender p s bs ]) ≡ some b → In b (c ∷ bs) × ((channel_at p b).sender ≡ s)
      one true q later k = let same : c ≡ b = some_same k in (subst (λ (x : ℕ). In x (c ∷ bs)) same here, subst (λ (x : ℕ). (channel_at p x).sender ≡ s) same (eqb-true (channel_at p c).sender s q))
      one false q later k = let (i, r) = later k in (there i, r)

  -- What is asked of the channels from a sender is asked of the one found.
  module _ (s : ℕ) (f : ℕ → Bool) where
    away_none : (bs : List ℕ) → ((c : ℕ) → In c bs → (channel_at p c).sender ≢ s) → any_of (λ (c : ℕ). eqb (channel_at p c).sender s && f c) bs ≡ false
    away_none bs d = each_none (λ (c : ℕ). eqb (channel_at p c).sender s && f c) bs (λ c i. rw (ne_eqb (channel_at p c).sender s (d c i)))

    pub only_found : {bs : List ℕ} (b : ℕ) → Apart bs → from_sender p s bs ≡ some b → any_of (λ (c : ℕ). eqb (channel_at p c).sender s && f c) bs ≡ f b
    only_found b alone e = none_some e
    only_found b (beside {b = c} {bs = bs} d r) e = one (eqb (channel_at p c).sender s) refl (λ k. only_found b r k) e
      where
        one : (t : Bool) → eqb (channel_at p c).sender s ≡ t → (from_sender p s bs ≡ some b → any_of (λ (c : ℕ). eqb (channel_at p c).sender s && f c) bs ≡ f b)
            → (elim t [ true ↦ some c | false ↦ from_sender p s bs ]) ≡ some b → ((t && f c) || any_of (λ (c : ℕ). eqb (channel_at p c).sender s && f c) bs) ≡ f b
        one true q later k = ap (λ (x : Bool). f c || x) (away_none bs (λ x i z. d x i (z ∙ sym (eqb-true (channel_at p c).sender s q)))) ∙ or-false (f c) ∙ ap f (some_same k)
        one false q later k = later k

  -- What was heard for a parent stands at the parent's place.
  module _ (q u : ℕ) where
    heard_away : (bs hs : List ℕ) → ((c : ℕ) → In c bs → (channel_at p c).sender ≢ q) → past_heard (senders bs) hs (made q u) ≡ false
    heard_away bs [] d = refl
    heard_away [] (h ∷ hs) d = refl
    heard_away (b ∷ bs) (h ∷ hs) d = rw (ne_eqb (channel_at p b).sender q (d b here)) (heard_away bs hs (λ c i. d c (there i)))

    pub heard_placed : (k i : ℕ) {bs : List ℕ} (hs : List ℕ) → Apart bs → length hs ≡ length bs → place_from p q k bs ≡ some i → (j : ℕ) × (i ≡ k + j) × (past_heard (senders bs) hs (made q u) ≡ ltb (get_or hs j 0) u)
    heard_placed k i hs alone long e = none_some e
    heard_placed k i [] (beside d r) long e = let no : ⊥ = omega arith in absurd no
    heard_placed k i (h ∷ hs) (beside {b = c} {bs = bs} d r) long e = one (eqb (channel_at p c).sender q) refl (λ y. heard_placed (suc k) i hs r (omega arith) y) e
      where
        one : (t : Bool) → eqb (channel_at p c).sender q ≡ t → (place_from p q (suc k) bs ≡ some i → (j : ℕ) × (i ≡ suc k + j) × (past_heard (senders bs) hs (made q u) ≡ ltb (get_or hs j 0) u))
            → (elim t [ true ↦ some k | false ↦ place_from p q (suc k) bs ]) ≡ some i
            → (j : ℕ) × (i ≡ k + j) × (((t && ltb h u) || past_heard (senders bs) hs (made q u)) ≡ ltb (get_or (h ∷ hs) j 0) u)
        one true z later y =
            let same : k ≡ i = some_same y in
            (0, omega arith, ap (λ (x : Bool). ltb h u || x) (heard_away bs hs (λ x w v. d x w (v ∙ sym (eqb-true (channel_at p c).sender q z)))) ∙ or-false (ltb h u))
        one false z later y = let (j, at, is) = later y in (suc j, omega arith, is)

-- The channels that enter a node have each another sender.
module _ (p : Plan) (ordered : Ordered p) where
  apart_rising : (n : ℕ) {k : ℕ} {bs : List ℕ} → Rising k bs → ((b : ℕ) → In b bs → Enters p n b) → Apart p bs
  apart_rising n none enters = alone
  apart_rising n (more {b = b} h r) enters =
      beside
      (λ c i q.
      (let (hc, rc) = enters c (there i) in
      let (hb, rb) = enters b here in
      let same : c ≡ b = ordered.alone c b hc hb q (rc ∙ sym rb) in
      omega (arith, in_above r i)))
      (apart_rising n r (λ c i. enters c (there i)))

  pub entering-apart : (n : ℕ) → Apart p (entering p n)
  unfolding entering
  entering-apart n = apart_rising n (numbers_rise (λ (c : Channel). eqb c.receiver n) 0 p.channels) (λ b i. entering_in p n b i)
