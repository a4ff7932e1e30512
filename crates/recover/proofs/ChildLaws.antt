-- The channels that leave a node, found one by one among the plan's; low and high over them.
use Prim.Native.Nat.{ℕ, suc, ◌+◌, ◌≤◌, ◌<◌, min, max}
use mathlib.Core.Path.{◌≡◌, refl, sym, ap, ◌∙◌}
use mathlib.Core.Logic.{◌≢◌}
use mathlib.Core.Bool.{Bool, true, false, cond}
use mathlib.Core.List.{List, [], ◌∷◌, ◌++◌, map}
use native.Mathlib.Nat.{add-zero}
use native.Mathlib.Numerals.{add-one}
use native.Mathlib.Omega.{arith}
use borrow.Author.Tests.{eq-eqb, ne_eqb}
use lib.Dec.{eqb}
use Rattle.std.specs.Prelude.{Option, Some, None}
use Rattle.std.specs.Option.{unwrap_or}
use lib.ListN.{length, take}
use lib.Seq.{take-suc, take_all, length-take-le}
use Rattle.plan.specs.declared.Channel.{Channel}
use Rattle.plan.specs.Plan.{Plan, plan_of, plan_channels, channel_count, channel_at, no_channel, keep_if, numbers_from, leaving}
use Rattle.plan.proofs.PlanLaws.{channel_count_lem}
use Rattle.rules.specs.Lists.{keep_one, greatest_of, least_of}
use Rattle.rules.specs.Line.{lane_at}
use Rattle.rules.specs.Recover.{child_times, low_of, high_of}
use Rattle.rules.proofs.Lists.ListLaws.{nil_right, map_more}
use Rattle.state.specs.State.{line_of}
use Rattle.state.proofs.InPlace.{line-plan}

-- ---- the plan's channels, one by one

-- Those before channel b that pass a test.
abbrev pub numbers_to : Plan → (Channel → Bool) → ℕ → List ℕ
numbers_to p f b = numbers_from 0 f (take b p.channels)

module _ {A : Type 0} (f : A → Bool) where
  kept_behind : (t : Bool) (k : ℕ) (xs ys : List ℕ) → keep_if t k (xs ++ ys) ≡ keep_if t k xs ++ ys
  kept_behind true k xs ys = refl
  kept_behind false k xs ys = refl

  numbers_snoc : (k : ℕ) (xs : List A) (x : A) → numbers_from k f (xs ++ x ∷ []) ≡ numbers_from k f xs ++ keep_one (f x) (k + length xs) []
  numbers_snoc k [] x = rw (add-zero k) (one (f x))
    where
      one : (t : Bool) → keep_if t k [] ≡ keep_one t k []
      one true = refl
      one false = refl
  numbers_snoc k (y ∷ xs) x =
      let e : suc k + length xs ≡ k + suc (length xs) = omega arith in
      ap (keep_if (f y) k) (numbers_snoc (suc k) xs x ∙ ap (λ (j : ℕ). numbers_from (suc k) f xs ++ keep_one (f x) j []) e)
      ∙ kept_behind (f y) k (numbers_from (suc k) f xs) (keep_one (f x) (k + suc (length xs)) [])

module _ (p : Plan) (f : Channel → Bool) (b : ℕ) where
  pub numbers_turn : b < channel_count p → numbers_to p f (b + 1) ≡ numbers_to p f b ++ keep_one (f (channel_at p b)) b []
  numbers_turn h =
      let e : 0 + length (take b p.channels) ≡ b = omega (arith, length-take-le b p.channels (omega arith)) in
      rw (add-one b, take-suc p.channels b no_channel h)
      (numbers_snoc f 0 (take b p.channels) (channel_at p b) ∙ ap (λ (j : ℕ). numbers_to p f b ++ keep_one (f (channel_at p b)) j []) e)

  pub numbers_whole : channel_count p ≤ b → numbers_to p f b ≡ numbers_from 0 f p.channels
  numbers_whole h = ap (numbers_from 0 f) (take_all b p.channels h)

-- The channels before b that leave a node.
abbrev pub leaving_to : Plan → ℕ → ℕ → List ℕ
leaving_to p n b = numbers_to p (λ (c : Channel). eqb c.sender n) b

pub leaving-whole : (p : Plan) (n b : ℕ) → channel_count p ≤ b → leaving_to p n b ≡ leaving p n
unfolding leaving
leaving-whole p n b h = numbers_whole p (λ (c : Channel). eqb c.sender n) b h

-- ---- low and high

pub greatest-append : (xs ys : List ℕ) → greatest_of (xs ++ ys) ≡ max (greatest_of xs) (greatest_of ys)
greatest-append [] ys = omega arith
greatest-append (x ∷ xs) ys = let h = greatest-append xs ys in omega arith

pub high_snoc : (xs : List ℕ) (t : Bool) (x : ℕ) → greatest_of (xs ++ keep_one t x []) ≡ cond t (max (greatest_of xs) x) (greatest_of xs)
high_snoc xs false x = ap greatest_of (nil_right xs)
high_snoc xs true x = let h = greatest-append xs (x ∷ []) in omega arith

module _ (s : List ℕ) (n b : ℕ) where
  -- The children's clock entries on those channels.
  abbrev pub times_to : List ℕ
  times_to = map (λ (c : ℕ). (lane_at (line_of s) c).taken) (leaving_to (plan_of s) n b)

module _ (s : List ℕ) (n b : ℕ) where
  pub times_turn : b < plan_channels s → times_to s n (b + 1) ≡ times_to s n b ++ keep_one (eqb (channel_at (plan_of s) b).sender n) (lane_at (line_of s) b).taken []
  times_turn h =
      ap (map (λ (c : ℕ). (lane_at (line_of s) c).taken)) (numbers_turn (plan_of s) (λ (c : Channel). eqb c.sender n) b (rw channel_count_lem h))
      ∙ map_more (λ (c : ℕ). (lane_at (line_of s) c).taken) (eqb (channel_at (plan_of s) b).sender n) b (leaving_to (plan_of s) n b)

  pub times_other : b < plan_channels s → ((channel_at (plan_of s) b).sender ≢ n) → times_to s n (b + 1) ≡ times_to s n b
  times_other h d = times_turn h ∙ ap (λ (t : Bool). times_to s n b ++ keep_one t (lane_at (line_of s) b).taken []) (ne_eqb (channel_at (plan_of s) b).sender n d) ∙ nil_right (times_to s n b)

  pub times_whole : plan_channels s ≤ b → times_to s n b ≡ child_times (line_of s) n
  unfolding child_times
  times_whole h = rw line-plan (ap (map (λ (c : ℕ). (lane_at (line_of s) c).taken)) (leaving-whole (plan_of s) n b (rw channel_count_lem h)))

-- The least of some numbers, if there are any, and with one more.
abbrev pub least_yet : List ℕ → Option ℕ
least_yet [] = None
least_yet (x ∷ xs) = Some (least_of (x ∷ xs))

abbrev pub least_with : Option ℕ → ℕ → ℕ
least_with None x = x
least_with (Some low) x = min x low

least_snoc : (xs : List ℕ) (x : ℕ) → least_yet (xs ++ x ∷ []) ≡ Some (least_with (least_yet xs) x)
least_snoc [] x = refl
least_snoc (y ∷ []) x = ap Some (omega arith)
least_snoc (y ∷ z ∷ xs) x = ap Some (more (least_snoc (z ∷ xs) x))
  where
    more : least_yet (z ∷ xs ++ x ∷ []) ≡ Some (least_with (least_yet (z ∷ xs)) x) → least_of (y ∷ z ∷ xs ++ x ∷ []) ≡ min x (least_of (y ∷ z ∷ xs))
    more e = let k : least_of (z ∷ xs ++ x ∷ []) ≡ min x (least_of (z ∷ xs)) = cc in omega (arith, k)

-- Low before channel b.
pub record LowTo (s : List ℕ) (n b : ℕ) (low : Option ℕ) : Type 0 where
  pub low_is : low ≡ least_yet (times_to s n b)

pub low_start : (s : List ℕ) (n : ℕ) → LowTo s n 0 None
low_start s n = record { low_is = refl }

module _ (s : List ℕ) (n b : ℕ) (low : Option ℕ) (inside : b < plan_channels s) (k : LowTo s n b low) where
  pub low_turn : (channel_at (plan_of s) b).sender ≡ n → LowTo s n (b + 1) (Some (least_with low (lane_at (line_of s) b).taken))
  low_turn e =
      let x : ℕ = (lane_at (line_of s) b).taken in
      let more : times_to s n (b + 1) ≡ times_to s n b ++ x ∷ [] = times_turn s n b inside ∙ ap (λ (t : Bool). times_to s n b ++ keep_one t x []) (eq-eqb (channel_at (plan_of s) b).sender n e) in
      record { low_is = rw k.low_is (sym (ap least_yet more ∙ least_snoc (times_to s n b) x)) }

  pub low_other : ((channel_at (plan_of s) b).sender ≢ n) → LowTo s n (b + 1) low
  low_other d = record { low_is = k.low_is ∙ sym (ap least_yet (times_other s n b inside d)) }

pub low_end : (s : List ℕ) (n b : ℕ) (low : Option ℕ) → plan_channels s ≤ b → LowTo s n b low → unwrap_or low 0 ≡ low_of (line_of s) n
unfolding low_of
low_end s n b low h k = rw k.low_is (yet (times_to s n b)) ∙ ap least_of (times_whole s n b h)
  where
    yet : (xs : List ℕ) → unwrap_or (least_yet xs) 0 ≡ least_of xs
    yet [] = refl
    yet (x ∷ xs) = refl

-- High before channel b.
pub record HighTo (s : List ℕ) (n b high : ℕ) : Type 0 where
  pub high_is : high ≡ greatest_of (times_to s n b)

pub high_start : (s : List ℕ) (n : ℕ) → HighTo s n 0 0
high_start s n = record { high_is = refl }

module _ (s : List ℕ) (n b high : ℕ) (inside : b < plan_channels s) (k : HighTo s n b high) where
  pub high_turn : (channel_at (plan_of s) b).sender ≡ n → HighTo s n (b + 1) (max high (lane_at (line_of s) b).taken)
  high_turn e =
      let x : ℕ = (lane_at (line_of s) b).taken in
      let more : times_to s n (b + 1) ≡ times_to s n b ++ x ∷ [] = times_turn s n b inside ∙ ap (λ (t : Bool). times_to s n b ++ keep_one t x []) (eq-eqb (channel_at (plan_of s) b).sender n e) in
      record { high_is = rw k.high_is (sym (ap greatest_of more ∙ high_snoc (times_to s n b) true x)) }

  pub high_other : ((channel_at (plan_of s) b).sender ≢ n) → HighTo s n (b + 1) high
  high_other d = record { high_is = k.high_is ∙ sym (ap greatest_of (times_other s n b inside d)) }

pub high_end : (s : List ℕ) (n b high : ℕ) → plan_channels s ≤ b → HighTo s n b high → high ≡ high_of (line_of s) n
unfolding high_of
high_end s n b high h k = k.high_is ∙ ap greatest_of (times_whole s n b h)
