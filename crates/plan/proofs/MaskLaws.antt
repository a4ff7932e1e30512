-- Masks of rising lists of channels: what their ones and their trailing zeros are, and how a mask grows channel by channel.
use Prim.Native.Nat.{ℕ, zero, suc, ◌+◌, ◌-◌, ◌*◌, ◌/◌, ◌%◌, ◌^◌, ◌≤◌, ◌<◌}
use mathlib.Core.Path.{◌≡◌, refl, sym, ap, ◌∙◌}
use mathlib.Core.Logic.{◌≢◌}
use mathlib.Core.Bool.{Bool, true, false, cond, ◌&&◌}
use mathlib.Core.List.{List, [], ◌∷◌}
use native.Mathlib.Nat.{add-mul, mul_assoc, mul-one, one-mul, zero-mul, lt_of_not-le, add-zero, pow-suc, pow-succ', div-add-mod'}
use native.Mathlib.Omega.{arith}
use borrow.Author.Tests.{le-leb, lt-leb, ne_eqb}
use lib.Dec.{lit<, eqb}
use Rattle.std.specs.Int.{from_bool}
use lib.ListN.{length, get_or, drop, drop_of_length-le}
use lib.Seq.{drop-cons}
use lib.Pow.{shl_exact, pow-add, pow_pos, pow_mono}
use lib.Bits.{shifted_half, shifted_even}
use lib.Count.{ones, ones_cat, count_trailing_zeros, trailing_of_zero}
use Rattle.plan.specs.declared.Record.{Record}
use Rattle.plan.specs.declared.Channel.{Channel}
use Rattle.plan.specs.Channel.{takes}
use Rattle.plan.specs.Lawful.{Each}
use Rattle.plan.specs.Plan.{Plan, plan_of, plan_channels, no_channel, keep_if, numbers_from, is_none, entering, leaving}
use Rattle.plan.specs.Mask.{mask_of, Rising, ones_from, channels_in, among, taking, plan_mask, Passing, CountOf, FirstOf}
use Rattle.plan.proofs.PlanLaws.{channel_count_lem}

-- ---- rising lists

pub rising_lower : (j k : ℕ) (bs : List ℕ) → j ≤ k → Rising k bs → Rising j bs
rising_lower j k [] l h = tt
rising_lower j k (b ∷ bs) l h = (omega arith, h.1)

pub rising_kept : (t : Bool) (k : ℕ) (ks : List ℕ) → Rising (suc k) ks → Rising k (keep_if t k ks)
rising_kept true k ks h = (omega arith, h)
rising_kept false k ks h = rising_lower k (suc k) ks (omega arith) h

pub numbers_rise : {A : Type 0} (k : ℕ) (f : A → Bool) (xs : List A) → Rising k (numbers_from k f xs)
numbers_rise k f [] = tt
numbers_rise k f (x ∷ xs) = rising_kept (f x) k (numbers_from (suc k) f xs) (numbers_rise (suc k) f xs)

-- ---- the ones of a mask

odd_times : (b a : ℕ) → 2 ^ b + a * 2 ^ suc b ≡ (a * 2 + 1) * 2 ^ b
odd_times b a = omega (arith, add-mul (a * 2) 1 (2 ^ b), mul_assoc a 2 (2 ^ b), ap (λ (x : ℕ). a * x) (pow-succ' 2 b))

pub ones_zero : ones 0 ≡ 0
unfolding ones
ones_zero = refl

pub ones_one : ones 1 ≡ 1
unfolding ones
ones_one = refl

ones_shifted : (j a : ℕ) → ones ((a * 2 + 1) * 2 ^ j) ≡ suc (ones a)
ones_shifted j a =
    ap ones (sym (add-zero ((a * 2 + 1) * 2 ^ j)))
    ∙ ones_cat j (a * 2 + 1) 0 (pow_pos j)
    ∙ omega (arith, ones_cat 1 a 1 (lit< tt), ones_zero, ones_one)

-- A rising list's mask is a multiple of the power of its least, with as many ones as the list is long.
mask_multiple : (k : ℕ) (bs : List ℕ) → Rising k bs → (a : ℕ) × (mask_of bs ≡ a * 2 ^ k) × (ones a ≡ length bs)
mask_multiple k [] h = (0, sym (zero-mul (2 ^ k)), ones_zero)
mask_multiple k (b ∷ bs) h =
    let ih = mask_multiple (suc b) bs h.1 in
    let high : 2 ^ (b - k) * 2 ^ k ≡ 2 ^ b = sym (pow-add 2 (b - k) k) ∙ ap (λ (x : ℕ). 2 ^ x) (omega arith) in (
      (ih.0 * 2 + 1) * 2 ^ (b - k),
      ap (λ (x : ℕ). 2 ^ b + x) ih.1 ∙ odd_times b ih.0 ∙ ap (λ (x : ℕ). (ih.0 * 2 + 1) * x) (sym high) ∙ sym (mul_assoc (ih.0 * 2 + 1) (2 ^ (b - k)) (2 ^ k)),
      ones_shifted (b - k) ih.0 ∙ ap suc ih.2,
    )

pub mask_ones : (bs : List ℕ) → Rising 0 bs → ones (mask_of bs) ≡ length bs
mask_ones bs h = let m = mask_multiple 0 bs h in ap ones (m.1 ∙ mul-one m.0) ∙ m.2

-- ---- the trailing zeros of a mask

trailing_odd : (w b a : ℕ) → b < w → count_trailing_zeros w ((a * 2 + 1) * 2 ^ b) ≡ b
unfolding count_trailing_zeros
trailing_odd zero b a h = let no : ⊥ = omega arith in absurd no
trailing_odd (suc w) zero a h = let odd : (a * 2 + 1) * 1 % 2 ≡ 1 = omega arith in rw odd
trailing_odd (suc w) (suc b) a h = rw (shifted_even (a * 2 + 1) b, shifted_half (a * 2 + 1) b) (ap suc (trailing_odd w b a (omega arith)))

pub mask_trailing : (bs : List ℕ) → Rising 0 bs → mask_of bs < 2 ^ 32 → count_trailing_zeros 32 (mask_of bs) ≡ get_or bs 0 32
mask_trailing [] h l = trailing_of_zero 32
mask_trailing (b ∷ bs) h l =
    let m = mask_multiple (suc b) bs h.1 in
    let below : b < 32 = lt_of_not-le (λ (k : 32 ≤ b). let p : 2 ^ 32 ≤ 2 ^ b = pow_mono k in omega arith) in
    ap (count_trailing_zeros 32) (ap (λ (x : ℕ). 2 ^ b + x) m.1 ∙ odd_times b m.0) ∙ trailing_odd 32 b m.0 below

pub count_of : (mask : ℕ) → CountOf mask (ones mask)
count_of mask = record { is = refl; listed = λ bs h e. ap ones e ∙ mask_ones bs h }

pub first_of : (mask : ℕ) → mask < 2 ^ 32 → FirstOf mask (count_trailing_zeros 32 mask)
first_of mask l = record { is = refl; listed = λ bs h e. ap (count_trailing_zeros 32) e ∙ mask_trailing bs h (rw e at l) }

-- ---- the channels of a mask

pub mask_kept : (t : Bool) (k : ℕ) (ks : List ℕ) → mask_of (keep_if t k ks) ≡ cond t (2 ^ k) 0 + mask_of ks
mask_kept true k ks = refl
mask_kept false k ks = omega arith

ones_rise : (k w mask : ℕ) → Rising k (ones_from k w mask)
ones_rise k zero mask = tt
ones_rise k (suc w) mask = rising_kept (eqb (mask % 2) 1) k (ones_from (suc k) w (mask / 2)) (ones_rise (suc k) w (mask / 2))

ones_mask : (k w mask : ℕ) → mask < 2 ^ w → mask_of (ones_from k w mask) ≡ mask * 2 ^ k
ones_mask k zero mask h = let none : mask ≡ 0 = omega arith in rw (none, zero-mul)
ones_mask k (suc w) mask h =
    let double : 2 ^ suc w ≡ 2 ^ w * 2 = pow-suc 2 w in
    let ih = ones_mask (suc k) w (mask / 2) (omega arith) in
    mask_kept (eqb (mask % 2) 1) k (ones_from (suc k) w (mask / 2)) ∙ omega (
      arith,
      ih,
      bit_times (mask % 2) (2 ^ k) (omega arith),
      ap (λ (x : ℕ). mask / 2 * x) (pow-succ' 2 k),
      mul_assoc (mask / 2) 2 (2 ^ k),
      add-mul (mask / 2 * 2) (mask % 2) (2 ^ k),
      ap (λ (x : ℕ). x * 2 ^ k) (div-add-mod' mask 2),
    )
  where
    bit_times : (d x : ℕ) → d < 2 → cond (eqb d 1) x 0 ≡ d * x
    bit_times zero x l = sym (zero-mul x)
    bit_times (suc zero) x l = omega arith
    bit_times (suc (suc d)) x l = let no : ⊥ = omega arith in absurd no

pub channels_rise : (mask : ℕ) → Rising 0 (channels_in mask)
unfolding channels_in
channels_rise mask = ones_rise 0 32 mask

pub channels_mask : (mask : ℕ) → mask < 2 ^ 32 → mask_of (channels_in mask) ≡ mask
unfolding channels_in
channels_mask mask h = ones_mask 0 32 mask h ∙ mul-one mask

-- Rising lists of one mask are one list.
mask_unique : (bs cs : List ℕ) → Rising 0 bs → Rising 0 cs → mask_of bs < 2 ^ 32 → mask_of bs ≡ mask_of cs → bs ≡ cs
mask_unique [] [] h k l e = refl
mask_unique [] (c ∷ cs) h k l e = let no : ⊥ = omega (arith, pow_pos c) in absurd no
mask_unique (b ∷ bs) [] h k l e = let no : ⊥ = omega (arith, pow_pos b) in absurd no
mask_unique (b ∷ bs) (c ∷ cs) h k l e =
    let same : b ≡ c = sym (mask_trailing (b ∷ bs) h l) ∙ ap (count_trailing_zeros 32) e ∙ mask_trailing (c ∷ cs) k (rw e at l) in
    let rest : mask_of bs ≡ mask_of cs = omega (arith, ap (λ (x : ℕ). 2 ^ x) same) in
    rw (same, mask_unique bs cs (rising_lower 0 (suc b) bs (omega arith) h.1) (rising_lower 0 (suc c) cs (omega arith) k.1) (omega arith) rest)

-- A mask's channels are the rising list whose mask it is.
pub channels_listed : (mask : ℕ) → mask < 2 ^ 32 → (bs : List ℕ) → Rising 0 bs → mask ≡ mask_of bs → channels_in mask ≡ bs
channels_listed mask small bs h e =
    let own : mask_of (channels_in mask) ≡ mask = channels_mask mask small in
    mask_unique (channels_in mask) bs (channels_rise mask) h (rw own small) (own ∙ e)

-- A channel's bit, and the bit of one that passes, as they are shifted.
pub bit_here : (b : ℕ) → b < 32 → 1 * 2 ^ b % 4294967296 ≡ 2 ^ b
bit_here b h = shl_exact {a = 1} 1 b 32 (lit< tt) (omega arith) ∙ one-mul _

pub bit_passed : (t : Bool) (b : ℕ) → b < 32 → from_bool t * 2 ^ b % 4294967296 ≡ cond t (2 ^ b) 0
bit_passed true b h = bit_here b h
bit_passed false b h = ap (λ (x : ℕ). x % 4294967296) (zero-mul (2 ^ b))

-- A mask's first channel, and those behind it.
pub record Next (mask b : ℕ) : Type 0 where
  pub small : b < 32
  pub bit : 2 ^ b ≤ mask
  pub channels : channels_in mask ≡ b ∷ channels_in (mask - 2 ^ b)

pub next : (mask b : ℕ) → mask < 2 ^ 32 → mask ≢ 0 → FirstOf mask b → Next mask b
next mask b low some first = go (channels_in mask) refl (channels_rise mask) (sym (channels_mask mask low))
  where
    go : (bs : List ℕ) → channels_in mask ≡ bs → Rising 0 bs → mask ≡ mask_of bs → Next mask b
    go [] same rise is = absurd (some is)
    go (c ∷ cs) same rise is =
        let first_is : b ≡ c = first.listed (c ∷ cs) rise is in
        let bit : 2 ^ b ≡ 2 ^ c = ap (λ (x : ℕ). 2 ^ x) first_is in
        let behind : channels_in (mask - 2 ^ b) ≡ cs = channels_listed (mask - 2 ^ b) (omega arith) cs (rising_lower 0 (suc c) cs (omega arith) rise.1) (omega arith) in
        record {
          small = lt_of_not-le (λ (k : 32 ≤ b). let p : 2 ^ 32 ≤ 2 ^ b = pow_mono k in omega arith);
          bit = omega arith;
          channels = same ∙ rw (first_is, sym (rw first_is at behind)) refl;
        }

pub channels_none : channels_in 0 ≡ []
channels_none = channels_listed 0 (lit< tt) [] tt refl

-- ---- a mask, channel by channel

pub mask_more : {A : Type 0} (f : A → Bool) (d : A) (xs : List A) (b : ℕ) → b < length xs
    → mask_of (numbers_from b f (drop b xs)) ≡ cond (f (get_or xs b d)) (2 ^ b) 0 + mask_of (numbers_from (suc b) f (drop (suc b) xs))
mask_more f d xs b h = rw (drop-cons xs b d h) (mask_kept (f (get_or xs b d)) b (numbers_from (suc b) f (drop (suc b) xs)))

-- A bit or nothing is at most the bit.
pub bit_at_most : (t : Bool) (bit : ℕ) → cond t bit 0 ≤ bit
bit_at_most true bit = omega arith
bit_at_most false bit = omega arith

-- ---- the masks of a plan

pub entering_rise : (p : Plan) (n : ℕ) → Rising 0 (entering p n)
unfolding entering
entering_rise p n = numbers_rise 0 (λ (c : Channel). eqb c.receiver n) p.channels

pub leaving_rise : (p : Plan) (n : ℕ) → Rising 0 (leaving p n)
unfolding leaving
leaving_rise p n = numbers_rise 0 (λ (c : Channel). eqb c.sender n) p.channels

pub taking_rise : (p : Plan) (n : ℕ) (r : Record) → Rising 0 (taking p n r)
unfolding taking
taking_rise p n r = numbers_rise 0 (λ (c : Channel). eqb c.sender n && takes c r) p.channels

-- Each of them is a channel of the plan.
kept_below : (t : Bool) (m k : ℕ) (ks : List ℕ) → k < m → Each (λ (b : ℕ). b < m) ks → Each (λ (b : ℕ). b < m) (keep_if t k ks)
kept_below true m k ks l h = (l, h)
kept_below false m k ks l h = h

numbers_below : {A : Type 0} (m k : ℕ) (f : A → Bool) (xs : List A) → k + length xs ≤ m → Each (λ (b : ℕ). b < m) (numbers_from k f xs)
numbers_below m k f [] l = tt
numbers_below m k f (x ∷ xs) l = kept_below (f x) m k (numbers_from (suc k) f xs) (omega arith) (numbers_below m (suc k) f xs (omega arith))

pub entering_below : (s : List ℕ) (n : ℕ) → Each (λ (b : ℕ). b < plan_channels s) (entering (plan_of s) n)
unfolding entering
entering_below s n = numbers_below (plan_channels s) 0 (λ (c : Channel). eqb c.receiver n) (plan_of s).channels (omega (arith, channel_count_lem s))

pub leaving_below : (s : List ℕ) (n : ℕ) → Each (λ (b : ℕ). b < plan_channels s) (leaving (plan_of s) n)
unfolding leaving
leaving_below s n = numbers_below (plan_channels s) 0 (λ (c : Channel). eqb c.sender n) (plan_of s).channels (omega (arith, channel_count_lem s))

pub among_below : (m : ℕ) (f : ℕ → Bool) (bs : List ℕ) → Each (λ (b : ℕ). b < m) bs → Each (λ (b : ℕ). b < m) (among f bs)
among_below m f [] h = tt
among_below m f (b ∷ bs) h = kept_below (f b) m b (among f bs) h.0 (among_below m f bs h.1)

pub mask_few : (s : List ℕ) → plan_channels s ≤ 24 → (bs : List ℕ) → plan_mask s bs ≡ mask_of bs
unfolding plan_mask
mask_few s h bs = rw (le-leb (plan_channels s) 24 h)

pub mask_many : (s : List ℕ) → 24 < plan_channels s → (bs : List ℕ) → plan_mask s bs ≡ 0
unfolding plan_mask
mask_many s h bs = rw (lt-leb (plan_channels s) 24 h)

-- A mask is 0 exactly where no channel is in it.
pub mask_none : (bs : List ℕ) → eqb (mask_of bs) 0 ≡ is_none bs
mask_none [] = refl
mask_none (b ∷ bs) = ne_eqb (2 ^ b + mask_of bs) 0 (λ e. omega (arith, e, pow_pos b))

pub channels_empty : (mask : ℕ) → mask < 2 ^ 32 → eqb mask 0 ≡ is_none (channels_in mask)
channels_empty mask low = ap (λ (m : ℕ). eqb m 0) (sym (channels_mask mask low)) ∙ mask_none (channels_in mask)

-- ---- a mask that grows along a list of channels, from its end

-- Of the channels from b on those that pass are in it, whatever test it is that was made of them.
pub record Grown (cs : List Channel) (made : (Channel → Bool) → Type 0) (mask b : ℕ) : Type 0 where
  pub within : b ≤ 24
  pub below : mask < 2 ^ (24 - b)
  pub small : mask < 16777216
  pub whole : (f : Channel → Bool) → made f → mask * 2 ^ b ≡ mask_of (numbers_from b f (drop b cs))

module _ (cs : List Channel) (made : (Channel → Bool) → Type 0) where
  pub grown_start : (b : ℕ) → length cs ≤ b → b ≤ 24 → Grown cs made 0 b
  grown_start b l h =
      record {
        within = h;
        below = pow_pos (24 - b);
        small = omega arith;
        whole = λ f m. zero-mul (2 ^ b) ∙ rw (drop_of_length-le cs l);
      }

  pub grown_more : (mask b : ℕ) (t : Bool) → Grown cs made mask (suc b) → b < length cs → ((f : Channel → Bool) → made f → t ≡ f (get_or cs b no_channel)) → Grown cs made (2 * mask + from_bool t) b
  grown_more mask b t g l asked =
      let double : 2 ^ (24 - b) ≡ 2 ^ (24 - suc b) * 2 = ap (λ (k : ℕ). 2 ^ k) (omega (arith, g.within)) ∙ pow-suc 2 (24 - suc b) in
      let most : 2 ^ (24 - b) ≤ 2 ^ 24 = pow_mono {i = 24 - b} {j = 24} (omega arith) in
      let below : 2 * mask + from_bool t < 2 ^ (24 - b) = omega (arith, one_at_most t, g.below) in
      record {
        within = omega (arith, g.within);
        below = below;
        small = omega arith;
        whole = λ f m. add-mul (2 * mask) (from_bool t) (2 ^ b) ∙ omega (
          arith,
          g.whole f m,
          mask_more f no_channel cs b l,
          ap (λ (u : Bool). cond u (2 ^ b) 0) (asked f m),
          one_bit t (2 ^ b),
          ap (λ (x : ℕ). mask * x) (pow-succ' 2 b),
          mul_assoc mask 2 (2 ^ b),
          ap (λ (x : ℕ). x * 2 ^ b) (twice mask),
        );
      }
    where
      one_at_most : (u : Bool) → from_bool u ≤ 1
      one_at_most true = omega arith
      one_at_most false = omega arith

      one_bit : (u : Bool) (x : ℕ) → from_bool u * x ≡ cond u x 0
      one_bit true x = omega arith
      one_bit false x = zero-mul x

      twice : (x : ℕ) → 2 * x ≡ x * 2
      twice x = omega arith

  pub grown_end : (mask b : ℕ) → Grown cs made mask b → b ≡ 0 → (f : Channel → Bool) → made f → mask ≡ mask_of (numbers_from 0 f cs)
  grown_end mask b g none f m = sym (mul-one mask) ∙ rw none at (g.whole f m)

pub passing_few : (s : List ℕ) (f : Channel → Bool) (mask : ℕ) → mask < 2 ^ 32 → plan_channels s ≤ 24 → mask ≡ mask_of (numbers_from 0 f (plan_of s).channels) → Passing s f (record { mask = mask })
passing_few s f mask low few is =
    record {
      few = λ _. channels_listed mask low (numbers_from 0 f (plan_of s).channels) (numbers_rise 0 f (plan_of s).channels) is;
      many = λ many. let no : ⊥ = omega arith in absurd no;
    }

pub passing_none : (s : List ℕ) (f : Channel → Bool) → 24 < plan_channels s → Passing s f (record { mask = 0 })
passing_none s f many = record { few = λ few. let no : ⊥ = omega arith in absurd no; many = λ _. channels_none }
