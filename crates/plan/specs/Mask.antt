-- Sets of channels as masks (document 01, "The belts that take a record form a mask; ones count them, trailing zeros give the next belt").
use Rattle.std.specs.Prelude.{ℕ, zero, suc, ◌+◌, ◌*◌, ◌/◌, ◌%◌, ◌^◌, ◌≤◌, ◌<◌, ◌≡◌, Bool, cond, not, ◌&&◌, List, [], ◌∷◌, map, length, get_or, leb, eqb}
use Rattle.std.specs.Int.Count.{ones, count_trailing_zeros}
use Rattle.plan.specs.declared.Record.{Record}
use Rattle.plan.specs.declared.Channel.{Channel}
use Rattle.plan.specs.declared.masks.Channels.{Channels}
use Rattle.plan.specs.Channel.{takes}
use Rattle.plan.specs.Plan.{Plan, plan_of, plan_channels, channel_at, keep_if, numbers_from, is_none, leaving}

-- The mask of a list of channel numbers: bit b for channel b.
abbrev pub mask_of : List ℕ → ℕ
mask_of [] = 0
mask_of (b ∷ bs) = 2 ^ b + mask_of bs

-- Numbers that rise strictly, none below k.
abbrev pub Rising : ℕ → List ℕ → Type 0
Rising k [] = Unit {0}
Rising k (b ∷ bs) = (k ≤ b) × Rising (suc b) bs

-- The channels of a mask, rising: the numbers, counted from k, of the ones among so many bits.
abbrev pub ones_from : ℕ → ℕ → ℕ → List ℕ
ones_from k zero mask = []
ones_from k (suc w) mask = keep_if (eqb (mask % 2) 1) k (ones_from (suc k) w (mask / 2))

unfoldable pub channels_in : ℕ → List ℕ
channels_in mask = ones_from 0 32 mask

-- The channels of a set of them, which lies in a mask.
abbrev pub listed : Channels → List ℕ
listed c = channels_in c.mask

-- Those of a list that pass a test.
abbrev pub among : (ℕ → Bool) → List ℕ → List ℕ
among f [] = []
among f (k ∷ ks) = keep_if (f k) k (among f ks)

-- The channels that leave a node and take a record, by number.
unfoldable pub taking : Plan → ℕ → Record → List ℕ
taking p n r = numbers_from 0 (λ (c : Channel). eqb c.sender n && takes c r) p.channels

-- Truth values as the bits of a number, the first one lowest.
abbrev pub bits : List Bool → ℕ
bits [] = 0
bits (t ∷ ts) = cond t 1 0 + 2 * bits ts

-- 2026-06: the set of channels that take a record, "one bit a belt": of those that leave the node, the first one lowest. A sink's is empty.
unfoldable pub set_of : Plan → ℕ → Record → ℕ
unfolding leaving takes
set_of p n r = bits (map (λ (c : ℕ). takes (channel_at p c) r) (leaving p n))

-- Whether the channel of a number takes a record.
abbrev pub takes_at : Plan → Record → ℕ → Bool
takes_at p r b = takes (channel_at p b) r

-- Whether one of a mask's channels takes a record.
abbrev pub some_takes : Plan → Record → ℕ → Bool
some_takes p r mask = not (is_none (among (takes_at p r) (channels_in mask)))

-- The mask of some of a plan's channels; 0 where the plan has more channels than document 01 allows.
unfoldable pub plan_mask : List ℕ → List ℕ → ℕ
unfolding plan_channels
plan_mask s bs = cond (leb (plan_channels s) 24) (mask_of bs) 0

-- What a call may answer of a channel's two ends is a test of channels.
abbrev pub Tests : (ℕ → ℕ → Bool → Type 0) → (Channel → Bool) → Type 0
Tests answers f = (c : Channel) (t : Bool) → answers c.sender c.receiver t → t ≡ f c

-- Those of a plan's channels that pass a test; none where the plan has more channels than document 01 allows.
pub record Passing (s : List ℕ) (f : Channel → Bool) (c : Channels) : Type 0 where
  pub few : plan_channels s ≤ 24 → listed c ≡ numbers_from 0 f (plan_of s).channels
  pub many : 24 < plan_channels s → listed c ≡ []

-- A mask's count of ones: of a rising list of channels, how many there are.
pub record CountOf (mask r : ℕ) : Type 0 where
  pub is : r ≡ ones mask
  pub listed : (bs : List ℕ) → Rising 0 bs → mask ≡ mask_of bs → r ≡ length bs

-- A mask's trailing zeros: of a rising list of channels, the first of them, 32 if there is none.
pub record FirstOf (mask r : ℕ) : Type 0 where
  pub is : r ≡ count_trailing_zeros 32 mask
  pub listed : (bs : List ℕ) → Rising 0 bs → mask ≡ mask_of bs → r ≡ get_or bs 0 32

-- Of a mask's channels those that take a record, as a mask: of a rising list of a plan's channels, those among them that take it.
pub record TakingOf (s : List ℕ) (r : Record) (mask m : ℕ) : Type 0 where
  pub is : m ≡ mask_of (among (takes_at (plan_of s) r) (channels_in mask))
  pub listed : (bs : List ℕ) → Rising 0 bs → mask ≡ plan_mask s bs → m ≡ plan_mask s (among (takes_at (plan_of s) r) bs)
