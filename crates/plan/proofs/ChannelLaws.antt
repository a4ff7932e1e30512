-- What holds of a channel's mask.
use Prim.Native.Nat.{ℕ, ◌<◌}
use mathlib.Core.Path.{◌≡◌}
use mathlib.Core.Bool.{false}
use native.Mathlib.Nat.{div-eq_of_lt, lt_of_lt_of_le}
use lib.Pow.{pow_mono}
use Rattle.plan.specs.Channel.{bit_set}

-- A mask of two bytes has no bit past 15.
pub bit_beyond : (mask i : ℕ) → mask < 65536 → 15 < i → bit_set mask i ≡ false
unfolding bit_set
bit_beyond mask i h k = rw (div-eq_of_lt (lt_of_lt_of_le h (pow_mono k)))
