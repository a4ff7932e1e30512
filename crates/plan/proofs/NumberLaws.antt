-- Numbers in bytes: what is written is read back, and what is read is written back.
use Prim.Native.Nat.{ℕ, zero, suc, ◌+◌, ◌*◌, ◌/◌, ◌%◌, ◌^◌, ◌<◌}
use mathlib.Core.Path.{◌≡◌, refl, ap}
use mathlib.Core.List.{List, [], ◌∷◌}
use native.Mathlib.Nat.{pow-succ', mul_assoc, add-mul, mod-lt, mod-eq_of_lt, pow-le-pow_right}
use native.Mathlib.Omega.{arith}
use lib.ListN.{length}
use lib.Arith.{digits_lt, digits_div, digits_mod, mod-mul}
use lib.Dec.{lit<}
use Rattle.plan.specs.Layout.{bytes_of, spelled}
use Rattle.plan.specs.Lawful.{Bytes}

pub power_positive : (w : ℕ) → zero < 256 ^ w
power_positive w = pow-le-pow_right (lit< tt) {i = zero} {j = w} (omega arith)

pub length-bytes_of : (w v : ℕ) → length (bytes_of w v) ≡ w
length-bytes_of zero v = refl
length-bytes_of (suc w) v = ap suc (length-bytes_of w v)

pub bytes_bytes_of : (w v : ℕ) → Bytes (bytes_of w v)
bytes_bytes_of zero v = tt
bytes_bytes_of (suc w) v = (mod-lt (v / 256 ^ w) (lit< tt), bytes_bytes_of w v)

pub spelled_split : (n : ℕ) (bs : List ℕ) → spelled n bs ≡ n * 256 ^ length bs + spelled 0 bs
spelled_split n [] = omega arith
spelled_split n (b ∷ bs) =
    omega (
      arith,
      spelled_split (n * 256 + b) bs,
      spelled_split (0 * 256 + b) bs,
      add-mul (n * 256) b (256 ^ length bs),
      add-mul (0 * 256) b (256 ^ length bs),
      ap (λ (x : ℕ). n * x) (pow-succ' 256 (length bs)),
      mul_assoc n 256 (256 ^ length bs),
    )

pub spelled_below : (bs : List ℕ) → Bytes bs → spelled 0 bs < 256 ^ length bs
spelled_below [] h = lit< tt
spelled_below (b ∷ bs) h =
    rw (spelled_split (0 * 256 + b) bs, pow-succ' 256 (length bs)) (digits_lt (omega arith) (spelled_below bs h.1))

-- A number's low bytes are read back, after what went before.
pub spelled-bytes_of : (n w v : ℕ) → spelled n (bytes_of w v) ≡ n * 256 ^ w + v % 256 ^ w
spelled-bytes_of n zero v = omega arith
spelled-bytes_of n (suc w) v =
    omega (
      arith,
      spelled-bytes_of (n * 256 + v / 256 ^ w % 256) w v,
      add-mul (n * 256) (v / 256 ^ w % 256) (256 ^ w),
      ap (λ (x : ℕ). n * x) (pow-succ' 256 w),
      ap (λ (x : ℕ). v % x) (pow-succ' 256 w),
      mul_assoc n 256 (256 ^ w),
      mod-mul v {m = 256} {c = 256 ^ w} (lit< tt) (power_positive w),
    )

-- A number that fits is read back.
pub number_read : (w v : ℕ) → v < 256 ^ w → spelled 0 (bytes_of w v) ≡ v
number_read w v h = omega (arith, spelled-bytes_of 0 w v, mod-eq_of_lt h)

-- Bytes are written back.
pub bytes_written : (n : ℕ) (bs : List ℕ) → Bytes bs → bytes_of (length bs) (spelled n bs) ≡ bs
bytes_written n [] h = refl
bytes_written n (b ∷ bs) h =
    let high : spelled (n * 256 + b) bs / 256 ^ length bs ≡ n * 256 + b =
    rw (spelled_split (n * 256 + b) bs) (digits_div (n * 256 + b) (spelled_below bs h.1)) in
    let low : (n * 256 + b) % 256 ≡ b = digits_mod n h.0 in
    rw (high, low, bytes_written (n * 256 + b) bs h.1)
