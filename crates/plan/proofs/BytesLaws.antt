-- Lists of bytes: their parts and joins are bytes.
use Prim.Native.Nat.{ℕ, zero, suc, ◌-◌, ◌<◌}
use mathlib.Core.Path.{◌≡◌, sym}
use mathlib.Core.List.{List, [], ◌∷◌, ◌++◌}
use native.Mathlib.Nat.{zero-sub, sub-zero, suc-sub-suc}
use native.Mathlib.Omega.{arith}
use lib.ListN.{get_or, take, drop}
use lib.Seq.{take-nil}
use Rattle.plan.specs.Lawful.{Each, Bytes}

pub each_take : {A : Type 0} (P : A → Type 0) (n : ℕ) (s : List A) → Each P s → Each P (take n s)
each_take P zero s h = tt
each_take P (suc n) [] h = tt
each_take P (suc n) (x ∷ s) h = (h.0, each_take P n s h.1)

pub bytes_take : (n : ℕ) (s : List ℕ) → Bytes s → Bytes (take n s)
bytes_take n s h = each_take (λ (b : ℕ). b < 256) n s h

pub bytes_drop : (n : ℕ) (s : List ℕ) → Bytes s → Bytes (drop n s)
bytes_drop zero s h = h
bytes_drop (suc n) [] h = tt
bytes_drop (suc n) (b ∷ s) h = bytes_drop n s h.1

pub bytes_append : (s t : List ℕ) → Bytes s → Bytes t → Bytes (s ++ t)
bytes_append [] t h k = k
bytes_append (b ∷ s) t h k = (h.0, bytes_append s t h.1 k)

pub bytes_known : (s : List ℕ) → ((i : ℕ) → get_or s i 0 < 256) → Bytes s
bytes_known [] h = tt
bytes_known (b ∷ s) h = (h zero, bytes_known s (λ i. h (suc i)))

pub bytes_at : (s : List ℕ) → Bytes s → (i : ℕ) → get_or s i 0 < 256
bytes_at [] h i = omega arith
bytes_at (b ∷ s) h zero = h.0
bytes_at (b ∷ s) h (suc i) = bytes_at s h.1 i

-- What is left of the front of a list.
pub drop-take : {A : Type 0} (m n : ℕ) (s : List A) → drop m (take n s) ≡ take (n - m) (drop m s)
drop-take zero n s = rw sub-zero
drop-take (suc m) zero [] = rw zero-sub
drop-take (suc m) zero (x ∷ s) = rw zero-sub
drop-take (suc m) (suc n) [] = sym (take-nil (suc n - suc m))
drop-take (suc m) (suc n) (x ∷ s) = rw suc-sub-suc (drop-take m n s)
