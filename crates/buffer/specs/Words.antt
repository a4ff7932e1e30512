-- 2026-03, records moved as words of eight bytes: "wherever they lie together read and write them as one 64-bit number, big-endian". What `get64` answers and what `put64` leaves, and what the request says of both.
use Rattle.std.specs.Prelude.{ℕ, ◌+◌, ◌*◌, ◌^◌, ◌≤◌, ◌<◌, ◌≡◌, refl, ◌⊎◌, List, [], ◌∷◌, length, get_or, take, drop}
use Rattle.basics.specs.Put.{put}
use Rattle.plan.specs.Layout.{spelled, bytes_of}

-- The number that eight bytes spell, and a number in eight bytes.
abbrev pub number64 : ℕ → List ℕ → ℕ
number64 at s = spelled 0 (take 8 (drop at s))

abbrev pub with_number64 : ℕ → ℕ → List ℕ → List ℕ
with_number64 at v s = put s at (bytes_of 8 v)

-- "It is the number those bytes spell": the first one counts most.
abbrev pub Spells64 : Type 0
Spells64 = (at : ℕ) (s : List ℕ) → at + 8 ≤ length s
    → number64 at s
    ≡ get_or s at 0 * 256 ^ 7 + get_or s (at + 1) 0 * 256 ^ 6 + get_or s (at + 2) 0 * 256 ^ 5 + get_or s (at + 3) 0 * 256 ^ 4 + get_or s (at + 4) 0 * 256 ^ 3 + get_or s (at + 5) 0 * 256 ^ 2
    + get_or s (at + 6) 0 * 256 + get_or s (at + 7) 0

-- "a number written reads back as itself"
abbrev pub ReadsBack64 : Type 0
ReadsBack64 = (at v : ℕ) (s : List ℕ) → at + 8 ≤ length s → v < 2 ^ 64 → number64 at (with_number64 at v s) ≡ v

-- "no byte beside the eight changes"
abbrev pub KeepsBeside64 : Type 0
KeepsBeside64 = (at v : ℕ) (s : List ℕ) → at + 8 ≤ length s
    → (length (with_number64 at v s) ≡ length s) × ((i : ℕ) → (i < at) ⊎ (at + 8 ≤ i) → get_or (with_number64 at v s) i 0 ≡ get_or s i 0)

-- Piece 1, material 2 and mass 3, read between two other bytes; and written there over zeros.
spells_example : number64 1 (9 ∷ 0 ∷ 0 ∷ 0 ∷ 1 ∷ 2 ∷ 0 ∷ 0 ∷ 3 ∷ 8 ∷ []) ≡ 2 ^ 32 + 2 * 2 ^ 24 + 3
spells_example = refl

written_example : with_number64 1 (2 ^ 32 + 2 * 2 ^ 24 + 3) (9 ∷ 0 ∷ 0 ∷ 0 ∷ 0 ∷ 0 ∷ 0 ∷ 0 ∷ 0 ∷ 8 ∷ []) ≡ 9 ∷ 0 ∷ 0 ∷ 0 ∷ 1 ∷ 2 ∷ 0 ∷ 0 ∷ 3 ∷ 8 ∷ []
unfolding put
written_example = refl
