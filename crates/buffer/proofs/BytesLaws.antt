-- Bytes of a buffer: four of them as a number, bytes that are all 0, and bytes written one by one.
use Prim.Native.Nat.{ℕ, zero, suc, ◌+◌, ◌*◌, ◌-◌, ◌≤◌, ◌<◌}
use mathlib.Core.Path.{◌≡◌, refl, sym, ap, ◌∙◌}
use mathlib.Core.Bool.{Bool, true, false, ◌&&◌, and_assoc, and-true}
use mathlib.Core.List.{List, [], ◌∷◌, ◌++◌}
use native.Mathlib.Nat.{add-zero, div-one}
use native.Mathlib.Numerals.{add-one}
use borrow.Rule.Slice.PartMut.{put_mid}
use Rattle.std.specs.Int.{w16, w32, w64, to_be_bytes}
use native.Mathlib.Omega.{arith}
use borrow.Author.Tests.{ne_eqb, eqb-true}
use lib.Dec.{eqb, eqb-zero-suc, eqb-suc-zero}
use lib.Bits.{bit_or, or_zero_l, or_add_and, and_le_r}
use lib.ListN.{length, get_or, take, drop, set, replicate, length-drop}
use lib.Seq.{length-take-le, take-suc, take_all, take-add, drop-cons, drop-drop, get_or-drop, paste, paste-suc}
use Rattle.plan.specs.Layout.{spelled, bytes_of}
use Rattle.plan.specs.Lawful.{Zeros}
use Rattle.state.specs.State.{same_bytes}
use Rattle.basics.specs.Bools.{both_true}
use Rattle.basics.specs.Put.{put, put-replicate, drop-put, put-behind}
use Rattle.buffer.specs.Zero.{zero_bytes}
use Rattle.buffer.specs.Exact.{zero_at}

-- ---- numbers

four_spelled : (s : List ℕ) → 4 ≤ length s → spelled 0 (take 4 s) ≡ ((get_or s 0 0 * 256 + get_or s 1 0) * 256 + get_or s 2 0) * 256 + get_or s 3 0
four_spelled [] h = let no : ⊥ = omega arith in absurd no
four_spelled (a ∷ []) h = let no : ⊥ = omega arith in absurd no
four_spelled (a ∷ b ∷ []) h = let no : ⊥ = omega arith in absurd no
four_spelled (a ∷ b ∷ c ∷ []) h = let no : ⊥ = omega arith in absurd no
four_spelled (a ∷ b ∷ c ∷ d ∷ s) h = omega arith

pub four_field : (i : ℕ) (s : List ℕ) → i + 4 ≤ length s
    → spelled 0 (take 4 (drop i s)) ≡ ((get_or s i 0 * 256 + get_or s (i + 1) 0) * 256 + get_or s (i + 2) 0) * 256 + get_or s (i + 3) 0
four_field i s h = four_spelled (drop i s) (simp length-drop (omega arith)) ∙ simp (get_or-drop, add-zero)

-- ---- bytes that are all 0

-- An or is 0 where both are.
pub or_zero : (a b : ℕ) → eqb 0 (bit_or a b) ≡ (eqb 0 a && eqb 0 b)
or_zero zero b = rw or_zero_l
or_zero (suc a) b = rw (eqb-zero-suc, ne_eqb 0 (bit_or (suc a) b) (λ e. omega (arith, e, or_add_and (suc a) b, and_le_r (suc a) b)))

zero_more : (s : List ℕ) (b : ℕ) → (zero_bytes s && eqb 0 b) ≡ zero_bytes (s ++ (b ∷ []))
zero_more [] b = one (eqb 0 b)
  where
    one : (t : Bool) → t ≡ (t && true)
    one true = refl
    one false = refl
zero_more (x ∷ s) b = and_assoc (eqb 0 x) (zero_bytes s) (eqb 0 b) ∙ ap (λ (t : Bool). eqb 0 x && t) (zero_more s b)

-- One byte more.
pub zero_turn : (s : List ℕ) (i seen : ℕ) → i < length s → eqb 0 seen ≡ zero_bytes (take i s) → eqb 0 (bit_or seen (get_or s i 0)) ≡ zero_bytes (take (i + 1) s)
zero_turn s i seen h e = rw (or_zero seen (get_or s i 0), e, add-one i, take-suc s i 0 h) (zero_more (take i s) (get_or s i 0))

pub zero_test : (n : ℕ) → eqb n 0 ≡ eqb 0 n
zero_test zero = refl
zero_test (suc n) = eqb-suc-zero n ∙ sym (eqb-zero-suc n)

-- Two bytes and three, or-ed and tested once.
or_test : (a b : ℕ) → eqb (bit_or a b) 0 ≡ (eqb 0 a && eqb 0 b)
or_test a b = zero_test (bit_or a b) ∙ or_zero a b

first_two : (s : List ℕ) → 2 ≤ length s → zero_bytes (take 2 s) ≡ eqb (bit_or (get_or s 0 0) (get_or s 1 0)) 0
first_two [] h = let no : ⊥ = omega arith in absurd no
first_two (a ∷ []) h = let no : ⊥ = omega arith in absurd no
first_two (a ∷ b ∷ s) h = ap (λ (t : Bool). eqb 0 a && t) (and-true (eqb 0 b)) ∙ sym (or_test a b)

pub one_zero : (a : ℕ) (s : List ℕ) → a < length s → zero_at a 1 s ≡ eqb (get_or s a 0) 0
one_zero a s h = rw (drop-cons s a 0 h) (and-true (eqb 0 (get_or s a 0)) ∙ sym (zero_test (get_or s a 0)))

pub two_zero : (a : ℕ) (s : List ℕ) → a + 2 ≤ length s → zero_at a 2 s ≡ eqb (bit_or (get_or s a 0) (get_or s (a + 1) 0)) 0
two_zero a s h = first_two (drop a s) (simp length-drop (omega arith)) ∙ simp (get_or-drop, add-zero)

first_three : (s : List ℕ) → 3 ≤ length s → zero_bytes (take 3 s) ≡ eqb (bit_or (bit_or (get_or s 0 0) (get_or s 1 0)) (get_or s 2 0)) 0
first_three [] h = let no : ⊥ = omega arith in absurd no
first_three (a ∷ []) h = let no : ⊥ = omega arith in absurd no
first_three (a ∷ b ∷ []) h = let no : ⊥ = omega arith in absurd no
first_three (a ∷ b ∷ c ∷ s) h =
    ap (λ (t : Bool). eqb 0 a && (eqb 0 b && t)) (and-true (eqb 0 c)) ∙ sym (and_assoc (eqb 0 a) (eqb 0 b) (eqb 0 c)) ∙ sym (or_test (bit_or a b) c ∙ ap (λ (t : Bool). t && eqb 0 c) (or_zero a b))

pub three_zero : (a : ℕ) (s : List ℕ) → a + 3 ≤ length s → zero_at a 3 s ≡ eqb (bit_or (bit_or (get_or s a 0) (get_or s (a + 1) 0)) (get_or s (a + 2) 0)) 0
three_zero a s h = first_three (drop a s) (simp length-drop (omega arith)) ∙ simp (get_or-drop, add-zero)

-- What the test finds, and what it stands for: the bytes are so many zeros.
pub zero_bytes_lem : (s : List ℕ) → zero_bytes s ≡ true → Zeros s
zero_bytes_lem [] e = tt
zero_bytes_lem (b ∷ s) e =
    let t = both_true (eqb 0 b) (zero_bytes s) e in
    (sym (eqb-true 0 b t.0), zero_bytes_lem s t.1)

pub zero_same : (s : List ℕ) → same_bytes (replicate (length s) 0) s ≡ zero_bytes s
zero_same [] = refl
zero_same (b ∷ s) = ap (λ (t : Bool). eqb 0 b && t) (zero_same s)

-- ---- bytes written one by one

pub paste_turn : (d : List ℕ) (at : ℕ) (s : List ℕ) (j i : ℕ) → at + j ≡ i → i < length d → j < length s → set (paste d at s j) i (get_or s j 0) ≡ paste d at s (suc j)
paste_turn d at s j i e l h = ap (λ (k : ℕ). set (paste d at s j) k (get_or s j 0)) (sym e) ∙ paste-suc d at s j 0 (omega arith) h

-- All of them.
pub paste_all : (d : List ℕ) (at : ℕ) (s : List ℕ) (n to : ℕ) → length s ≡ n → at + n ≡ to → paste d at s n ≡ take at d ++ s ++ drop to d
paste_all d at s n to e f = rw (take_all n s (omega arith), f)

-- ---- a number's bytes written

pub number_put : (s : List ℕ) (at n : ℕ) (bs : List ℕ) → length bs ≡ n → put_mid at (at + n - at) s bs ≡ put s at bs
unfolding put
number_put s at n bs e =
    let long : at + n - at ≡ n = omega arith in
    rw (long, ← e, drop-drop (length bs) at s) refl

pub be_two : (v : ℕ) → to_be_bytes w16 v ≡ bytes_of 2 v
be_two v = rw div-one refl

pub be_four : (v : ℕ) → to_be_bytes w32 v ≡ bytes_of 4 v
be_four v = rw div-one refl

pub be_eight : (v : ℕ) → to_be_bytes w64 v ≡ bytes_of 8 v
be_eight v = rw div-one refl

-- ---- bytes moved down over a gap, and what they leave

module _ (s : List ℕ) (at gap : ℕ) where
  behind_gap : (n : ℕ) → at + gap + n ≤ length s → length (take n (drop (at + gap) s)) ≡ n
  behind_gap n h = length-take-le n (drop (at + gap) s) (simp length-drop (omega arith))

  -- So many bytes more.
  pub gap_turn : (i w : ℕ) → at + gap + i + w ≤ length s
      → put (put s at (take i (drop (at + gap) s))) (at + i) (take w (drop (at + gap + i) (put s at (take i (drop (at + gap) s))))) ≡ put s at (take (i + w) (drop (at + gap) s))
  gap_turn i w h =
      let rest : List ℕ = drop (at + gap) s in
      let moved : List ℕ = take i rest in
      let many : length moved ≡ i = behind_gap i (omega arith) in
      rw (drop-put s at (at + gap + i) moved (omega arith) (omega arith), put-behind s at moved (at + i) (take w (drop (at + gap + i) s)) (omega arith) (omega arith), take-add i w rest, drop-drop i (at + gap) s) refl

  pub gap_closed : (n to : ℕ) → at + gap + n ≤ length s → at + n + gap ≡ to
      → take (at + n) (put s at (take n (drop (at + gap) s))) ++ replicate (to - (at + n)) 0 ++ drop to (put s at (take n (drop (at + gap) s))) ≡ put s at (take n (drop (at + gap) s) ++ replicate gap 0)
  gap_closed n to h e =
      let moved : List ℕ = take n (drop (at + gap) s) in
      let many : length moved ≡ n = behind_gap n h in
      put-replicate (put s at moved) (at + n) to gap 0 e ∙ put-behind s at moved (at + n) (replicate gap 0) (omega arith) (omega arith)

-- ---- zero bytes in two parts

zero_join : (s t : List ℕ) → zero_bytes (s ++ t) ≡ (zero_bytes s && zero_bytes t)
zero_join [] t = refl
zero_join (b ∷ s) t = ap (λ (x : Bool). eqb 0 b && x) (zero_join s t) ∙ sym (and_assoc (eqb 0 b) (zero_bytes s) (zero_bytes t))

pub zero_parts : (a n m : ℕ) (s : List ℕ) → zero_at a (n + m) s ≡ (zero_at a n s && zero_at (a + n) m s)
zero_parts a n m s = ap zero_bytes (take-add n m (drop a s)) ∙ zero_join (take n (drop a s)) (take m (drop n (drop a s))) ∙ ap (λ (t : List ℕ). zero_at a n s && zero_bytes (take m t)) (drop-drop n a s)
