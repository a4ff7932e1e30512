-- A record's set: its ones count the channels that take the record, its bits say which they are, and four channels fit four bits.
use Prim.Native.Nat.{ℕ, zero, suc, ◌+◌, ◌*◌, ◌/◌, ◌%◌, ◌^◌, ◌<◌, ◌≤◌}
use mathlib.Core.Path.{◌≡◌, refl, sym, ap, ◌∙◌}
use mathlib.Core.Bool.{Bool, true, false, cond}
use mathlib.Core.List.{List, [], ◌∷◌, map}
use native.Mathlib.Nat.{mul_comm, pow-succ', div-div-eq-div-mul}
use native.Mathlib.Omega.{arith}
use lib.ListN.{length, get_or, length-map}
use lib.Dec.{eqb}
use borrow.Author.Tests.{ne_eqb}
use lib.Count.{ones, ones_cat}
use lib.Pow.{pow_mono}
use Rattle.plan.specs.declared.Record.{Record}
use Rattle.plan.specs.Channel.{bit_set, takes}
use Rattle.plan.specs.Plan.{Plan, channel_at, keep_if, leaving}
use Rattle.plan.specs.Mask.{bits, set_of, among, taking, takes_at}
use Rattle.plan.proofs.MaskLaws.{ones_zero, ones_one}
use Rattle.plan.proofs.TakingLaws.{taking-among}

pub bit : (t : Bool) → cond t 1 0 < 2
bit true = omega arith
bit false = omega arith

-- The bits from one on, without the first of them.
pub halved : (x k : ℕ) → x / (2 ^ k) / 2 ≡ x / (2 ^ suc k)
halved x k = div-div-eq-div-mul x (2 ^ k) 2 ∙ ap (λ (y : ℕ). x / y) (mul_comm (2 ^ k) 2 ∙ sym (pow-succ' 2 k))

-- ---- how many

ones_bit : (t : Bool) → ones (cond t 1 0) ≡ cond t 1 0
ones_bit true = ones_one
ones_bit false = ones_zero

bits_ones : (f : ℕ → Bool) (cs : List ℕ) → ones (bits (map f cs)) ≡ length (among f cs)
bits_ones f [] = ones_zero
bits_ones f (c ∷ cs) = ap ones whole ∙ ones_cat 1 (bits (map f cs)) (cond (f c) 1 0) (bit (f c)) ∙ omega (arith, ones_bit (f c), bits_ones f cs) ∙ one (f c)
  where
    whole : cond (f c) 1 0 + 2 * bits (map f cs) ≡ bits (map f cs) * 2 ^ 1 + cond (f c) 1 0
    whole = omega arith

    one : (t : Bool) → cond t 1 0 + length (among f cs) ≡ length (keep_if t c (among f cs))
    one true = omega arith
    one false = omega arith

pub set_ones : (p : Plan) (n : ℕ) (r : Record) → ones (set_of p n r) ≡ length (taking p n r)
unfolding set_of
set_ones p n r = bits_ones (takes_at p r) (leaving p n) ∙ ap length (sym (taking-among p n r))

-- It is 0 where none of them takes the record.
none_twice : (x : ℕ) → eqb (2 * x) 0 ≡ eqb x 0
none_twice zero = refl
none_twice (suc x) = ne_eqb (2 * suc x) 0 (λ q. omega arith) ∙ sym (ne_eqb (suc x) 0 (λ q. omega arith))

bits_none : (f : ℕ → Bool) (cs : List ℕ) → eqb (bits (map f cs)) 0 ≡ eqb (length (among f cs)) 0
bits_none f [] = refl
bits_none f (c ∷ cs) = one (f c) (bits_none f cs)
  where
    one : (t : Bool) → eqb (bits (map f cs)) 0 ≡ eqb (length (among f cs)) 0 → eqb (cond t 1 0 + 2 * bits (map f cs)) 0 ≡ eqb (length (keep_if t c (among f cs))) 0
    one true e = ne_eqb (1 + 2 * bits (map f cs)) 0 (λ q. omega arith) ∙ sym (ne_eqb (suc (length (among f cs))) 0 (λ q. omega arith))
    one false e = ap (λ (x : ℕ). eqb x 0) (let q : 0 + 2 * bits (map f cs) ≡ 2 * bits (map f cs) = omega arith in q) ∙ none_twice (bits (map f cs)) ∙ e

pub set-none : (p : Plan) (n : ℕ) (r : Record) → eqb (set_of p n r) 0 ≡ eqb (length (taking p n r)) 0
unfolding set_of
set-none p n r = bits_none (takes_at p r) (leaving p n) ∙ ap (λ (cs : List ℕ). eqb (length cs) 0) (sym (taking-among p n r))

-- ---- which

bits_at : (f : ℕ → Bool) (cs : List ℕ) (k : ℕ) → k < length cs → bits (map f cs) / (2 ^ k) % 2 ≡ cond (f (get_or cs k 0)) 1 0
bits_at f [] k h = let no : ⊥ = omega arith in absurd no
bits_at f (c ∷ cs) zero h = omega (arith, bit (f c))
bits_at f (c ∷ cs) (suc k) h =
    let half : (cond (f c) 1 0 + 2 * bits (map f cs)) / 2 ≡ bits (map f cs) = omega (arith, bit (f c)) in
    ap (λ (x : ℕ). (cond (f c) 1 0 + 2 * bits (map f cs)) / x % 2) (pow-succ' 2 k)
    ∙ ap (λ (x : ℕ). x % 2) (sym (div-div-eq-div-mul (cond (f c) 1 0 + 2 * bits (map f cs)) 2 (2 ^ k)) ∙ ap (λ (x : ℕ). x / (2 ^ k)) half)
    ∙ bits_at f cs k (omega arith)

pub set-bit : (p : Plan) (n : ℕ) (r : Record) (k : ℕ) → k < length (leaving p n) → bit_set (set_of p n r) k ≡ takes (channel_at p (get_or (leaving p n) k 0)) r
unfolding set_of bit_set
set-bit p n r k h = ap (λ (x : ℕ). eqb x 1) (bits_at (takes_at p r) (leaving p n) k h) ∙ one (takes (channel_at p (get_or (leaving p n) k 0)) r)
  where
    one : (t : Bool) → eqb (cond t 1 0) 1 ≡ t
    one true = refl
    one false = refl

-- ---- how great

bits_below : (ts : List Bool) → bits ts < 2 ^ length ts
bits_below [] = omega arith
bits_below (t ∷ ts) = omega (arith, bit t, bits_below ts, pow-succ' 2 (length ts))

pub set_small : (p : Plan) (n : ℕ) (r : Record) → length (leaving p n) ≤ 4 → set_of p n r < 16
unfolding set_of
set_small p n r h = few (map (takes_at p r) (leaving p n)) (omega (arith, h, length-map (leaving p n) (takes_at p r)))
  where
    few : (ts : List Bool) → length ts ≤ 4 → bits ts < 16
    few ts l = omega (arith, bits_below ts, pow_mono l)
