-- A number's digits are those that the library prints.
use Rattle.std.proofs.Common.{ℕ, zero, suc, ◌+◌, ◌/◌, ◌%◌, ◌^◌, ◌≤◌, ◌<◌, ◌≡◌, sym, ◌∙◌, List, [], ◌∷◌, ◌++◌, append_assoc, append-nil, length, false, eqb, arith}
use Rattle.std.specs.Fmt.{decimal as std·decimal}
use Rattle.std.proofs.lemmas.Fmt.{decimal_by_steps, length-decimal-le}
use borrow.Author.Tests.{ne_eqb}
use Rattle.rules.specs.Sheet.{digits, decimal}

-- Enough steps write all digits in front of a text.
abbrev Digits : ℕ → List ℕ → Type 0
Digits n ds = (k : ℕ) (text : List ℕ) → n < 10 ^ suc k → digits (suc k) n text ≡ ds ++ text

one_digit : (n : ℕ) → n < 10 → Digits n ((48 + n) ∷ [])
one_digit n less k text h =
    let none : n / 10 ≡ 0 = omega arith in
    let same : n % 10 ≡ n = omega arith in
    rw (none, same, digits)

more_digits : (n : ℕ) (ds : List ℕ) → 10 ≤ n → Digits (n / 10) ds → Digits n (ds ++ (48 + n % 10) ∷ [])
more_digits n ds more front zero text h = absurd (omega arith)
more_digits n ds more front (suc k) text h =
    let some : eqb (n / 10) 0 ≡ false = ne_eqb (n / 10) 0 (omega arith) in
    rw (some, digits) (front k ((48 + n % 10) ∷ text) (omega arith) ∙ sym (append_assoc ds ((48 + n % 10) ∷ []) text))

pub decimal_same : (n : ℕ) → n < 2 ^ 64 → decimal n ≡ std·decimal n
unfolding decimal
decimal_same n h = decimal_by_steps Digits one_digit more_digits n h 19 [] (omega arith) ∙ append-nil (std·decimal n)

-- One of 64 bits, and one of 32.
pub decimal-most : (n : ℕ) → n < 2 ^ 64 → length (decimal n) ≤ 20
decimal-most n h = rw (decimal_same n h) (length-decimal-le 20 n (omega arith) (omega arith) h)

pub number_few : (n : ℕ) → n < 2 ^ 32 → length (decimal n) ≤ 10
number_few n h = rw (decimal_same n (omega arith)) (length-decimal-le 10 n (omega arith) (omega arith) (omega arith))
