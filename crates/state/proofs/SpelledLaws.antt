-- Bytes that spell a line: they are what their line is written as.
use Prim.Native.Nat.{ℕ}
use mathlib.Core.Path.{◌≡◌, refl, sym, ap, ap₂, ◌∙◌}
use mathlib.Core.Logic.{◌↔◌}
use mathlib.Core.Bool.{Bool, true, false, not, ◌||◌, true≢false}
use mathlib.Core.List.{List, [], ◌∷◌}
use native.Mathlib.Omega.{arith}
use borrow.Author.Tests.{eqb-true, eq-eqb, not-false}
use lib.Dec.{eqb}
use lib.ListN.{length}
use Rattle.basics.specs.Bools.{both_true, neither_true}
use Rattle.rules.specs.Damaged.{damaged}
use Rattle.state.specs.Sizes.{state_size}
use Rattle.state.specs.State.{line_bytes, line_of, same_bytes, unspelled, state_damaged, state_answer}

pub same_bytes_lem : (s t : List ℕ) → same_bytes s t ≡ true → s ≡ t
same_bytes_lem [] [] e = refl
same_bytes_lem [] (b ∷ t) e = absurd (true≢false (sym e))
same_bytes_lem (a ∷ s) [] e = absurd (true≢false (sym e))
same_bytes_lem (a ∷ s) (b ∷ t) e =
    let k = both_true (eqb a b) (same_bytes s t) e in
    ap₂ (λ (x : ℕ) (xs : List ℕ). x ∷ xs) (eqb-true a b k.0) (same_bytes_lem s t k.1)

bytes_same : (s : List ℕ) → same_bytes s s ≡ true
bytes_same [] = refl
bytes_same (b ∷ s) = rw (eq-eqb b b refl, bytes_same s)

pub line-written : (s : List ℕ) → (unspelled s ≡ false) ↔ (line_bytes (line_of s) ≡ s)
unfolding unspelled
line-written s = (
  λ e. same_bytes_lem (line_bytes (line_of s)) s (not-false (same_bytes (line_bytes (line_of s)) s) e),
  λ e. ap not (ap (λ (t : List ℕ). same_bytes t s) e ∙ bytes_same s),
)

-- A state is accepted where it is as long as it should be, is what its line is written as, and the line is not damaged.
pub record Sane (s : List ℕ) : Type 0 where
  pub long : length s ≡ state_size
  pub written : line_bytes (line_of s) ≡ s
  pub undamaged : damaged (line_of s) ≡ false

abbrev first_of : Bool → Bool → ℕ
first_of a b = elim a [ true ↦ elim b [ true ↦ 8 | false ↦ 0 ] | false ↦ 8 ]

answer_first : (s : List ℕ) → state_answer s ≡ first_of (eqb (length s) state_size) (state_damaged s)
unfolding state_answer
answer_first s = refl

none_applies : (a b : Bool) → first_of a b ≡ 0 → (a ≡ true) × (b ≡ false)
none_applies true true e = let no : ⊥ = omega arith in absurd no
none_applies true false e = (refl, refl)
none_applies false b e = let no : ⊥ = omega arith in absurd no

either_false : (a b : Bool) → a ≡ false → b ≡ false → (a || b) ≡ false
either_false a b e f = rw (e, f)

damaged-parts : (s : List ℕ) → state_damaged s ≡ (unspelled s || damaged (line_of s))
unfolding state_damaged
damaged-parts s = refl

pub state_sane : (s : List ℕ) → (state_answer s ≡ 0) ↔ Sane s
state_sane s = (
  λ z.
      let k = none_applies (eqb (length s) state_size) (state_damaged s) (sym (answer_first s) ∙ z) in
      let d = neither_true (unspelled s) (damaged (line_of s)) (sym (damaged-parts s) ∙ k.1) in
      record { long = eqb-true (length s) state_size k.0; written = (line-written s).0 d.0; undamaged = d.1 },
  λ a. answer_first s ∙ ap₂ first_of (eq-eqb (length s) state_size a.long) (damaged-parts s ∙ either_false (unspelled s) (damaged (line_of s)) ((line-written s).1 a.written) a.undamaged),
)

-- It answers 0 or 8.
pub answer_eight : (s : List ℕ) → (Sane s → ⊥) → state_answer s ≡ 8
answer_eight s h = one (eqb (length s) state_size) (state_damaged s) refl refl
  where
    one : (a b : Bool) → eqb (length s) state_size ≡ a → state_damaged s ≡ b → state_answer s ≡ 8
    one true true e f = answer_first s ∙ ap₂ first_of e f
    one true false e f = absurd (h ((state_sane s).0 (answer_first s ∙ ap₂ first_of e f)))
    one false b e f = answer_first s ∙ ap₂ first_of e f
