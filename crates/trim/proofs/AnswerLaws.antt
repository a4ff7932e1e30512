-- What Trim answers is the rules' number.
use Prim.Native.Nat.{ℕ, suc, ◌+◌, ◌-◌, ◌≤◌, ◌<◌}
use mathlib.Core.Path.{◌≡◌, refl, sym, ap, ◌∙◌}
use mathlib.Core.Logic.{◌≢◌}
use mathlib.Core.Bool.{Bool, true, false, not, ◌||◌, or_assoc, or-false}
use native.Mathlib.Omega.{arith}
use lib.Dec.{leb}
use borrow.Author.Tests.{leb-false, le-leb, lt-leb}
use Rattle.answers.specs.declared.Refusal.{Refusal}
use Rattle.answers.specs.Number.{refusal_number}
use Rattle.plan.specs.Plan.{node_count}
use Rattle.rules.specs.Lists.{any_of, up_to}
use Rattle.rules.specs.Line.{Line, node_at, is_up}
use Rattle.rules.specs.Frame.{trim}
use Rattle.rules.specs.Step.{not_all_up, no_placing, effect, line_refusal}
use Rattle.trim.specs.Trimmed.{trim_answer}

pub refused : (r : Refusal) → refusal_number r ≢ 0
refused r e = grind arith

module _ (l : Line) where
  abbrev stopped : ℕ → Bool
  stopped n = not (is_up (node_at l n).status)

  -- The nodes from n on, of so many.
  abbrev pub stopped_from : ℕ → ℕ → Bool
  stopped_from n count = any_of (λ (n : ℕ). not (is_up (node_at l n).status)) (up_to n (count - n))

  pub stopped_turn : (n count : ℕ) (found whole halted : Bool) → n < count → halted ≡ stopped n → (found || stopped_from n count) ≡ whole → ((found || halted) || stopped_from (n + 1) count) ≡ whole
  stopped_turn n count found whole halted h is e =
      let more : count - n ≡ suc (count - (n + 1)) = omega arith in
      let next : n + 1 ≡ suc n = omega arith in
      ap (λ (t : Bool). (found || t) || stopped_from (n + 1) count) is
      ∙ or_assoc found (stopped n) (stopped_from (n + 1) count)
      ∙ ap (λ (k : ℕ). found || (stopped n || any_of stopped (up_to k (count - (n + 1))))) next
      ∙ ap (λ (k : ℕ). found || any_of stopped (up_to n k)) (sym more) ∙ e

  pub stopped_end : (n count : ℕ) (found whole : Bool) → count ≤ n → (found || stopped_from n count) ≡ whole → found ≡ whole
  stopped_end n count found whole h e =
      let none : count - n ≡ 0 = omega arith in
      sym (or-false found) ∙ ap (λ (k : ℕ). found || any_of stopped (up_to n k)) (sym none) ∙ e

  module _ (n : ℕ) where
    abbrev first : Bool → Bool → ℕ
    first missing halted = elim missing [ true ↦ 13 | false ↦ elim halted [ true ↦ 26 | false ↦ 0 ] ]

    pub none_such : node_count l.plan ≤ n → 13 ≡ trim_answer l n
    none_such h = ap (λ (v : Bool). first v (not_all_up l)) (sym (le-leb (node_count l.plan) n h))

    pub not_now : n < node_count l.plan → (halted : Bool) → not_all_up l ≡ halted → first false halted ≡ trim_answer l n
    not_now h halted e = ap (first false) (sym e) ∙ ap (λ (v : Bool). first v (not_all_up l)) (sym (lt-leb (node_count l.plan) n h))

    pub trim_number : line_refusal l (trim n) ≡ trim_answer l n
    unfolding line_refusal no_placing effect
    trim_number = refl

    pub trim_inside : trim_answer l n ≡ 0 → n < node_count l.plan
    trim_inside e = leb-false (node_count l.plan) n (one (leb (node_count l.plan) n) e)
      where
        one : (v : Bool) → ◌≡◌ {A = ℕ} (elim v [ true ↦ 13 | false ↦ elim (not_all_up l) [ true ↦ 26 | false ↦ 0 ] ]) 0 → v ≡ false
        one true z = let no : ⊥ = omega arith in absurd no
        one false z = refl
