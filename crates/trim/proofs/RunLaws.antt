-- The run of a log that goes, by the floor times.
use Prim.Native.Nat.{ℕ, zero, suc, ◌≤◌, ◌<◌}
use mathlib.Core.Path.{◌≡◌, refl, sym, ap, ◌∙◌}
use mathlib.Core.Bool.{Bool, true, false}
use mathlib.Core.Logic.{inl, inr}
use mathlib.Core.List.{List, [], ◌∷◌}
use native.Mathlib.Omega.{arith}
use lib.Dec.{leb, eqb, leb-suc-zero, eqb-suc-zero}
use lib.ListN.{length, get_or, take, drop, get_or-eq_default}
use Rattle.basics.specs.Bools.{below_or_not}
use Rattle.rules.specs.Line.{Origin, fed, made, Entry, Node, Line, fresh_node, node_at}
use Rattle.rules.specs.Trim.{entries_for, floor_time, sender_below, droppable, leading, behind}
use Rattle.rules.proofs.Lists.Members.{here, in_least}
use Rattle.buffer.specs.Rows.{Rows}
use Rattle.trim.specs.Trimmed.{sender_within, entry_within}

-- ---- the run as a number

module _ {A : Type 0} (f : A → Bool) where
  pub leading_front : (xs : List A) → take (length (leading f xs)) xs ≡ leading f xs
  leading_front [] = refl
  leading_front (x ∷ xs) = one (f x) (leading_front xs)
    where
      front : Bool → List A
      front v = elim v [ true ↦ x ∷ leading f xs | false ↦ [] ]

      one : (v : Bool) → take (length (leading f xs)) xs ≡ leading f xs → take (length (front v)) (x ∷ xs) ≡ front v
      one true e = ap (λ (ys : List A). x ∷ ys) e
      one false e = refl

  pub behind_rest : (xs : List A) → drop (length (leading f xs)) xs ≡ behind f xs
  behind_rest [] = refl
  behind_rest (x ∷ xs) = one (f x) (behind_rest xs)
    where
      front : Bool → List A
      front v = elim v [ true ↦ x ∷ leading f xs | false ↦ [] ]

      one : (v : Bool) → drop (length (leading f xs)) xs ≡ behind f xs → drop (length (front v)) (x ∷ xs) ≡ (elim v [ true ↦ behind f xs | false ↦ x ∷ xs ])
      one true e = e
      one false e = refl

  -- It ends before the first that fails, or at the end.
  pub run_ends : (d : A) (xs : List A) (i : ℕ) → i ≤ length xs → ((j : ℕ) → j < i → f (get_or xs j d) ≡ true) → (i < length xs → f (get_or xs i d) ≡ false) → i ≡ length (leading f xs)
  run_ends d [] i h pass stop = omega arith
  run_ends d (x ∷ xs) zero h pass stop = sym (ap (λ (v : Bool). length {A = A} (elim v [ true ↦ x ∷ leading f xs | false ↦ [] ])) (stop (omega arith)))
  run_ends d (x ∷ xs) (suc i) h pass stop =
      ap suc (run_ends d xs i (omega arith) (λ j k. pass (suc j) (omega arith)) (λ k. stop (omega arith)))
      ∙ sym (ap (λ (v : Bool). length {A = A} (elim v [ true ↦ x ∷ leading f xs | false ↦ [] ])) (pass 0 (omega arith)))

-- ---- by the floor times

pub within_none : (n : ℕ) → eqb n 0 ≡ leb n 0
within_none zero = refl
within_none (suc n) = eqb-suc-zero n ∙ sym (leb-suc-zero n)

-- A node that is not there has time 0.
pub no_time : (l : Line) (q : ℕ) → length l.nodes ≤ q → (node_at l q).time ≡ 0
no_time l q h = ap (λ (x : Node). x.time) (get_or-eq_default l.nodes fresh_node h)

module _ (l : Line) (floors : List ℕ) (known : Rows floors (floor_time l)) (few : length l.nodes ≤ 12) where
  floor_at : (q : ℕ) → get_or floors q 0 ≡ floor_time l q
  unfolding floor_time
  floor_at q = elim (below_or_not q 12) [
    | inl h ↦ known.each q h
    | inr h ↦
        (let none = no_time l q (omega arith) in
        let least : floor_time l q ≤ (node_at l q).time = in_least (here {xs = entries_for l q}) in
        get_or-eq_default floors 0 (omega (arith, known.long)) ∙ omega arith)
  ]

  sender_is : (o : Origin) → sender_within floors o ≡ sender_below l o
  sender_is fed = refl
  sender_is (made s t) = ap (leb t) (floor_at s)

  pub entry_is_lem : (n : ℕ) (e : Entry) → entry_within floors n e ≡ droppable l n e
  unfolding droppable
  entry_is_lem n e = rw (floor_at n, sender_is e.origin)
