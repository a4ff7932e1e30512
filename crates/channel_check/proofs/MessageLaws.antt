-- Messages in the state's bytes.
use Prim.Native.Nat.{ℕ, ◌+◌, ◌-◌, ◌≤◌}
use mathlib.Core.Path.{◌≡◌, refl, sym, ap, ◌∙◌}
use mathlib.Core.Bool.{Bool, true, false, ◌&&◌, and-true}
use mathlib.Core.List.{List}
use native.Mathlib.Omega.{arith}
use borrow.Author.Tests.{eq-eqb, ne_eqb}
use lib.Bits.{bit_or}
use lib.Dec.{eqb}
use lib.ListN.{length, get_or}
use Rattle.plan.specs.Plan.{plan_of, entering, is_source}
use Rattle.rules.specs.Line.{Message, accepted_steps}
use Rattle.state.specs.Pieces.{origin_from}
use Rattle.state.specs.Right.{word_at}
use Rattle.state.specs.State.{line_of}
use Rattle.state.proofs.InPlace.{line-plan}
use Rattle.items.specs.Items.{if_found, from_sender, time_right, record_right, named_right}
use Rattle.buffer.specs.Exact.{zero_at, record_exact, time_named, origin_exact, message_exact}
use Rattle.buffer.specs.Check.{record_in}
use Rattle.buffer.proofs.BytesLaws.{three_zero}
use Rattle.buffer.proofs.PieceReads.{message_in}
use Rattle.buffer.proofs.OriginLaws.{origin-none, origin_some}
use Rattle.channel_check.specs.Channel.{message_at, message_ok}

-- ---- what node n made something from

module _ (s : List ℕ) (steps : ℕ) (all : steps ≡ accepted_steps (line_of s)) (n : ℕ) where
  pub named_fed : (from t : ℕ) → from ≡ 0 → (eqb t 0 && is_source (plan_of s) n) ≡ (time_named from t && named_right (line_of s) n (origin_from from t))
  unfolding named_right
  named_fed from t e = rw (eq-eqb from 0 e, origin-none t from e, line-plan s) refl

  pub named_made : (from t : ℕ) (parent : Bool) → (from ≡ 0 → ⊥) → parent ≡ if_found (from_sender (line_of s).plan (from - 1) (entering (line_of s).plan n)) (λ (b : ℕ). true)
      → (time_right steps t && parent) ≡ (time_named from t && named_right (line_of s) n (origin_from from t))
  unfolding named_right
  named_made from t parent h is = rw (ne_eqb from 0 h, origin_some t from h, is, all) refl

-- ---- a message

module _ (a : ℕ) (s : List ℕ) where
  pub message_time : word_at (a + 8) s ≡ (message_at s a).time
  message_time = sym (ap (λ m. m.time) (message_in a s))

parts : (r w o n z : Bool) → (((r && w) && (o && n)) && z) ≡ (((r && o) && z) && (w && n))
parts true true true true z = sym (and-true z)
parts true true true false true = refl
parts true true true false false = refl
parts true true false n z = refl
parts true false true n true = refl
parts true false true n false = refl
parts true false false n z = refl
parts false w o n z = refl

unused_zero : (s : List ℕ) (a : ℕ) → a + 20 ≤ length s → eqb (bit_or (bit_or (get_or s (a + 17) 0) (get_or s (a + 18) 0)) (get_or s (a + 19) 0)) 0 ≡ zero_at (a + 17) 3 s
unused_zero s a h =
    let second : a + 18 ≡ a + 17 + 1 = omega arith in
    let third : a + 19 ≡ a + 17 + 2 = omega arith in
    rw (second, third) (sym (three_zero (a + 17) s (omega arith)))

ok_is : (s : List ℕ) (n a : ℕ) → message_ok s n a ≡ (message_exact a s && (record_right (message_at s a).what && named_right (line_of s) n (message_at s a).origin))
unfolding message_ok
ok_is s n a = refl

module _ (s : List ℕ) (n a q t : ℕ) (sender : q ≡ get_or s (a + 12) 0) (time : t ≡ word_at (a + 13) s) where
  exact_is : message_exact a s ≡ (record_exact a s && origin_exact (a + 12) s && zero_at (a + 17) 3 s)
  unfolding message_exact
  exact_is = refl

  ok_parts : message_ok s n a ≡ ((record_exact a s && origin_exact (a + 12) s && zero_at (a + 17) 3 s) && (record_right (record_in a s) && named_right (line_of s) n (origin_from (get_or s (a + 12) 0) (word_at (a + 12 + 1) s))))
  ok_parts = ok_is s n a ∙ ap (λ (m : Message). message_exact a s && (record_right m.what && named_right (line_of s) n m.origin)) (message_in a s)
      ∙ ap (λ (x : Bool). x && (record_right (record_in a s) && named_right (line_of s) n (origin_from (get_or s (a + 12) 0) (word_at (a + 12 + 1) s)))) exact_is

  time_at_lem : t ≡ word_at (a + 12 + 1) s
  time_at_lem = let same : a + 13 ≡ a + 12 + 1 = omega arith in time ∙ ap (λ (x : ℕ). word_at x s) same

  pub message_tested : a + 20 ≤ length s → (what named : Bool) → what ≡ (record_exact a s && record_right (record_in a s)) → named ≡ (time_named q t && named_right (line_of s) n (origin_from q t))
      → ((what && named) && eqb (bit_or (bit_or (get_or s (a + 17) 0) (get_or s (a + 18) 0)) (get_or s (a + 19) 0)) 0) ≡ message_ok s n a
  message_tested long what named f g =
      rw (f, g, unused_zero s a long, ok_parts, sender, time_at_lem)
      (parts (record_exact a s) (record_right (record_in a s)) (origin_exact (a + 12) s) (named_right (line_of s) n (origin_from (get_or s (a + 12) 0) (word_at (a + 12 + 1) s))) (zero_at (a + 17) 3 s))
