-- The check's answer and Write by cases.
use Prim.Native.Nat.{ℕ, ◌-◌, ◌≤◌, ◌<◌}
use mathlib.Core.Path.{◌≡◌, refl, sym, ap, ◌∙◌}
use mathlib.Core.Bool.{Bool, true, false, true≢false}
use mathlib.Core.List.{List, ◌++◌}
use native.Mathlib.Omega.{arith}
use borrow.Author.Tests.{eq-eqb, ne_eqb, le-leb, lt-leb}
use lib.Dec.{leb, eqb}
use lib.ListN.{length, take, drop}
use Rattle.plan.specs.Lawful.{Bytes}
use Rattle.plan.specs.Plan.{Plan, plan_of, plan_bytes, plan_size, size_by_head}
use Rattle.plan.proofs.PlanLaws.{head_size, plan-length, version_of, node_count_lem, channel_count_lem}
use Rattle.state.specs.Sizes.{state_size}
use Rattle.state.specs.State.{state_answer}
use Rattle.state.proofs.InPlace.{line-plan}
use Rattle.state.proofs.SpelledLaws.{state_sane, answer_eight}
use Rattle.state.proofs.StoredPlan.{stored_plan, stored_accepted}
use Rattle.state.proofs.AcceptedState.{state_checked_lem}
use Rattle.line.specs.Whole.{state_checked}
use Rattle.line.specs.Write.{loaded_plan, write_answer, write_left}
use Rattle.line.proofs.WholeLaws.{check_answer}
use Rattle.line.proofs.CheckLaws.{front_stored}

-- ---- the check's answer

pub size_wrong : (s : List ℕ) → (length s ≡ state_size → ⊥) → 8 ≡ state_answer s
size_wrong s h = sym (answer_eight s (λ a. h a.long))

pub state_wrong : (s : List ℕ) → length s ≡ state_size → Bytes s → state_checked s ≡ false → 8 ≡ state_answer s
state_wrong s long bytes e = sym (answer_eight s (λ a. absurd (true≢false (sym ((check_answer s long bytes).1 ((state_sane s).1 a)) ∙ e))))

-- ---- Write

-- The plan that an accepted state holds stands in front.
loaded_stored : (s : List ℕ) → Bytes s → state_answer s ≡ 0 → loaded_plan s ≡ stored_plan s
loaded_stored s bytes z = ap plan_bytes (line-plan s) ∙ ((stored_accepted s bytes).0 ((state_checked_lem s ((state_sane s).0 z).long bytes).0 z).0).1

pub loaded_long : (s : List ℕ) → length (loaded_plan s) ≡ size_by_head s
loaded_long s = ap (λ (p : Plan). length (plan_bytes p)) (line-plan s) ∙ plan-length (plan_of s) ∙ (λ i. plan_size (version_of s i) (node_count_lem s i) (channel_count_lem s i)) ∙ sym (head_size s)

abbrev answer_by : Bool → Bool → ℕ → ℕ
answer_by whole long refusal = elim whole [ true ↦ elim long [ true ↦ 0 | false ↦ 23 ] | false ↦ refusal ]

abbrev left_by : Bool → List ℕ → List ℕ → List ℕ
left_by done written plan = elim done [ true ↦ written | false ↦ plan ]

module _ (state plan : List ℕ) where
  answer_is : write_answer state plan ≡ answer_by (eqb (state_answer state) 0) (leb (length (loaded_plan state)) (length plan)) (state_answer state)
  unfolding write_answer
  answer_is = refl

  left_is : write_left state plan ≡ left_by (eqb (write_answer state plan) 0) (loaded_plan state ++ drop (length (loaded_plan state)) plan) plan
  unfolding write_left
  left_is = refl

  left_as_it_was : (n : ℕ) → (n ≡ 0 → ⊥) → n ≡ write_answer state plan → plan ≡ write_left state plan
  left_as_it_was n h e = sym (left_is ∙ rw (← e, ne_eqb n 0 h))

  pub write_refused : (state_answer state ≡ 0 → ⊥) → (state_answer state ≡ write_answer state plan) × (plan ≡ write_left state plan)
  write_refused h = let a : state_answer state ≡ write_answer state plan = sym (answer_is ∙ rw (ne_eqb (state_answer state) 0 h)) in (a, left_as_it_was (state_answer state) h a)

  pub write_short : state_answer state ≡ 0 → length plan < length (loaded_plan state) → (23 ≡ write_answer state plan) × (plan ≡ write_left state plan)
  write_short z h =
      let a : 23 ≡ write_answer state plan = sym (answer_is ∙ rw (eq-eqb (state_answer state) 0 z, lt-leb (length (loaded_plan state)) (length plan) h)) in
      (a, left_as_it_was 23 (λ e. omega arith) a)

  pub write_done : state_answer state ≡ 0 → length (loaded_plan state) ≤ length plan → (0 ≡ write_answer state plan) × (loaded_plan state ++ drop (length (loaded_plan state)) plan ≡ write_left state plan)
  write_done z h =
      let a : write_answer state plan ≡ 0 = answer_is ∙ rw (eq-eqb (state_answer state) 0 z, le-leb (length (loaded_plan state)) (length plan) h) in
      (sym a, sym (left_is ∙ rw a refl))

  -- What the code writes: so many of the state's first bytes.
  pub write_front : (size : ℕ) → size ≡ size_by_head state → Bytes state → state_answer state ≡ 0 → take (size - 0) state ≡ loaded_plan state
  write_front size is bytes z = front_stored state size is ∙ sym (loaded_stored state bytes z)
