-- Load by cases: the plan is refused, the state has another size, or the line is loaded.
use Prim.Native.Nat.{ℕ, ◌-◌, ◌≤◌}
use mathlib.Core.Path.{◌≡◌, refl, sym, ap, ◌∙◌}
use mathlib.Core.Bool.{Bool, true, false}
use mathlib.Core.List.{List, ◌++◌, append-nil}
use native.Mathlib.Omega.{arith}
use borrow.Author.Tests.{eq-eqb, ne_eqb, eqb-true}
use lib.Dec.{eqb}
use lib.ListN.{length, take, drop, replicate, drop_of_length-le}
use lib.Seq.{take-append_seam}
use Rattle.plan.specs.Lawful.{Bytes}
use Rattle.plan.specs.Plan.{plan_of, plan_version, plan_nodes, plan_channels}
use Rattle.plan.specs.Check.{plan_refusal}
use Rattle.plan.proofs.CheckLaws.{accepted}
use Rattle.plan.proofs.PlanLaws.{head_size, plan_size-most}
use Rattle.rules.specs.Line.{Line, initial_line}
use Rattle.rules.proofs.Undamaged.StartSound.{start_undamaged}
use Rattle.state.specs.Sizes.{state_size, plan_area}
use Rattle.state.specs.State.{line_bytes, line_of, state_answer}
use Rattle.state.proofs.StartLaws.{start_bytes}
use Rattle.state.proofs.LineLaws.{line_read}
use Rattle.state.proofs.AcceptedState.{undamaged_accepted}
use Rattle.state.proofs.Undamaged.{undamaged_fits}
use Rattle.line.specs.Load.{load_answer, load_left}

abbrev answer_by : Bool → Bool → ℕ → ℕ
answer_by whole sized refusal = elim whole [ true ↦ elim sized [ true ↦ 0 | false ↦ 8 ] | false ↦ refusal ]

abbrev left_by : Bool → List ℕ → List ℕ → List ℕ
left_by done line state = elim done [ true ↦ line | false ↦ state ]

pub plan_short : (plan : List ℕ) → plan_refusal plan ≡ 0 → length plan ≤ plan_area
plan_short plan z = let a = accepted plan z in omega (arith, a.sized, a.nodes_most, a.channels_most, head_size plan, plan_size-most (plan_version plan) (plan_nodes plan) (plan_channels plan))

module _ (plan state : List ℕ) where
  answer_is : load_answer plan state ≡ answer_by (eqb (plan_refusal plan) 0) (eqb (length state) state_size) (plan_refusal plan)
  unfolding load_answer
  answer_is = refl

  left_is : load_left plan state ≡ left_by (eqb (load_answer plan state) 0) (line_bytes (initial_line (plan_of plan))) state
  unfolding load_left
  left_is = refl

  left_as_it_was : (n : ℕ) → (n ≡ 0 → ⊥) → n ≡ load_answer plan state → state ≡ load_left plan state
  left_as_it_was n h e = sym (left_is ∙ rw (← e, ne_eqb n 0 h))

  pub plan_refused : (plan_refusal plan ≡ 0 → ⊥) → (plan_refusal plan ≡ load_answer plan state) × (state ≡ load_left plan state)
  plan_refused h = let a : plan_refusal plan ≡ load_answer plan state = sym (answer_is ∙ rw (ne_eqb (plan_refusal plan) 0 h)) in (a, left_as_it_was (plan_refusal plan) h a)

  pub size_refused : plan_refusal plan ≡ 0 → (length state ≡ state_size → ⊥) → (8 ≡ load_answer plan state) × (state ≡ load_left plan state)
  size_refused z h =
      let a : 8 ≡ load_answer plan state = sym (answer_is ∙ rw (eq-eqb (plan_refusal plan) 0 z, ne_eqb (length state) state_size h)) in
      (a, left_as_it_was 8 (λ e. omega arith) a)

  pub loaded : Bytes plan → plan_refusal plan ≡ 0 → length state ≡ state_size → (0 ≡ load_answer plan state) × (plan ++ replicate (state_size - length plan) 0 ≡ load_left plan state)
  loaded h z e =
      let a : load_answer plan state ≡ 0 = answer_is ∙ rw (eq-eqb (plan_refusal plan) 0 z, eq-eqb (length state) state_size e) in
      (sym a, sym (left_is ∙ rw a (start_bytes plan z h)))

  -- An accepted Load: the plan is not refused, and the state becomes its line.
  pub load_accepted : load_answer plan state ≡ 0 → (plan_refusal plan ≡ 0) × (load_left plan state ≡ line_bytes (initial_line (plan_of plan)))
  load_accepted z = (not_refused (eqb (plan_refusal plan) 0) refl (sym answer_is ∙ z), left_is ∙ rw z refl)
    where
      not_refused : (b : Bool) → eqb (plan_refusal plan) 0 ≡ b → answer_by b (eqb (length state) state_size) (plan_refusal plan) ≡ 0 → plan_refusal plan ≡ 0
      not_refused true e f = eqb-true (plan_refusal plan) 0 e
      not_refused false e f = f

  -- What the code writes: the plan to the front, then 0 behind it.
  pub load_written : (copied : List ℕ) → copied ≡ plan ++ drop (length plan) state → length copied ≡ state_size
      → take (length plan) copied ++ replicate (state_size - length plan) 0 ++ drop state_size copied ≡ plan ++ replicate (state_size - length plan) 0
  load_written copied e size = rw (drop_of_length-le copied {i = state_size} (omega arith), append-nil, e, take-append_seam)

-- A loaded state is undamaged, and its line is the plan's first.
pub record Loaded (plan state : List ℕ) : Type 0 where
  pub accepted : state_answer state ≡ 0
  pub line : line_of state ≡ initial_line (plan_of plan)

pub load_right : (plan state : List ℕ) → Bytes plan → load_answer plan state ≡ 0 → Loaded plan (load_left plan state)
load_right plan state bytes z =
    let (not_refused, left) = load_accepted plan state z in
    let undamaged = start_undamaged plan bytes not_refused in
    let first : Line = initial_line (plan_of plan) in
    record {
      accepted = ap state_answer left ∙ undamaged_accepted first undamaged;
      line = ap line_of left ∙ line_read first (undamaged_fits first undamaged);
    }
