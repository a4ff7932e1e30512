-- Write (document 01, "Numbers returned"): "Write 8 and 23".
use Rattle.std.specs.Prelude.{ℕ, ◌≤◌, ◌≡◌, true, false, List, ◌++◌, length, drop, leb, eqb}
use Rattle.plan.specs.Plan.{plan_bytes}
use Rattle.plan.specs.Lawful.{Each, Bytes}
use Rattle.state.specs.State.{line_of, state_answer}
use Rattle.line.specs.Load.{load_answer, load_left}
use Rattle.line.specs.Order.{state_after}

-- The bytes of the plan that a state holds.
abbrev pub loaded_plan : List ℕ → List ℕ
loaded_plan state = plan_bytes (line_of state).plan

-- 8: "state not 61,440 bytes, or (not for Load) damaged"; then 23: "output shorter than needed".
unfoldable pub write_answer : List ℕ → List ℕ → ℕ
unfolding state_answer plan_bytes line_of
write_answer state plan =
    elim (eqb (state_answer state) 0) [
      | true ↦ elim (leb (length (loaded_plan state)) (length plan)) [ true ↦ 0 | false ↦ 23 ]
      | false ↦ state_answer state
    ]

-- The output afterwards: accepted, the plan's bytes and past them what was there ("Write and Placing leave bytes or places past their result unchanged"); refused, as it was.
unfoldable pub write_left : List ℕ → List ℕ → List ℕ
unfolding write_answer plan_bytes line_of
write_left state plan =
    elim (eqb (write_answer state plan) 0) [
      | true ↦ loaded_plan state ++ drop (length (loaded_plan state)) plan
      | false ↦ plan
    ]

-- 2026-02: "Write gives back the version that was loaded": after an accepted Load and any frames, the very bytes.
pub record GivenBack (p t out : List ℕ) : Type 0 where
  pub number : write_answer t out ≡ 0
  pub left : write_left t out ≡ p ++ drop (length p) out

abbrev pub GivesBack : Type 0
GivesBack =
    (p lent out : List ℕ) (frames : List (List ℕ)) → Bytes p → Each Bytes frames → load_answer p lent ≡ 0 → length p ≤ length out → GivenBack p (state_after (load_left p lent) frames) out
