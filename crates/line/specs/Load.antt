-- Load (document 01, "Numbers returned"): "Load checks 1 to 8".
use Rattle.std.specs.Prelude.{ℕ, true, false, List, length, eqb}
use Rattle.plan.specs.Plan.{plan_of}
use Rattle.plan.specs.Check.{plan_refusal}
use Rattle.rules.specs.Line.{initial_line}
use Rattle.state.specs.Sizes.{state_size}
use Rattle.state.specs.State.{line_bytes}

-- 1 to 7 are the plan's; then 8: "state not 61,440 bytes, or (not for Load) damaged".
unfoldable pub load_answer : List ℕ → List ℕ → ℕ
unfolding plan_refusal
load_answer plan state =
    elim (eqb (plan_refusal plan) 0) [
      | true ↦ elim (eqb (length state) state_size) [ true ↦ 0 | false ↦ 8 ]
      | false ↦ plan_refusal plan
    ]

-- The state afterwards: accepted, the line that the plan starts as; refused, as it was.
unfoldable pub load_left : List ℕ → List ℕ → List ℕ
unfolding load_answer plan_of initial_line line_bytes
load_left plan state =
    elim (eqb (load_answer plan state) 0) [
      | true ↦ line_bytes (initial_line (plan_of plan))
      | false ↦ state
    ]
