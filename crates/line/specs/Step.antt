-- Step (document 01, "Numbers returned"): "Step 8 to 21 and then 24"; 25 comes after 11, 26 after 13 and 27 after 16 (document 02, 2026-01, 2026-04 and 2026-07).
use Rattle.std.specs.Prelude.{ℕ, true, false, List, eqb}
use Rattle.rules.specs.Step.{refusal, step}
use Rattle.state.specs.State.{line_bytes, line_of, state_answer}

-- 8: "state not 61,440 bytes, or (not for Load) damaged"; then 9 to 21 and 24 to 27 by the rules, of the line that the state holds and the frame.
unfoldable pub step_answer : List ℕ → List ℕ → ℕ
unfolding state_answer line_of refusal
step_answer state frame =
    elim (eqb (state_answer state) 0) [
      | true ↦ refusal (line_of state) frame
      | false ↦ state_answer state
    ]

-- The state afterwards: accepted, the line that the rules' step leads to; refused, as it was.
unfoldable pub step_left : List ℕ → List ℕ → List ℕ
unfolding step_answer line_of step line_bytes
step_left state frame =
    elim (eqb (step_answer state frame) 0) [
      | true ↦ line_bytes (step (line_of state) frame).line
      | false ↦ state
    ]
