-- 2026-05's promise on bytes: over what Load and Step answer and leave.
use Rattle.std.specs.Prelude.{ℕ, ◌≡◌, List, [], ◌∷◌}
use Rattle.plan.specs.Lawful.{Each, Bytes}
use Rattle.plan.specs.Plan.{plan_of}
use Rattle.rules.specs.Frame.{frame_of}
use Rattle.rules.specs.Ticks.{FollowedFrames, frames_of, Trace, onward, no_trace, FloorsReached, NoneTaken}
use Rattle.state.specs.State.{line_of}
use Rattle.line.specs.Load.{load_answer, load_left}
use Rattle.line.specs.Step.{step_answer, step_left}
use Rattle.line.specs.Order.{state_after}

-- The trace that the calls leave, behind another: by their answers, and by the lines in the states passed and left.
abbrev pub trace_behind : Trace → List ℕ → FollowedFrames → Trace
trace_behind t state [] = t
trace_behind t state ((follow, f) ∷ rest) = trace_behind (onward t (follow, f) (step_answer state f) (line_of (step_left state f))) (step_left state f) rest

unfoldable pub trace_of : List ℕ → FollowedFrames → Trace
unfolding step_answer step_left line_of frame_of
trace_of state frames = trace_behind (no_trace (line_of state)) state frames

-- After an accepted Load and any frames, crashes among them, and then any frames some of which are followed.
abbrev pub FloorsRiseOnBytes : Type 0
FloorsRiseOnBytes =
    (plan lent : List ℕ) (before : List (List ℕ)) (frames : FollowedFrames) → Bytes plan → Each Bytes before → Each Bytes (frames_of frames) → load_answer plan lent ≡ 0
    → FloorsReached (plan_of plan) (trace_of (state_after (load_left plan lent) before) frames)

-- No replaying node takes a message that is followed.
abbrev pub NoneInReplayOnBytes : Type 0
NoneInReplayOnBytes =
    (plan lent : List ℕ) (before : List (List ℕ)) (frames : FollowedFrames) → Bytes plan → Each Bytes before → Each Bytes (frames_of frames) → load_answer plan lent ≡ 0
    → (let state = state_after (load_left plan lent) before in let t = trace_of state frames in t.crashes ≡ [] → (f : List ℕ) → step_answer (state_after state (frames_of frames)) f ≡ 0 → NoneTaken t (frame_of f))
