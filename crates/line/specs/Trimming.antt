-- 2026-04's promises on bytes: over what Load and Step answer and leave.
use Rattle.std.specs.Prelude.{ℕ, ◌+◌, ◌<◌, ◌≡◌, ◌≢◌, true, List, length, replicate}
use Rattle.plan.specs.Lawful.{Each, Bytes}
use Rattle.rules.specs.Line.{log_limit, up, node_at}
use Rattle.rules.specs.Frame.{trim, frame_of}
use Rattle.rules.specs.Trim.{droppable, leading}
use Rattle.rules.specs.Trimming.{WithTrims, logs_at}
use Rattle.state.specs.State.{line_of, state_answer}
use Rattle.line.specs.Load.{load_answer, load_left}
use Rattle.line.specs.Step.{step_answer, step_left}
use Rattle.line.specs.Order.{state_after, story_of}

-- Frames that are all answered 0, from a state on.
abbrev pub AllAcceptedOnBytes : List ℕ → List (List ℕ) → Type 0
AllAcceptedOnBytes state frames = (story_of state frames).numbers ≡ replicate (length frames) 0

-- "trimming at whatever moment it is accepted changes nothing that anybody receives by a list of steps that are all accepted both with and without it, even where crashes follow": from the state that any frames after an accepted Load have left.
abbrev pub TrimsChangeNothingOnBytes : Type 0
TrimsChangeNothingOnBytes =
    (plan lent : List ℕ) (before with without : List (List ℕ)) → Bytes plan → Each Bytes before → Each Bytes with → Each Bytes without → load_answer plan lent ≡ 0 → WithTrims with without
    → (let state = state_after (load_left plan lent) before in AllAcceptedOnBytes state with → AllAcceptedOnBytes state without → (story_of state with).receipts ≡ (story_of state without).receipts)

-- "The freed entries are used by later steps": of every state that the check accepts.
abbrev pub TrimFreesOnBytes : Type 0
TrimFreesOnBytes =
    (state : List ℕ) (n : ℕ) (frame : List ℕ) → Bytes frame → state_answer state ≡ 0 → frame_of frame ≡ trim n → step_answer state frame ≡ 0
    → length (node_at (line_of (step_left state frame)) n).log + length (leading (droppable (line_of state) n) (node_at (line_of state) n).log) ≡ length (node_at (line_of state) n).log

abbrev pub FreedAreUsedOnBytes : Type 0
FreedAreUsedOnBytes =
    (state : List ℕ) (n : ℕ) (frame : List ℕ) → state_answer state ≡ 0 → (node_at (line_of state) n).status ≡ up → length (node_at (line_of state) n).log < log_limit → logs_at (line_of state) n (frame_of frame) ≡ true
    → step_answer state frame ≢ 21
