-- A crashed node can always come back, on bytes: over what Load and Step answer and leave.
use Rattle.std.specs.Prelude.{ℕ, suc, ◌+◌, ◌<◌, ◌≤◌, ◌≡◌, ◌≢◌, false, List, ◌∷◌, length, replicate}
use Rattle.plan.specs.Lawful.{Each, Bytes}
use Rattle.rules.specs.Lists.{is_empty}
use Rattle.rules.specs.Line.{step_limit, console_count, steps_from, up, down, replay, node_at, lane_at, receiver_of}
use Rattle.rules.specs.Recover.{row_complete, recovered}
use Rattle.rules.specs.Restart.{take_frame, recover_frame, ask_frame, commit_frame, unless_used_up, OnEntering, Restarting, replay_steps, restart_steps, most_restart_steps}
use Rattle.state.specs.State.{line_of}
use Rattle.line.specs.Load.{load_answer, load_left}
use Rattle.line.specs.Step.{step_answer}
use Rattle.line.specs.Order.{state_after, story_of}
use Rattle.rules.specs.Frame.{Caller, console_of}

-- Frames of one caller's that bring node n back, each passed to Step with the state that the last call left: all are answered 0, and in the bytes at the end the node is up.
pub record ComesBackOnBytes (state : List ℕ) (w : Caller) (n : ℕ) : Type 0 where
  pub frames : List (List ℕ)
  pub bytes : Each Bytes frames
  pub few : length frames ≤ restart_steps (line_of state) n (node_at (line_of state) n).status
  pub shape : Restarting (line_of state).plan w n (node_at (line_of state) n).status frames
  pub accepted : (story_of state frames).numbers ≡ replicate (length frames) 0
  pub back : (node_at (line_of (state_after state frames)) n).status ≡ up

-- The same of a node that is down by Ask and Commit in the place of Recover (2026-07): the Ask is a step more.
pub record ComesBackAskedOnBytes (state : List ℕ) (w : Caller) (n : ℕ) : Type 0 where
  pub rest : List (List ℕ)
  pub bytes : Each Bytes (ask_frame w n ∷ commit_frame w n ∷ rest)
  pub few : length rest ≤ replay_steps (recovered n (line_of state)) n
  pub shape : OnEntering (line_of state).plan w n rest
  pub accepted : (story_of state (ask_frame w n ∷ commit_frame w n ∷ rest)).numbers ≡ replicate (2 + length rest) 0
  pub back : (node_at (line_of (state_after state (ask_frame w n ∷ commit_frame w n ∷ rest))) n).status ≡ up

-- Of what one caller asks.
pub record NeverStuckOnBytesFor (state : List ℕ) (w : Caller) : Type 0 where
  -- Recover of a node that is down is answered 0, or 12 if the caller's steps are used up.
  pub recovers : (n : ℕ) → (node_at (line_of state) n).status ≡ down → step_answer state (recover_frame w n) ≡ unless_used_up (line_of state) w
  -- So is a Take on an incomplete row of a replaying node whose channel has a message.
  pub replays : (b : ℕ) → (node_at (line_of state) (receiver_of (line_of state) b)).status ≡ replay → row_complete (line_of state) (receiver_of (line_of state) b) b ≡ false → is_empty (lane_at (line_of state) b).queue ≡ false
      → step_answer state (take_frame w b) ≡ unless_used_up (line_of state) w
  -- The node comes back, if the caller has steps left for it.
  pub comes_back : (n : ℕ) → steps_from (line_of state) (console_of w) + restart_steps (line_of state) n (node_at (line_of state) n).status ≤ step_limit → ComesBackOnBytes state w n
  -- A node that is down comes back by Ask and Commit too.
  pub comes_back_asked : (n : ℕ) → (node_at (line_of state) n).status ≡ down → steps_from (line_of state) (console_of w) + suc (restart_steps (line_of state) n down) ≤ step_limit → ComesBackAskedOnBytes state w n

pub record NeverStuckOnBytes (state : List ℕ) : Type 0 where
  -- No call answers 8 or 24.
  pub sound : (frame : List ℕ) → step_answer state frame ≢ 8
  pub placed : (frame : List ℕ) → step_answer state frame ≢ 24
  -- No restart is long.
  pub few_steps : (n : ℕ) → restart_steps (line_of state) n (node_at (line_of state) n).status ≤ most_restart_steps
  -- Whoever asks, in version 1 or from one of the consoles.
  pub asked : (w : Caller) → console_of w < console_count → NeverStuckOnBytesFor state w

-- After an accepted Load and any frames, of the state that the last call left.
abbrev pub AlwaysBackOnBytes : Type 0
AlwaysBackOnBytes = (plan lent : List ℕ) (frames : List (List ℕ)) → Bytes plan → Each Bytes frames → load_answer plan lent ≡ 0 → NeverStuckOnBytes (state_after (load_left plan lent) frames)
