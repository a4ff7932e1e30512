-- A crashed node can always come back. No paper asks for it; operators do: "can a restart get stuck?"
use Rattle.std.specs.Prelude.{ℕ, suc, ◌+◌, ◌<◌, ◌≤◌, ◌≡◌, ◌≢◌, true, false, cond, ◌&&◌, List, [], ◌∷◌, map, length, replicate, ltb}
use Rattle.plan.specs.Layout.{sum_of}
use Rattle.plan.specs.Channel.{takes}
use Rattle.plan.specs.Plan.{Plan, plan_of, channel_at, entering}
use Rattle.plan.specs.Lawful.{Each, Bytes}
use Rattle.plan.specs.Check.{plan_refusal}
use Rattle.rules.specs.Lists.{keep, is_empty}
use Rattle.rules.specs.Line.{step_limit, console_count, Entry, Status, up, down, replay, Line, initial_line, node_at, lane_at, steps_from, sender_of, receiver_of}
use Rattle.rules.specs.Recover.{row_complete, recovered}
use Rattle.rules.specs.Step.{no_steps_left, refusal}
use Rattle.rules.specs.Claim.{named, start_of, story_from}
use Rattle.rules.specs.Frame.{Caller, console_of, frame_from}

-- A Send and a Take on channel b, and a Recover of node n.
abbrev pub send_frame : Caller → ℕ → List ℕ
send_frame w b = frame_from w 2 b

abbrev pub take_frame : Caller → ℕ → List ℕ
take_frame w b = frame_from w 3 b

abbrev pub recover_frame : Caller → ℕ → List ℕ
recover_frame w n = frame_from w 5 n

-- 2026-07: an Ask and a Commit of node n.
abbrev pub ask_frame : Caller → ℕ → List ℕ
ask_frame w n = frame_from w 7 n

abbrev pub commit_frame : Caller → ℕ → List ℕ
commit_frame w n = frame_from w 8 n

-- The answer of a frame that nothing but the caller's step limit refuses.
unfoldable pub unless_used_up : Line → Caller → ℕ
unfolding no_steps_left
unless_used_up l w = elim (no_steps_left l (console_of w)) [ true ↦ 12 | false ↦ 0 ]

-- Only Sends and Takes of a caller's, on the channels that enter node n.
pub data OnEntering (p : Plan) (w : Caller) (n : ℕ) : List (List ℕ) → Type 0 where
  no_more : OnEntering p w n []
  send_next : (b : ℕ) {frames : List (List ℕ)} → named b (entering p n) ≡ true → OnEntering p w n frames → OnEntering p w n (send_frame w b ∷ frames)
  take_next : (b : ℕ) {frames : List (List ℕ)} → named b (entering p n) ≡ true → OnEntering p w n frames → OnEntering p w n (take_frame w b ∷ frames)

-- First Recover if the node is down, and then only Sends and Takes on the channels that enter it.
abbrev pub Restarting : Plan → Caller → ℕ → Status → List (List ℕ) → Type 0
Restarting p w n up frames = OnEntering p w n frames
Restarting p w n down frames = (rest : List (List ℕ)) × (frames ≡ recover_frame w n ∷ rest) × OnEntering p w n rest
Restarting p w n replay frames = OnEntering p w n frames

-- How many messages in the log of channel b's sender are later than a time and taken by the channel.
abbrev pub later_on : Line → ℕ → ℕ → ℕ
later_on l b t = length (keep (λ (e : Entry). ltb t e.time && takes (channel_at l.plan b) e.what) (node_at l (sender_of l b)).log)

-- A row that is not complete wants at most a Take of each past its entry and a Send of each past its mark.
abbrev pub row_steps : Line → ℕ → ℕ → ℕ
row_steps l n b = cond (row_complete l n b) 0 (later_on l b (lane_at l b).taken + later_on l b (lane_at l b).mark)

abbrev pub replay_steps : Line → ℕ → ℕ
replay_steps l n = sum_of (map (row_steps l n) (entering l.plan n))

-- The steps that a node's restart may take, by its status: a Recover first if it is down.
abbrev pub restart_steps : Line → ℕ → Status → ℕ
restart_steps l n up = 0
restart_steps l n down = suc (replay_steps (recovered n l) n)
restart_steps l n replay = replay_steps l n

-- One Recover, and for each of at most 4 rows at most 64 Sends and 64 Takes.
abbrev pub most_restart_steps : ℕ
most_restart_steps = 513

-- Steps of one caller's that bring node n back.
pub record ComesBack (l : Line) (w : Caller) (n : ℕ) : Type 0 where
  pub frames : List (List ℕ)
  pub few : length frames ≤ restart_steps l n (node_at l n).status
  pub shape : Restarting l.plan w n (node_at l n).status frames
  pub accepted : (story_from (start_of l) frames).numbers ≡ replicate (length frames) 0
  pub back : (node_at (story_from (start_of l) frames).line n).status ≡ up

-- The same of a node that is down by Ask and Commit in the place of Recover: the Ask is a step more.
pub record ComesBackAsked (l : Line) (w : Caller) (n : ℕ) : Type 0 where
  pub rest : List (List ℕ)
  pub few : length rest ≤ replay_steps (recovered n l) n
  pub shape : OnEntering l.plan w n rest
  pub accepted : (story_from (start_of l) (ask_frame w n ∷ commit_frame w n ∷ rest)).numbers ≡ replicate (2 + length rest) 0
  pub back : (node_at (story_from (start_of l) (ask_frame w n ∷ commit_frame w n ∷ rest)).line n).status ≡ up

-- Of what one caller asks.
pub record NeverStuckFor (l : Line) (w : Caller) : Type 0 where
  -- Recover of a node that is down (and so no source and no sink) is accepted unless the caller's steps are used up: there are never over 64 targets.
  pub recovers : (n : ℕ) → (node_at l n).status ≡ down → refusal l (recover_frame w n) ≡ unless_used_up l w
  -- A replay never lacks space: so is a Take on an incomplete row of a replaying node whose channel has a message.
  pub replays : (b : ℕ) → (node_at l (receiver_of l b)).status ≡ replay → row_complete l (receiver_of l b) b ≡ false → is_empty (lane_at l b).queue ≡ false → refusal l (take_frame w b) ≡ unless_used_up l w
  -- So the node comes back, whatever its status is, if the caller has steps left for it.
  pub comes_back : (n : ℕ) → steps_from l (console_of w) + restart_steps l n (node_at l n).status ≤ step_limit → ComesBack l w n
  -- A node that is down comes back by Ask and Commit too.
  pub comes_back_asked : (n : ℕ) → (node_at l n).status ≡ down → steps_from l (console_of w) + suc (restart_steps l n down) ≤ step_limit → ComesBackAsked l w n

pub record NeverStuck (l : Line) : Type 0 where
  -- No frame is answered 24.
  pub placed : (f : List ℕ) → refusal l f ≢ 24
  -- No restart is long.
  pub few_steps : (n : ℕ) → restart_steps l n (node_at l n).status ≤ most_restart_steps
  -- Whoever asks, in version 1 or from one of the consoles.
  pub asked : (w : Caller) → console_of w < console_count → NeverStuckFor l w

-- For every accepted plan and every list of frames, of the line that the list leaves. Plan and frames are of bytes, as all that can be lent is.
abbrev pub AlwaysBack : Type 0
AlwaysBack = (plan : List ℕ) (frames : List (List ℕ)) → Bytes plan → Each Bytes frames → plan_refusal plan ≡ 0 → NeverStuck (story_from (start_of (initial_line (plan_of plan))) frames).line
