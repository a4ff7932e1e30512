-- 2026-14's promises on bytes: over what Step answers and leaves, of every state that the check accepts.
use Rattle.std.specs.Prelude.{ℕ, ◌<◌, ◌≡◌, ◌≢◌, cond, List}
use Rattle.plan.specs.Lawful.{Bytes}
use Rattle.plan.specs.Plan.{channel_count}
use Rattle.rules.specs.Line.{down, node_at, lane_at, sender_of, receiver_of}
use Rattle.rules.specs.Frame.{frame_console}
use Rattle.rules.specs.EitherOrder.{AsksRestart, spent_after}
use Rattle.state.specs.State.{line_of, state_answer}
use Rattle.line.specs.Step.{step_answer, step_left}

pub record EitherFirstOnBytes (state f g : List ℕ) : Type 0 where
  -- "gives the same state, byte for byte, whichever is first, when both are accepted"
  pub same : step_answer state f ≡ 0 → step_answer (step_left state f) g ≡ 0 → (step_answer state g ≡ 0) × (step_answer (step_left state g) f ≡ 0) × (step_left (step_left state f) g ≡ step_left (step_left state g) f)
  -- "one's refusal, 12 excepted, never depends on whether the other went first"
  pub number : step_answer (step_left state f) g ≡ cond (spent_after (line_of state) f (step_answer state f) (frame_console g)) 12 (step_answer state g)

-- "for two down nodes"
abbrev pub EitherOrderOnBytes : Type 0
EitherOrderOnBytes =
    (state : List ℕ) (m n : ℕ) (f g : List ℕ) → Bytes f → Bytes g → state_answer state ≡ 0 → m ≢ n → (node_at (line_of state) m).status ≡ down → (node_at (line_of state) n).status ≡ down → AsksRestart f m → AsksRestart g n
    → EitherFirstOnBytes state f g

-- "that no belt joins": none joins two down nodes of such a state.
abbrev pub DownApartOnBytes : Type 0
DownApartOnBytes =
    (state : List ℕ) (m n b : ℕ) → state_answer state ≡ 0
    → (let l = line_of state in (node_at l m).status ≡ down → (node_at l n).status ≡ down → b < channel_count l.plan → sender_of l b ≡ m → receiver_of l b ≢ n)

-- A restart leaves every other node as it was, and every channel that neither enters nor leaves its own.
abbrev pub RestartsAloneOnBytes : Type 0
RestartsAloneOnBytes =
    (state : List ℕ) (n : ℕ) (f : List ℕ) → Bytes f → state_answer state ≡ 0 → (node_at (line_of state) n).status ≡ down → AsksRestart f n
    → (let l = line_of state in let k = line_of (step_left state f) in
    ((m : ℕ) → m ≢ n → node_at k m ≡ node_at l m) × ((b : ℕ) → sender_of l b ≢ n → receiver_of l b ≢ n → lane_at k b ≡ lane_at l b))
