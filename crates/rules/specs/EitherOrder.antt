-- 2026-14, two routers restarted in either order: "Operators want to know that the order of restarting is theirs to choose."
use Rattle.std.specs.Prelude.{ℕ, ◌+◌, ◌<◌, ◌≡◌, ◌≢◌, ◌⊎◌, Bool, false, cond, List, leb}
use Rattle.plan.specs.Plan.{channel_count}
use Rattle.rules.specs.Line.{step_limit, down, Line, node_at, lane_at, steps_from, sender_of, receiver_of}
use Rattle.rules.specs.Frame.{recover, commit, frame_console, frame_of, frame_refusal}
use Rattle.rules.specs.Step.{step}
use Rattle.rules.specs.Damaged.{damaged}
use Rattle.rules.specs.Console.{counts_one}

-- A well-formed frame, from any console, that asks for a node's restart: a Recover, or a Commit ("Show it for Commit too, with kept answers for both"; one without a kept answer is refused).
pub record AsksRestart (f : List ℕ) (n : ℕ) : Type 0 where
  pub formed : frame_refusal f ≡ 0
  pub asks : (frame_of f ≡ recover n) ⊎ (frame_of f ≡ commit n)

-- Whether console c has no step left once frame f has been answered with a number.
abbrev pub spent_after : Line → List ℕ → ℕ → ℕ → Bool
spent_after l f number c = leb step_limit (steps_from l c + counts_one number (frame_console f) c)

-- Frame f first and then g, beside g first and then f.
pub record EitherFirst (l : Line) (f g : List ℕ) : Type 0 where
  -- "Recover of one and then the other gives the same state, byte for byte, whichever is first, when both are accepted": accepted in one order, they are in the other.
  pub same : (step l f).number ≡ 0 → (step (step l f).line g).number ≡ 0 → ((step l g).number ≡ 0) × ((step (step l g).line f).number ≡ 0) × ((step (step l f).line g).line ≡ (step (step l g).line f).line)
  -- "one's refusal, 12 excepted, never depends on whether the other went first": after f, accepted or refused, g gets the number that it would get without f, or 12 if its console has no step left then.
  pub number : (step (step l f).line g).number ≡ cond (spent_after l f (step l f).number (frame_console g)) 12 (step l g).number

-- "for two down nodes", of an undamaged line. The nodes and their frames may change places: so f after g is answered as said, too.
abbrev pub EitherOrder : Type 0
EitherOrder = (l : Line) (m n : ℕ) (f g : List ℕ) → damaged l ≡ false → m ≢ n → (node_at l m).status ≡ down → (node_at l n).status ≡ down → AsksRestart f m → AsksRestart g n → EitherFirst l f g

-- "that no belt joins" is no premise above: none joins two down nodes of an undamaged line.
abbrev pub DownApart : Type 0
DownApart = (l : Line) (m n b : ℕ) → damaged l ≡ false → (node_at l m).status ≡ down → (node_at l n).status ≡ down → b < channel_count l.plan → sender_of l b ≡ m → receiver_of l b ≢ n

-- What lies behind it: a restart leaves every other node as it was, and every channel that neither enters nor leaves its own.
abbrev pub RestartsAlone : Type 0
RestartsAlone =
    (l : Line) (n : ℕ) (f : List ℕ) → damaged l ≡ false → (node_at l n).status ≡ down → AsksRestart f n
    → ((m : ℕ) → m ≢ n → node_at (step l f).line m ≡ node_at l m) × ((b : ℕ) → sender_of l b ≢ n → receiver_of l b ≢ n → lane_at (step l f).line b ≡ lane_at l b)
