-- 2026-01 on bytes: "What the line does with a step doesn't depend on who sent it, counts and refusal 12 excepted."
use Rattle.std.specs.Prelude.{ℕ, ◌+◌, ◌<◌, ◌≡◌, ◌≢◌, List, take, drop}
use Rattle.plan.specs.Lawful.{Bytes}
use Rattle.rules.specs.Line.{console_count}
use Rattle.rules.specs.Frame.{frame_console}
use Rattle.rules.specs.Console.{SameAsked, counts_one}
use Rattle.state.specs.Sizes.{steps_at, steps_of_at, steps_size}
use Rattle.state.specs.Right.{word_at}
use Rattle.state.specs.State.{state_answer}
use Rattle.line.specs.Step.{step_answer, step_left}

-- States that agree outside the four counts.
abbrev pub SameOutside : List ℕ → List ℕ → Type 0
SameOutside s t = (take steps_at s ≡ take steps_at t) × (drop (steps_at + steps_size) s ≡ drop (steps_at + steps_size) t)

-- An accepted call raises its caller's count by one, and no call another's.
abbrev pub CountsCallerOnBytes : List ℕ → List ℕ → Type 0
CountsCallerOnBytes s f = (c : ℕ) → c < console_count → word_at (steps_of_at c) (step_left s f) ≡ word_at (steps_of_at c) s + counts_one (step_answer s f) (frame_console f) c

pub record SameDoneOnBytes (s t f g : List ℕ) : Type 0 where
  pub number : step_answer s f ≡ step_answer t g
  pub left : SameOutside (step_left s f) (step_left t g)
  pub counts : CountsCallerOnBytes s f
  pub counts_too : CountsCallerOnBytes t g

-- Of states that the check accepts: of others it cannot be said, since a time is bounded by the counts.
abbrev pub WhoeverSendsOnBytes : Type 0
WhoeverSendsOnBytes =
    (s t f g : List ℕ) → Bytes f → Bytes g → state_answer s ≡ 0 → state_answer t ≡ 0 → SameOutside s t → SameAsked f g
    → step_answer s f ≢ 12 → step_answer t g ≢ 12 → SameDoneOnBytes s t f g
