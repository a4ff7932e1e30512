-- 2026-01: "What the line does with a step doesn't depend on who sent it, counts and refusal 12 excepted."
use Rattle.std.specs.Prelude.{ℕ, ◌+◌, ◌≡◌, ◌≢◌, false, cond, ◌&&◌, List, eqb}
use Rattle.rules.specs.Line.{Line, steps_from}
use Rattle.rules.specs.Frame.{frame_console, frame_of, frame_refusal}
use Rattle.rules.specs.Step.{step}
use Rattle.rules.specs.Damaged.{damaged}

-- Two lines that differ in their counts alone.
pub record SameButCounts (k l : Line) : Type 0 where
  pub plan : k.plan ≡ l.plan
  pub nodes : k.nodes ≡ l.nodes
  pub lanes : k.lanes ≡ l.lanes

-- Two frames, both well formed, that ask the same and differ in version and console alone.
pub record SameAsked (f g : List ℕ) : Type 0 where
  pub formed : frame_refusal f ≡ 0
  pub formed_too : frame_refusal g ≡ 0
  pub asked : frame_of f ≡ frame_of g

-- An accepted step raises its caller's count by one, and no step another's: what a step with a number, of console `who`, adds to console c's.
abbrev pub counts_one : ℕ → ℕ → ℕ → ℕ
counts_one number who c = cond (eqb number 0 && eqb c who) 1 0

abbrev pub CountsCaller : Line → List ℕ → Type 0
CountsCaller l f = (c : ℕ) → steps_from (step l f).line c ≡ steps_from l c + counts_one (step l f).number (frame_console f) c

pub record SameDone (k l : Line) (f g : List ℕ) : Type 0 where
  pub number : (step k f).number ≡ (step l g).number
  pub line : SameButCounts (step k f).line (step l g).line
  pub counts : CountsCaller k f
  pub counts_too : CountsCaller l g

-- Of undamaged lines: Step answers 8 to the others, and whether a line is damaged does depend on its counts, which bound its times.
abbrev pub WhoeverSends : Type 0
WhoeverSends =
    (k l : Line) (f g : List ℕ) → damaged k ≡ false → damaged l ≡ false → SameButCounts k l → SameAsked f g
    → (step k f).number ≢ 12 → (step l g).number ≢ 12 → SameDone k l f g
