-- 2026-06 on bytes: "Answers to undamaged states, and all else that a step leaves in them, are unchanged."
use Rattle.std.specs.Prelude.{ℕ, ◌<◌, ◌≡◌, List, set}
use Rattle.plan.specs.Lawful.{Bytes}
use Rattle.rules.specs.Line.{Entry}
use Rattle.rules.specs.Sets.{without_set, without_sets, answer_without_sets}
use Rattle.state.specs.Pieces.{entry_layout}
use Rattle.state.specs.State.{line_of, state_answer}
use Rattle.line.specs.Step.{step_answer, step_left}

-- The number, and all that is left but the sets, are those of the step on the line without its sets.
pub record SameWithoutSets (s f : List ℕ) : Type 0 where
  pub number : step_answer s f ≡ (answer_without_sets (without_sets (line_of s)) f).number
  pub left : without_sets (line_of (step_left s f)) ≡ (answer_without_sets (without_sets (line_of s)) f).line

-- Of states that the check accepts.
abbrev pub StepWithoutSetsOnBytes : Type 0
StepWithoutSetsOnBytes = (s f : List ℕ) → Bytes f → state_answer s ≡ 0 → SameWithoutSets s f

-- In an entry's slot the set is one byte, and no other byte goes by it.
abbrev pub SetsOwnByte : Type 0
SetsOwnByte = (e : Entry) → e.set < 256 → entry_layout.write e ≡ set (entry_layout.write (without_set e)) 22 e.set
