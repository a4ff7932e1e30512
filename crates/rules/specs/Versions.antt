-- 2026-02: a version 1 plan, and the version 2 plan with the same channels and windows 0..65535, run alike: nothing that a line does goes by the version.
use Rattle.std.specs.Prelude.{ℕ, ◌≡◌, List, ◌++◌}
use Rattle.plan.specs.Lawful.{Bytes}
use Rattle.plan.specs.Plan.{Plan, plan_of, plan_version}
use Rattle.plan.specs.Check.{plan_refusal}
use Rattle.plan.specs.Versions.{SameButVersion, in_version_two}
use Rattle.rules.specs.Line.{Line, initial_line}
use Rattle.rules.specs.Claim.{Story, start_of, story_from}
use Rattle.rules.specs.Sheet.{sheet}

-- Two lines that differ in their plans' version alone.
pub record LineAlike (k l : Line) : Type 0 where
  pub plan : SameButVersion k.plan l.plan
  pub steps : k.steps ≡ l.steps
  pub nodes : k.nodes ≡ l.nodes
  pub lanes : k.lanes ≡ l.lanes

-- The same numbers, feeds, receipts and crashes, and such lines at the end.
pub record StoryAlike (s t : Story) : Type 0 where
  pub line : LineAlike s.line t.line
  pub numbers : s.numbers ≡ t.numbers
  pub fed_acts : s.fed_acts ≡ t.fed_acts
  pub receipts : s.receipts ≡ t.receipts
  pub crashes : s.crashes ≡ t.crashes

abbrev pub RunAlike : Type 0
RunAlike = (p q : Plan) (frames : List (List ℕ)) → SameButVersion p q → StoryAlike (story_from (start_of (initial_line p)) frames) (story_from (start_of (initial_line q)) frames)

-- The same sheet, of two plans that are accepted, with any bytes behind them.
abbrev pub SheetAlike : Type 0
SheetAlike = (s t frames : List ℕ) → plan_refusal s ≡ 0 → plan_refusal t ≡ 0 → SameButVersion (plan_of s) (plan_of t) → sheet (s ++ frames) ≡ sheet (t ++ frames)

-- So of every accepted plan of version 1 and the plan of version 2 with the same rules and channels.
abbrev pub WidenedAlike : Type 0
WidenedAlike = (s frames : List ℕ) → Bytes s → plan_refusal s ≡ 0 → plan_version s ≡ 1 → sheet (s ++ frames) ≡ sheet (in_version_two s ++ frames)
