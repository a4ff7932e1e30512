-- 2026-09: "logging a yes instead of the chosen placing keeps the promised order of received records". Step takes no columns; here they come with the frames, from anybody.
use Rattle.std.specs.Prelude.{ℕ, ◌≡◌, Bool, true, false, ◌&&◌, List, [], ◌∷◌, eqb}
use Rattle.std.proofs.Math.Option.{Option, none, some}
use Rattle.plan.specs.Plan.{plan_of}
use Rattle.plan.specs.Lawful.{Each, Bytes}
use Rattle.plan.specs.Check.{plan_refusal}
use Rattle.marking.specs.Mark.{gets_yes}
use Rattle.rules.specs.Lists.{is_empty}
use Rattle.rules.specs.Line.{Message, Line, initial_line, node_at, lane_at, receiver_of, counted}
use Rattle.rules.specs.Frame.{Frame, feed, send, take, crash, recover, trim, ask, commit, frame_console, frame_of}
use Rattle.rules.specs.Recover.{high_of, targets_of, rows_complete, recovered}
use Rattle.rules.specs.Replay.{table_of, placing, placed_at}
use Rattle.rules.specs.Step.{replaying, taken_lane, taken_replaying, Answer, step}
use Rattle.rules.specs.Damaged.{damaged}
use Rattle.rules.specs.Claim.{Story, start_of, told_by}
use Rattle.rules.specs.Order.{OneRun}

-- A replay that a step may end: the node, and the line of which the step asks whether its rows are complete (`ended_if_complete`).
pub record Ending : Type 0 where
  pub node : ℕ
  pub line : Line

abbrev pub ending_take : ℕ → List Message → Line → Option Ending
ending_take b [] l = none
ending_take b (m ∷ rest) l = elim (replaying l (receiver_of l b)) [ true ↦ some (record { node = receiver_of l b; line = taken_replaying b m (taken_lane b m rest l) }) | false ↦ none ]

-- "When all rows are complete, in that same step (a Recover too)"
abbrev pub ending_of : Line → Frame → Option Ending
ending_of l (feed n r) = none
ending_of l (send b) = none
ending_of l (take b) = ending_take b (lane_at l b).queue l
ending_of l (crash n) = none
ending_of l (recover n) = elim (is_empty (targets_of l n)) [ true ↦ none | false ↦ some (record { node = n; line = recovered n l }) ]
ending_of l (trim n) = none
ending_of l (ask n) = none
ending_of l (commit n) = none

-- Whether it ends and the columns get yes for its table.
unfoldable pub agreed : List ℕ → Ending → Bool
unfolding rows_complete high_of gets_yes
agreed columns e = rows_complete e.line e.node && gets_yes (node_at e.line e.node).time (high_of e.line e.node) (table_of e.line e.node) columns

-- Step's answer, but that an accepted step logs the columns where they are agreed.
abbrev pub answer_with : List ℕ → ℕ → Option Ending → Answer → Answer
answer_with columns console none a = a
answer_with columns console (some e) a = elim (eqb a.number 0 && agreed columns e) [ true ↦ record { number = 0; line = counted console (placed_at columns e.node e.line) } | false ↦ a ]

unfoldable pub step_with : List ℕ → Line → List ℕ → Answer
unfolding step taken_lane taken_replaying targets_of recovered agreed
step_with columns l f = answer_with columns (frame_console f) (ending_of l (frame_of f)) (step l f)

-- The chosen columns make it Step.
abbrev pub ChosenIsStep : Type 0
ChosenIsStep =
    (l : Line) (columns f : List ℕ) (e : Ending) → damaged l ≡ false → ending_of l (frame_of f) ≡ some e
    → placing (node_at e.line e.node).time (high_of e.line e.node) (table_of e.line e.node) ≡ some columns → step_with columns l f ≡ step l f

-- A logged yes leaves no damaged line.
abbrev pub ProposedUndamaged : Type 0
ProposedUndamaged = (l : Line) (columns f : List ℕ) → Bytes f → damaged l ≡ false → damaged (step_with columns l f).line ≡ false

-- A frame, and the columns that somebody proposes for the replay that it may end.
pub record Proposal : Type 0 where
  pub frame : List ℕ
  pub columns : List ℕ

abbrev pub story_with : Story → List Proposal → Story
story_with s [] = s
story_with s (p ∷ ps) = story_with (told_by (step_with p.columns s.line p.frame) s p.frame) ps

-- Demand 3, whatever columns come with the frames.
abbrev pub InOrderProposed : Type 0
InOrderProposed =
    (plan : List ℕ) (proposals : List Proposal) → Bytes plan → Each (λ (p : Proposal). Bytes p.frame) proposals → plan_refusal plan ≡ 0
    → OneRun (plan_of plan) (story_with (start_of (initial_line (plan_of plan))) proposals)
