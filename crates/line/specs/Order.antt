-- Demand 3 of document 00 on bytes, and demand 2 over a whole list of frames: what Load and Step answer and leave, one call after the other.
use Rattle.std.specs.Prelude.{ℕ, ◌≡◌, false, List, [], ◌∷◌, ◌++◌, eqb}
use Rattle.plan.specs.Lawful.{Each, Bytes}
use Rattle.plan.specs.Plan.{plan_of}
use Rattle.rules.specs.Lists.{any_of}
use Rattle.rules.specs.Line.{initial_line}
use Rattle.rules.specs.Frame.{frame_of}
use Rattle.rules.specs.Claim.{Story, start_of, story_from, if_zero, feed_of, receipt_of, crash_of}
use Rattle.rules.specs.Order.{OneRun}
use Rattle.state.specs.State.{line_bytes, line_of, state_answer}
use Rattle.line.specs.Load.{load_answer, load_left}
use Rattle.line.specs.Step.{step_answer, step_left}

-- "each on the state that the last call left, which nobody else writes meanwhile"
abbrev pub state_after : List ℕ → List (List ℕ) → List ℕ
state_after state [] = state
state_after state (frame ∷ frames) = state_after (step_left state frame) frames

-- What the calls give, one after the other, each by the state and the frame passed to it.
abbrev pub in_turn : {A : Type 0} → (List ℕ → List ℕ → List A) → List ℕ → List (List ℕ) → List A
in_turn gives state [] = []
in_turn gives state (frame ∷ frames) = gives state frame ++ in_turn gives (step_left state frame) frames

-- The story that the calls tell: by their answers and the states passed, never by a log.
unfoldable pub story_of : List ℕ → List (List ℕ) → Story
unfolding step_answer step_left line_of frame_of
story_of state frames =
    record {
      -- the line in the bytes at the end
      line = line_of (state_after state frames);
      numbers = in_turn (λ s f. step_answer s f ∷ []) state frames;
      -- "the Feeds answered 0"
      fed_acts = in_turn (λ s f. if_zero (step_answer s f) (feed_of (frame_of f))) state frames;
      -- "each Take answered 0 gives the receiver the first record on the belt in the state passed, with the belt's sender"
      receipts = in_turn (λ s f. if_zero (step_answer s f) (receipt_of (line_of s) (frame_of f))) state frames;
      -- the nodes that an accepted Crash named
      crashes = in_turn (λ s f. if_zero (step_answer s f) (crash_of (frame_of f))) state frames;
    }

-- Demand 3. `OneRun` says the rest of it: that the feeds are the same, what every node that no accepted Crash named has received, and that the run is at rest if the line at the end is quiet.
abbrev pub InOrderOnBytes : Type 0
InOrderOnBytes =
    -- "For every list of frames passed to Step" "(Feed, Send, Take, Crash, Recover and whatever else is typed, refused ones included)"
    (plan lent : List ℕ) (frames : List (List ℕ)) → Bytes plan → Each Bytes frames
    -- "after an accepted Load"
    → load_answer plan lent ≡ 0
    -- "at the list's end, some one run of document 01's plain line"
    → OneRun (plan_of plan) (story_of (load_left plan lent) frames)

-- Calls on bytes beside a story of the rules.
pub record AsTold (state : List ℕ) (frames : List (List ℕ)) (s : Story) : Type 0 where
  -- the same answers, feeds, receipts and crashes, and the same line at the end
  pub story : story_of state frames ≡ s
  -- "Each step gives exactly the state that document 01's rules give"
  pub left : state_after state frames ≡ line_bytes s.line
  -- a state that the check accepts, so 8 is never answered
  pub accepted : state_answer (state_after state frames) ≡ 0
  pub never_damaged : any_of (eqb 8) (story_of state frames).numbers ≡ false

-- Demand 2 for a whole list: the calls tell what the rules tell of the same plan and frames. A list's beginnings are lists too, so this is about every state on the way.
abbrev pub RunOfLines : Type 0
RunOfLines =
    (plan lent : List ℕ) (frames : List (List ℕ)) → Bytes plan → Each Bytes frames → load_answer plan lent ≡ 0
    → AsTold (load_left plan lent) frames (story_from (start_of (initial_line (plan_of plan))) frames)
