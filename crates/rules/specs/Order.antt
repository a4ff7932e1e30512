-- Demand 3 of document 00: one claim over a whole list of frames.
use Rattle.std.specs.Prelude.{ℕ, ◌≡◌, true, false, List}
use Rattle.plan.specs.Plan.{Plan, plan_of}
use Rattle.plan.specs.Lawful.{Each, Bytes}
use Rattle.plan.specs.Check.{plan_refusal}
use Rattle.rules.specs.Line.{initial_line}
use Rattle.rules.specs.Plain.{Act, plain_run, run_feeds, at_rest}
use Rattle.rules.specs.Claim.{Story, start_of, story_from, named, received_by, quiet}

-- "some one run of document 01's plain line"
pub record OneRun (p : Plan) (s : Story) : Type 0 where
  pub acts : List Act
  -- "on the same accepted feeds"
  pub feeds : run_feeds acts ≡ s.fed_acts
  -- "gives every node that no accepted Crash named exactly the records, in the order and with the senders, that it has received"
  pub received : (n : ℕ) → named n s.crashes ≡ false → received_by n (plain_run p acts).received ≡ received_by n s.receipts
  -- "If then no belt has anything to send or take and no node is down or replaying, that run is at rest too: nothing lost, doubled or swapped."
  pub rests : quiet s.line ≡ true → at_rest (plain_run p acts).queues ≡ true

-- "For every list of frames passed to Step after an accepted Load (Feed, Send, Take, Crash, Recover and whatever else is typed, refused ones included), each on the state that the last call left"; plan and frames of bytes, as all that can be lent is.
abbrev pub InOrder : Type 0
InOrder = (plan : List ℕ) (frames : List (List ℕ)) → Bytes plan → Each Bytes frames → plan_refusal plan ≡ 0 → OneRun (plan_of plan) (story_from (start_of (initial_line (plan_of plan))) frames)
