-- 2026-04: "In demand 3's lists, which later laws on runs mean too, trimming at whatever moment it is accepted changes nothing that anybody receives by a list of steps that are all accepted both with and without it, even where crashes follow."
use Rattle.std.specs.Prelude.{ℕ, ◌+◌, ◌<◌, ◌≡◌, ◌≢◌, Bool, true, false, List, [], ◌∷◌, length, replicate, eqb}
use Rattle.plan.specs.Plan.{plan_of}
use Rattle.plan.specs.Check.{plan_refusal}
use Rattle.plan.specs.Lawful.{Each, Bytes}
use Rattle.rules.specs.Line.{log_limit, up, Line, initial_line, node_at, receiver_of}
use Rattle.rules.specs.Frame.{Frame, feed, send, take, crash, recover, trim, ask, commit, frame_of}
use Rattle.rules.specs.Trim.{droppable, leading}
use Rattle.rules.specs.Step.{step}
use Rattle.rules.specs.Claim.{start_of, story_from}

abbrev pub is_trim : Frame → Bool
is_trim (feed n r) = false
is_trim (send b) = false
is_trim (take b) = false
is_trim (crash n) = false
is_trim (recover n) = false
is_trim (trim n) = true
is_trim (ask n) = false
is_trim (commit n) = false

-- A list of frames, and the same with Trims put in at any moments.
pub data WithTrims : List (List ℕ) → List (List ℕ) → Type 0 where
  no_more : WithTrims [] []
  alike : (f : List ℕ) {with without : List (List ℕ)} → WithTrims with without → WithTrims (f ∷ with) (f ∷ without)
  put_in : (f : List ℕ) {with without : List (List ℕ)} → is_trim (frame_of f) ≡ true → WithTrims with without → WithTrims (f ∷ with) without

-- Steps that are all accepted, from a line on.
abbrev pub AllAccepted : Line → List (List ℕ) → Type 0
AllAccepted l fs = (story_from (start_of l) fs).numbers ≡ replicate (length fs) 0

-- Of every accepted plan, after any frames (refused ones and Trims among them): what is received, by whom, from whom and in which order, crashed nodes included. Plan and frames are of bytes, as all that can be lent is.
abbrev pub TrimsChangeNothing : Type 0
TrimsChangeNothing =
    (plan : List ℕ) (before with without : List (List ℕ)) → Bytes plan → Each Bytes before → Each Bytes without → plan_refusal plan ≡ 0 → WithTrims with without
    → (let l = (story_from (start_of (initial_line (plan_of plan))) before).line in AllAccepted l with → AllAccepted l without → (story_from (start_of l) with).receipts ≡ (story_from (start_of l) without).receipts)

-- A Feed of node n, also one that leaves nothing (2026-08), or a Take by it.
abbrev pub logs_at : Line → ℕ → Frame → Bool
logs_at l n (feed m r) = eqb m n
logs_at l n (send b) = false
logs_at l n (take b) = eqb (receiver_of l b) n
logs_at l n (crash m) = false
logs_at l n (recover m) = false
logs_at l n (trim m) = false
logs_at l n (ask m) = false
logs_at l n (commit m) = false

-- "The freed entries are used by later steps." A Trim that is accepted makes the log shorter by the run that it drops.
abbrev pub TrimFrees : Type 0
TrimFrees = (l : Line) (n : ℕ) (f : List ℕ) → frame_of f ≡ trim n → (step l f).number ≡ 0 → length (node_at (step l f).line n).log + length (leading (droppable l n) (node_at l n).log) ≡ length (node_at l n).log

-- And of every line, whatever its logs have held before: a node that is up, as all are behind a Trim, has space while its log is shorter than 64: what would log there is not refused with 21.
abbrev pub FreedAreUsed : Type 0
FreedAreUsed = (l : Line) (n : ℕ) (f : List ℕ) → (node_at l n).status ≡ up → length (node_at l n).log < log_limit → logs_at l n (frame_of f) ≡ true → (step l f).number ≢ 21
