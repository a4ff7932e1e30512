-- 2026-07's promises on bytes: over what Step answers and leaves, of every state that the check accepts.
use Rattle.std.specs.Prelude.{ℕ, ◌-◌, ◌≤◌, ◌<◌, ◌≡◌, ◌≢◌, false, List, [], ◌∷◌, ◌++◌, map, length, replicate}
use Rattle.std.proofs.Math.Option.{none, some}
use Rattle.plan.specs.Lawful.{Each, Bytes}
use Rattle.plan.specs.Plan.{node_count, entering, leaving, is_source, is_sink}
use Rattle.rules.specs.Lists.{greatest_of}
use Rattle.rules.specs.Line.{down, Asked, node_at, lane_at, with_node, counted}
use Rattle.rules.specs.Recover.{targets_of, answer_of}
use Rattle.rules.specs.Frame.{recover, ask, commit, frame_console, frame_of, frame_refusal}
use Rattle.rules.specs.Step.{no_steps_left}
use Rattle.rules.specs.Damaged.{answer_wrong}
use Rattle.rules.specs.Ask.{OfOneConsole}
use Rattle.state.specs.State.{line_bytes, line_of, state_answer}
use Rattle.line.specs.Step.{step_answer, step_left}
use Rattle.line.specs.Order.{state_after}

-- "It is refused just where Recover would be, and then keeps what it kept before."
abbrev pub AskRefusedOnBytes : Type 0
AskRefusedOnBytes =
    (state : List ℕ) (n : ℕ) (f g : List ℕ) → Bytes f → Bytes g → state_answer state ≡ 0 → OfOneConsole f (ask n) g (recover n)
    → (step_answer state f ≡ step_answer state g) × (step_answer state f ≢ 0 → step_left state f ≡ state)

-- "keeps it with the down node": all else is as it was, and the step is counted.
abbrev pub AskKeepsOnBytes : Type 0
AskKeepsOnBytes =
    (state : List ℕ) (n : ℕ) (f : List ℕ) → Bytes f → state_answer state ≡ 0 → frame_of f ≡ ask n → step_answer state f ≡ 0
    → (let l = line_of state in step_left state f
    ≡ line_bytes (counted (frame_console f) (with_node n (record { status = (node_at l n).status; crashed = (node_at l n).crashed; time = (node_at l n).time; log = (node_at l n).log; held = (node_at l n).held; targets = targets_of l n; asked = some (answer_of l n) }) l)))

-- What the supervisor sees is what Recover would leave.
abbrev pub AskTellsOnBytes : Type 0
AskTellsOnBytes =
    (state : List ℕ) (n : ℕ) (a : Asked) (f h : List ℕ) → Bytes f → Bytes h → state_answer state ≡ 0 → OfOneConsole f (ask n) h (recover n) → step_answer state f ≡ 0 → (node_at (line_of (step_left state f)) n).asked ≡ some a
    → (let l = line_of state in let k = line_of (step_left state h) in ((node_at k n).time ≡ a.low)
    × (a.high ≡ greatest_of (map (λ (c : ℕ). (lane_at l c).taken) (leaving l.plan n)))
    × ((node_at k n).targets ≡ (node_at (line_of (step_left state f)) n).targets)
    × (a.entries ≡ map (λ (c : ℕ). (lane_at k c).taken) (entering l.plan n) ++ replicate (4 - length (entering l.plan n)) 0))

-- Committed at once, all is as Recover would have left it, but that there is one step more.
abbrev pub AskAndCommitOnBytes : Type 0
AskAndCommitOnBytes =
    (state : List ℕ) (n : ℕ) (f g h : List ℕ) → Bytes f → Bytes g → Bytes h → state_answer state ≡ 0 → OfOneConsole f (ask n) g (commit n) → OfOneConsole g (commit n) h (recover n)
    → step_answer state f ≡ 0 → step_answer (step_left state f) g ≡ 0 → step_left (step_left state f) g ≡ line_bytes (counted (frame_console h) (line_of (step_left state h)))

-- "Ask may be repeated."
abbrev pub AskAgainOnBytes : Type 0
AskAgainOnBytes =
    (state : List ℕ) (n : ℕ) (a : Asked) (f : List ℕ) → Bytes f → state_answer state ≡ 0 → (node_at (line_of state) n).asked ≡ some a → frame_refusal f ≡ 0 → frame_of f ≡ ask n → no_steps_left (line_of state) (frame_console f) ≡ false
    → (step_answer state f ≡ 0) × (step_left state f ≡ line_bytes (counted (frame_console f) (line_of state)))

-- No kept answer goes stale.
abbrev pub NeverStaleOnBytes : Type 0
NeverStaleOnBytes =
    (state : List ℕ) (n : ℕ) (a : Asked) (f : List ℕ) → Bytes f → state_answer state ≡ 0 → (node_at (line_of state) n).asked ≡ some a → (node_at (line_of (step_left state f)) n).status ≡ down
    → (node_at (line_of (step_left state f)) n ≡ node_at (line_of state) n) × (answer_wrong (line_of (step_left state f)) n ≡ false)

-- "It refuses with 27, after 16, a Commit without a kept answer."
abbrev pub CommitUnkeptOnBytes : Type 0
CommitUnkeptOnBytes =
    (state : List ℕ) (n : ℕ) (f : List ℕ) → Bytes f → state_answer state ≡ 0 → frame_of f ≡ commit n → (node_at (line_of state) n).asked ≡ none
    → (let l = line_of state in (step_answer state f ≢ 0)
    × (frame_refusal f ≡ 0 → no_steps_left l (frame_console f) ≡ false → n < node_count l.plan → is_source l.plan n ≡ false → is_sink l.plan n ≡ false → (node_at l n).status ≡ down → step_answer state f ≡ 27))

-- "Checks 14 and 15 read both as Recover", and 27 comes after them.
abbrev pub CommitReadAsRecoverOnBytes : Type 0
CommitReadAsRecoverOnBytes = (state : List ℕ) (n : ℕ) (f g : List ℕ) → Bytes f → Bytes g → state_answer state ≡ 0 → OfOneConsole f (commit n) g (recover n) → step_answer state g ≢ 0 → step_answer state g ≤ 15 → step_answer state f ≡ step_answer state g

-- Two frames are answered alike and leave the same bytes.
abbrev pub SameStep : List ℕ → List ℕ → List ℕ → Type 0
SameStep state f g = (step_answer state f ≡ step_answer state g) × (step_left state f ≡ step_left state g)

-- With a kept answer, Commit does what Recover would do at that moment, byte for byte, counts and all.
abbrev pub CommitAsRecoverOnBytes : Type 0
CommitAsRecoverOnBytes = (state : List ℕ) (n : ℕ) (a : Asked) (f g : List ℕ) → Bytes f → Bytes g → state_answer state ≡ 0 → (node_at (line_of state) n).asked ≡ some a → OfOneConsole f (commit n) g (recover n) → SameStep state f g

-- Each of some calls leaves node n down.
abbrev pub StaysDownOnBytes : ℕ → List ℕ → List (List ℕ) → Type 0
StaysDownOnBytes n state [] = Unit {0}
StaysDownOnBytes n state (f ∷ fs) = ((node_at (line_of (step_left state f)) n).status ≡ down) × StaysDownOnBytes n (step_left state f) fs

-- "Ask and then Commit, with other accepted steps between that leave the node down, ends as Recover at the moment of Commit would."
abbrev pub AskThenCommitOnBytes : Type 0
AskThenCommitOnBytes =
    (state : List ℕ) (n : ℕ) (asks : List ℕ) (between : List (List ℕ)) (f g : List ℕ) → Bytes asks → Each Bytes between → Bytes f → Bytes g → state_answer state ≡ 0
    → frame_of asks ≡ ask n → step_answer state asks ≡ 0 → StaysDownOnBytes n (step_left state asks) between → OfOneConsole f (commit n) g (recover n)
    → SameStep (state_after (step_left state asks) between) f g
