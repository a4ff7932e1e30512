-- 2026-07: what is promised of Ask and Commit.
use Rattle.std.specs.Prelude.{ℕ, ◌-◌, ◌<◌, ◌≤◌, ◌≡◌, ◌≢◌, false, List, [], ◌∷◌, ◌++◌, map, length, replicate}
use Rattle.std.proofs.Math.Option.{none, some}
use Rattle.plan.specs.Lawful.{Each, Bytes}
use Rattle.plan.specs.Plan.{node_count, entering, leaving, is_source, is_sink}
use Rattle.rules.specs.Lists.{greatest_of}
use Rattle.rules.specs.Line.{down, Asked, Line, node_at, lane_at, with_node, counted}
use Rattle.rules.specs.Frame.{Frame, recover, ask, commit, frame_console, frame_of, frame_refusal}
use Rattle.rules.specs.Recover.{targets_of, answer_of}
use Rattle.rules.specs.Step.{no_steps_left, step}
use Rattle.rules.specs.Damaged.{answer_wrong, damaged}

-- Two well-formed frames of one console, and what each asks.
pub record OfOneConsole (f : List ℕ) (asks : Frame) (g : List ℕ) (asks-too : Frame) : Type 0 where
  pub formed : frame_refusal f ≡ 0
  pub formed_too : frame_refusal g ≡ 0
  pub who : frame_console f ≡ frame_console g
  pub is : frame_of f ≡ asks
  pub is_too : frame_of g ≡ asks-too

-- "It is refused just where Recover would be, and then keeps what it kept before." Of every line.
abbrev pub AskRefused : Type 0
AskRefused = (l : Line) (n : ℕ) (f g : List ℕ) → OfOneConsole f (ask n) g (recover n) → ((step l f).number ≡ (step l g).number) × ((step l f).number ≢ 0 → (step l f).line ≡ l)

-- "Kind 7, Ask, works out what Recover would and keeps it with the down node": it changes nothing else, and is counted. Of every line.
abbrev pub AskKeeps : Type 0
AskKeeps =
    (l : Line) (n : ℕ) (f : List ℕ) → frame_of f ≡ ask n → (step l f).number ≡ 0
    → (step l f).line
    ≡ counted (frame_console f) (with_node n (record { status = (node_at l n).status; crashed = (node_at l n).crashed; time = (node_at l n).time; log = (node_at l n).log; held = (node_at l n).held; targets = targets_of l n; asked = some (answer_of l n) }) l)

-- What the supervisor sees is what Recover would leave: the time, the targets, each parent's entry in the order of the channels that enter the node; and high is the greatest of its children's entries for it.
abbrev pub AskTells : Type 0
AskTells =
    (l : Line) (n : ℕ) (a : Asked) (f h : List ℕ) → damaged l ≡ false → OfOneConsole f (ask n) h (recover n) → (step l f).number ≡ 0 → (node_at (step l f).line n).asked ≡ some a
    → ((node_at (step l h).line n).time ≡ a.low)
    × (a.high ≡ greatest_of (map (λ (c : ℕ). (lane_at l c).taken) (leaving l.plan n)))
    × ((node_at (step l h).line n).targets ≡ (node_at (step l f).line n).targets)
    × (a.entries ≡ map (λ (c : ℕ). (lane_at (step l h).line c).taken) (entering l.plan n) ++ replicate (4 - length (entering l.plan n)) 0)

-- What it keeps brings back what Recover would: committed at once, all is as Recover would have left it, but that there is one step more.
abbrev pub AskAndCommit : Type 0
AskAndCommit =
    (l : Line) (n : ℕ) (f g h : List ℕ) → damaged l ≡ false → OfOneConsole f (ask n) g (commit n) → OfOneConsole g (commit n) h (recover n)
    → (step l f).number ≡ 0 → (step (step l f).line g).number ≡ 0
    → (step (step l f).line g).line ≡ counted (frame_console h) (step l h).line

-- "Ask may be repeated": it is then accepted while the console has steps left, and nothing but the console's count of steps changes.
abbrev pub AskAgain : Type 0
AskAgain =
    (l : Line) (n : ℕ) (a : Asked) (f : List ℕ) → damaged l ≡ false → (node_at l n).asked ≡ some a → frame_refusal f ≡ 0 → frame_of f ≡ ask n → no_steps_left l (frame_console f) ≡ false
    → ((step l f).number ≡ 0) × ((step l f).line ≡ counted (frame_console f) l)

-- No kept answer goes stale: whatever is asked, a node that keeps one and is left down keeps the same one, and Recover would still give it.
abbrev pub NeverStale : Type 0
NeverStale =
    (l : Line) (n : ℕ) (a : Asked) (f : List ℕ) → damaged l ≡ false → Bytes f → (node_at l n).asked ≡ some a → (node_at (step l f).line n).status ≡ down
    → (node_at (step l f).line n ≡ node_at l n) × (answer_wrong (step l f).line n ≡ false)

-- "It refuses with 27, after 16, a Commit without a kept answer": none is accepted, and where nothing before it applies the number is 27. Of every line.
abbrev pub CommitUnkept : Type 0
CommitUnkept =
    (l : Line) (n : ℕ) (f : List ℕ) → frame_of f ≡ commit n → (node_at l n).asked ≡ none
    → ((step l f).number ≢ 0)
    × (frame_refusal f ≡ 0 → no_steps_left l (frame_console f) ≡ false → n < node_count l.plan → is_source l.plan n ≡ false → is_sink l.plan n ≡ false → (node_at l n).status ≡ down → (step l f).number ≡ 27)

-- "Checks 14 and 15 read both as Recover", and 27 comes after them: where a Recover of the same console is refused with 12 to 15, so is the Commit. Of every line.
abbrev pub CommitReadAsRecover : Type 0
CommitReadAsRecover = (l : Line) (n : ℕ) (f g : List ℕ) → OfOneConsole f (commit n) g (recover n) → (step l g).number ≢ 0 → (step l g).number ≤ 15 → (step l f).number ≡ (step l g).number

-- With a kept answer, Commit does what Recover would do at that moment: the same number, the same line, counts and all. Each is one step of the same console's; the Ask is counted in both.
abbrev pub CommitAsRecover : Type 0
CommitAsRecover = (l : Line) (n : ℕ) (a : Asked) (f g : List ℕ) → damaged l ≡ false → (node_at l n).asked ≡ some a → OfOneConsole f (commit n) g (recover n) → step l f ≡ step l g

-- The line after some frames, and that each of them leaves node n down.
abbrev pub line_after : Line → List (List ℕ) → Line
line_after l [] = l
line_after l (f ∷ fs) = line_after (step l f).line fs

abbrev pub StaysDown : ℕ → Line → List (List ℕ) → Type 0
StaysDown n l [] = Unit {0}
StaysDown n l (f ∷ fs) = ((node_at (step l f).line n).status ≡ down) × StaysDown n (step l f).line fs

-- "Ask and then Commit, with other accepted steps between that leave the node down, ends as Recover at the moment of Commit would." Refused frames may stand between too.
abbrev pub AskThenCommit : Type 0
AskThenCommit =
    (l : Line) (n : ℕ) (asks : List ℕ) (between : List (List ℕ)) (f g : List ℕ) → damaged l ≡ false → Bytes asks → Each Bytes between
    → frame_of asks ≡ ask n → (step l asks).number ≡ 0 → StaysDown n (step l asks).line between → OfOneConsole f (commit n) g (recover n)
    → step (line_after (step l asks).line between) f ≡ step (line_after (step l asks).line between) g
