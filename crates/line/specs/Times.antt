-- 2026-08's promises on bytes: over what Load and Step answer and leave.
use Rattle.std.specs.Prelude.{ℕ, ◌<◌, ◌≡◌, true, false, List, ◌∷◌}
use Rattle.plan.specs.Lawful.{Each, Bytes}
use Rattle.plan.specs.Record.{record_layout, record_fits}
use Rattle.plan.specs.Plan.{node_count, is_source, plan_of}
use Rattle.rules.specs.Line.{Message, up, node_at, lane_at, receiver_of}
use Rattle.rules.specs.Frame.{feed, take, frame_console, frame_of, frame_refusal}
use Rattle.rules.specs.Step.{no_steps_left}
use Rattle.rules.specs.Claim.{named}
use Rattle.rules.specs.Times.{counts, taken_silently, TimeCounts}
use Rattle.state.specs.State.{line_bytes, line_of, state_answer}
use Rattle.line.specs.Load.{load_answer, load_left}
use Rattle.line.specs.Step.{step_answer, step_left}
use Rattle.line.specs.Order.{story_of}
use Rattle.line.specs.Console.{SameOutside, CountsCallerOnBytes}

-- "a Feed that none of them takes leaves nothing but the step count, and 21 is not looked at for it": no byte but the caller's count differs.
abbrev pub QuietFeedOnBytes : Type 0
QuietFeedOnBytes =
    (state f : List ℕ) (n : ℕ) (r : List ℕ) → Bytes f → state_answer state ≡ 0
    → (let l = line_of state in
    frame_refusal f ≡ 0 → no_steps_left l (frame_console f) ≡ false → frame_of f ≡ feed n r → n < node_count l.plan → is_source l.plan n ≡ true → record_fits r ≡ true → counts l.plan n (record_layout.read r) ≡ false
    → (step_answer state f ≡ 0) × SameOutside (step_left state f) state × CountsCallerOnBytes state f)

-- "raises the clock as before but gets no time of its own"
abbrev pub SilentTakeOnBytes : Type 0
SilentTakeOnBytes =
    (state f : List ℕ) (b : ℕ) (m : Message) (rest : List Message) → Bytes f → state_answer state ≡ 0
    → (let l = line_of state in
    frame_of f ≡ take b → step_answer state f ≡ 0 → (lane_at l b).queue ≡ m ∷ rest → (node_at l (receiver_of l b)).status ≡ up → counts l.plan (receiver_of l b) m.what ≡ false
    → step_left state f ≡ line_bytes (taken_silently (frame_console f) b m rest l))

-- "The published method counts outgoing messages": by the answers and the states passed, never by a log.
abbrev pub TimesCountOnBytes : Type 0
TimesCountOnBytes =
    (plan lent : List ℕ) (frames : List (List ℕ)) (n : ℕ) → Bytes plan → Each Bytes frames → load_answer plan lent ≡ 0 → n < node_count (plan_of plan)
    → (let s = story_of (load_left plan lent) frames in named n s.crashes ≡ false → TimeCounts (plan_of plan) n s)
