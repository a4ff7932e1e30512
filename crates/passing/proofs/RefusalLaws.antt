-- A step's refusals, one behind the other, and what a refused and an accepted step are.
use Prim.Native.Nat.{ℕ}
use mathlib.Core.Path.{◌≡◌, refl, ◌∙◌}
use mathlib.Core.Logic.{◌≢◌}
use mathlib.Core.Bool.{Bool, true, false, not, ◌&&◌}
use mathlib.Core.List.{List, [], ◌∷◌}
use mathlib.Core.Option.{some}
use lib.Dec.{leb}
use lib.ListN.{length}
use Rattle.plan.specs.Record.{record_layout, record_fits}
use Rattle.plan.specs.Plan.{node_count, channel_count, is_source}
use Rattle.rules.specs.Lists.{is_empty}
use Rattle.rules.specs.Line.{log_limit, queue_limit, Line, node_at, lane_at, receiver_of}
use Rattle.rules.specs.Frame.{Frame, feed, send, take}
use Rattle.rules.specs.Replay.{timed}
use Rattle.rules.specs.Step.{made_by, no_such, some_stopped, wrong_node, end_down, wrong_status, beside_crashed, no_answer, bad_record, sendable, is_nothing, nothing_there, queue_full, replaying, row_done, take_lacks, no_space, effect, no_placing, line_refusal}
use Rattle.state.specs.State.{line_of}
use Rattle.buffer.specs.Holds.{Holds, Did}

-- The first of some tests that applies, by its number; 0 where none does.
abbrev pub first_of : List (ℕ × Bool) → ℕ
first_of [] = 0
first_of ((k, t) ∷ ts) = elim t [ true ↦ k | false ↦ first_of ts ]

pub refusal_first : (l : Line) (f : Frame) → line_refusal l f
    ≡ first_of ((13, no_such l f) ∷ (26, some_stopped l f) ∷ (14, wrong_node l f) ∷ (15, wrong_status l f) ∷ (16, beside_crashed l f) ∷ (27, no_answer l f) ∷ (17, bad_record f) ∷ (18, nothing_there l f) ∷ (19, queue_full l f) ∷ (20, row_done l f) ∷ (21, no_space l f) ∷ (24, no_placing l f) ∷ [])
unfolding line_refusal no_placing
refusal_first l f = refl

-- A frame that leads to a line is not refused for want of a placing.
pub placed : (l : Line) (f : Frame) (k : Line) → effect l f ≡ some k → no_placing l f ≡ false
unfolding no_placing
placed l f k e = rw e

-- ---- each kind's refusals

feed_placed : (l : Line) (n : ℕ) (r : List ℕ) → no_placing l (feed n r) ≡ false
unfolding no_placing
feed_placed l n r = refl

pub feed_number : (l : Line) (n : ℕ) (r : List ℕ)
    → line_refusal l (feed n r) ≡ first_of ((13, leb (node_count l.plan) n) ∷ (14, not (is_source l.plan n)) ∷ (17, not (record_fits r)) ∷ (21, timed l.plan n (made_by l n (record_layout.read r)) && leb log_limit (length (node_at l n).log)) ∷ [])
feed_number l n r = refusal_first l (feed n r) ∙ rw (feed_placed l n r)

send_placed : (l : Line) (b : ℕ) → no_placing l (send b) ≡ false
unfolding no_placing
send_placed l b = refl

pub send_number : (l : Line) (b : ℕ)
    → line_refusal l (send b) ≡ first_of ((13, leb (channel_count l.plan) b) ∷ (15, end_down l b) ∷ (18, is_nothing (sendable l b)) ∷ (19, leb queue_limit (length (lane_at l b).queue)) ∷ [])
send_number l b = refusal_first l (send b) ∙ rw (send_placed l b)

take_lacks_lem : (l : Line) (b : ℕ) → replaying l (receiver_of l b) ≡ false → take_lacks l b ≡ leb log_limit (length (node_at l (receiver_of l b)).log)
unfolding take_lacks
take_lacks_lem l b live = rw live

-- A Take of a receiver that is up, where there is something to take.
pub take-number : (l : Line) (b : ℕ) → leb (channel_count l.plan) b ≡ false → end_down l b ≡ false → is_empty (lane_at l b).queue ≡ false → replaying l (receiver_of l b) ≡ false
    → line_refusal l (take b) ≡ first_of ((21, leb log_limit (length (node_at l (receiver_of l b)).log)) ∷ (24, no_placing l (take b)) ∷ [])
take-number l b below standing waiting live = refusal_first l (take b) ∙ rw (below, standing, waiting, take_lacks_lem l b live, live)

-- ---- what a step promises

pub refused : (s : List ℕ) (f : Frame) (r : ℕ) → r ≢ 0 → line_refusal (line_of s) f ≡ r → Did s f s r
refused s f r other e = record { number = e; refused = λ n. refl; done = λ z. absurd (other z) }

pub accepted : (s t : List ℕ) (f : Frame) (k : Line) → line_refusal (line_of s) f ≡ 0 → effect (line_of s) f ≡ some k → Holds t k → Did s f t 0
accepted s t f k e q h = record { number = e; refused = λ n. absurd (n refl); done = λ z. (k, (q, h)) }
