-- A Feed that no leaving channel takes is accepted, and leaves nothing but the step count.
use Prim.Native.Nat.{ℕ}
use mathlib.Core.Path.{◌≡◌, refl, ap, ◌∙◌}
use mathlib.Core.Bool.{Bool, true, false, not, ◌&&◌}
use mathlib.Core.List.{List}
use mathlib.Core.Option.{some}
use lib.ListN.{length}
use lib.Dec.{leb}
use borrow.Author.Tests.{lt-leb}
use Rattle.plan.specs.Record.{record_layout, record_fits}
use Rattle.plan.specs.Plan.{node_count, is_source}
use Rattle.rules.specs.Line.{log_limit, Line, node_at, counted}
use Rattle.rules.specs.Frame.{Frame, feed, frame_console}
use Rattle.rules.specs.Replay.{timed}
use Rattle.rules.specs.Step.{made_by, fed_line, effect, no_placing, line_refusal, refusal, accepted, step}
use Rattle.rules.specs.Times.{QuietFeed}
use Rattle.rules.proofs.Histories.Passing.{timed-counts}
use Rattle.rules.proofs.Theorem.Accepted.{step-accepted}
use Rattle.rules.proofs.Restart.Frames.{formed_refusal}
use Rattle.rules.proofs.Console.Counted.{step-number}

feeding : Bool → Bool → Bool → Bool → ℕ
feeding a b c d = elim a [ true ↦ 13 | false ↦ elim b [ true ↦ 14 | false ↦ elim c [ true ↦ 17 | false ↦ elim d [ true ↦ 21 | false ↦ 0 ] ] ] ]

feeding_is : (l : Line) (n : ℕ) (r : List ℕ)
    → line_refusal l (feed n r) ≡ feeding (leb (node_count l.plan) n) (not (is_source l.plan n)) (not (record_fits r)) (timed l.plan n (made_by l n (record_layout.read r)) && leb log_limit (length (node_at l n).log))
unfolding line_refusal no_placing effect feeding
feeding_is l n r = refl

fed_nothing : (l : Line) (n : ℕ) (r : List ℕ) → timed l.plan n (made_by l n (record_layout.read r)) ≡ false → effect l (feed n r) ≡ some l
unfolding effect
fed_nothing l n r q = ap some (rw (fed_line, q))

pub quiet_feed : QuietFeed
unfolding feeding
quiet_feed l f n r formed left asks inside source fits silent =
    let quiet : timed l.plan n (made_by l n (record_layout.read r)) ≡ false = timed-counts l.plan n (record_layout.read r) ∙ silent in
    let refused : line_refusal l (feed n r) ≡ 0 =
    feeding_is l n r ∙ (λ i. feeding (lt-leb (node_count l.plan) n inside i) (not (source i)) (not (fits i)) (quiet i && leb log_limit (length (node_at l n).log))) in
    let number : refusal l f ≡ 0 = formed_refusal l {frame = f} (record { formed = formed; from = refl; asks = asks }) ∙ rw left refused in
    let line : (step l f).line ≡ counted (frame_console f) l = (step-accepted l f number).1 ∙ ap (λ (x : Frame). accepted (frame_console f) l (effect l x)) asks ∙ ap (accepted (frame_console f) l) (fed_nothing l n r quiet) in
    λ i. record { number = (step-number l f ∙ number) i; line = line i }
