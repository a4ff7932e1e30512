-- Two nodes that are down, restarted in either order, on bytes.
use Prim.Native.Nat.{ℕ}
use mathlib.Core.Path.{◌≡◌, sym, ap, ◌∙◌}
use mathlib.Core.Bool.{cond}
use mathlib.Core.List.{List}
use Rattle.plan.specs.Lawful.{Bytes}
use Rattle.rules.specs.Line.{Line, node_at, lane_at}
use Rattle.rules.specs.Frame.{frame_console}
use Rattle.rules.specs.Step.{step}
use Rattle.rules.specs.EitherOrder.{spent_after}
use Rattle.rules.proofs.Restart.EitherOrder.{either_order, down_apart, restarts_alone}
use Rattle.state.specs.State.{line_bytes, line_of, state_answer}
use Rattle.state.proofs.SpelledLaws.{state_sane}
use Rattle.line.specs.Step.{step_answer, step_left}
use Rattle.line.specs.EitherOrder.{EitherOrderOnBytes, DownApartOnBytes, RestartsAloneOnBytes}
use Rattle.line.proofs.StepLaws.{OneCall, one_call}

-- Two calls, one after the other.
module _ (state f g : List ℕ) (bytes : Bytes f) (bytes-too : Bytes g) (z : state_answer state ≡ 0) where
  first : OneCall state f
  first = one_call state f bytes z

  second : OneCall (step_left state f) g
  second = one_call (step_left state f) g bytes-too first.accepted

  number_two : step_answer (step_left state f) g ≡ (step (step (line_of state) f).line g).number
  number_two = second.number ∙ ap (λ (l : Line). (step l g).number) first.line

  left_two : step_left (step_left state f) g ≡ line_bytes (step (step (line_of state) f).line g).line
  left_two = second.left ∙ ap (λ (l : Line). line_bytes (step l g).line) first.line

pub either_order_on_bytes : EitherOrderOnBytes
either_order_on_bytes state m n f g bytes bytes-too z two one_down other-down asks asks-too =
    let either = either_order (line_of state) m n f g ((state_sane state).0 z).undamaged two one_down other-down asks asks-too in
    let one = first state f g bytes bytes-too z in
    let other = first state g f bytes-too bytes z in
    let number = number_two state f g bytes bytes-too z in
    let number-too = number_two state g f bytes-too bytes z in
    record {
      same = λ e e'.
          (let (zero, last, lines) = either.same (sym one.number ∙ e) (sym number ∙ e') in
          (other.number ∙ zero, number-too ∙ last, left_two state f g bytes bytes-too z ∙ ap line_bytes lines ∙ sym (left_two state g f bytes-too bytes z)));
      number = number ∙ either.number ∙ (λ i. cond (spent_after (line_of state) f (sym one.number i) (frame_console g)) 12 (sym other.number i));
    }

pub down_apart_on_bytes : DownApartOnBytes
down_apart_on_bytes state m n b z = down_apart (line_of state) m n b ((state_sane state).0 z).undamaged

pub restarts_alone_on_bytes : RestartsAloneOnBytes
restarts_alone_on_bytes state n f bytes z is_down_lem asks =
    let line = (one_call state f bytes z).line in
    let (nodes, lanes) = restarts_alone (line_of state) n f ((state_sane state).0 z).undamaged is_down_lem asks in
    (λ m d. ap (λ (l : Line). node_at l m) line ∙ nodes m d, λ b from to. ap (λ (l : Line). lane_at l b) line ∙ lanes b from to)
