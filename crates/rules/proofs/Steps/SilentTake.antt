-- A Take of a record that no leaving channel takes raises the clock, and is logged at the node's present time with an empty set.
use Prim.Native.Nat.{ℕ, suc}
use mathlib.Core.Path.{◌≡◌, ap, sym, ◌∙◌}
use mathlib.Core.Bool.{false, cond, not}
use mathlib.Core.List.{List}
use lib.Dec.{eqb}
use borrow.Author.Tests.{eqb-true, not-false}
use Rattle.basics.specs.Bools.{neither_true}
use Rattle.plan.specs.declared.Record.{Record}
use Rattle.plan.specs.Plan.{Plan, is_sink}
use Rattle.plan.specs.Mask.{set_of}
use Rattle.rules.specs.Line.{made, Message, is_replay, node_at, sender_of, receiver_of, with_node, counted}
use Rattle.rules.specs.Frame.{Frame, frame_console}
use Rattle.rules.specs.Clock.{logged}
use Rattle.rules.specs.Replay.{timed}
use Rattle.rules.specs.Step.{made_by, taken_up, taken_lane, taken_first, taken_line, effect, accepted, refusal}
use Rattle.rules.specs.Times.{SilentTake}
use Rattle.rules.proofs.Histories.Passing.{timed_by_set, timed-counts}
use Rattle.rules.proofs.Theorem.Accepted.{step-accepted}
use Rattle.rules.proofs.Theorem.StepInv.{first_up}
use Rattle.rules.proofs.Console.Counted.{step-number}

no_set : (p : Plan) (n : ℕ) (r : Record) → timed p n r ≡ false → set_of p n r ≡ 0
no_set p n r e = eqb-true (set_of p n r) 0 (not-false (eqb (set_of p n r) 0) (neither_true (is_sink p n) (not (eqb (set_of p n r) 0)) (sym (timed_by_set p n r) ∙ e)).1)

pub silent_take : SilentTake
unfolding effect taken_line taken_up taken_lane logged
silent_take l f b m rest asks zero first alive silent =
    let n = receiver_of l b in
    let x = node_at l n in
    let what = made_by l n m.what in
    let untimed : timed l.plan n what ≡ false = timed-counts l.plan n m.what ∙ silent in
    let accepts : refusal l f ≡ 0 = sym (step-number l f) ∙ zero in
    let taken = taken_lane b m rest l in
    (step-accepted l f accepts).1
    ∙ ap (λ (y : Frame). accepted (frame_console f) l (effect l y)) asks
    ∙ ap (accepted (frame_console f) l) (ap (λ (q : List Message). taken_first b q l) first ∙ first_up b m rest l (ap is_replay alive))
    ∙ (λ i. counted (frame_console f) (with_node n (logged (cond (untimed i) (suc x.time) x.time) (no_set l.plan n what untimed i) what (made (sender_of l b) m.time) m.origin x) taken))
