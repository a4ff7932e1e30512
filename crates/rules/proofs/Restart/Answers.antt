-- Recover of a down node, and a Take and a Send in a replay, are refused by nothing but the caller's step limit.
use Prim.Native.Nat.{ℕ, ◌<◌}
use mathlib.Core.Path.{◌≡◌, refl, sym, ap, ◌∙◌}
use mathlib.Core.Bool.{Bool, true, false, not, ◌&&◌, true≢false}
use mathlib.Core.List.{List, []}
use mathlib.Core.Option.{some}
use native.Mathlib.Omega.{arith}
use native.Mathlib.Decide.{dec_lt}
use lib.ListN.{length, get_or-eq_default}
use lib.Dec.{leb}
use borrow.Author.Tests.{leb-false, lt-leb, le-ltb}
use Rattle.plan.specs.Plan.{node_count, channel_count, channel_at}
use Rattle.rules.specs.Lists.{is_empty}
use Rattle.rules.specs.Line.{step_limit, console_count, steps_from, held_limit, target_limit, Status, down, replay, Line, no_lane, node_at, lane_at, receiver_of, is_down}
use Rattle.rules.specs.Frame.{Frame, take, recover, Caller, console_of}
use Rattle.rules.specs.Recover.{targets_of, row_complete, recovered}
use Rattle.rules.specs.Step.{no_steps_left, no_such, some_stopped, wrong_node, wrong_status, beside_crashed, no_answer, bad_record, nothing_there, queue_full, row_done, take_lacks, no_space, effect, no_placing, line_refusal, refusal}
use Rattle.rules.specs.Restart.{take_frame, recover_frame, unless_used_up}
use Rattle.rules.proofs.Lists.Members.{in_keep}
use Rattle.rules.proofs.Lists.Counts.{in_long}
use Rattle.rules.proofs.Line.Consoles.{counts_left}
use Rattle.rules.proofs.Histories.Passing.{goes_on}
use Rattle.rules.proofs.Invariant.Inv.{is_up, waits, takens}
use Rattle.rules.proofs.Invariant.InvLaws.{not_up_inside, up_not_down, replay_marked, marked_unless_up}
use Rattle.rules.proofs.Invariant.MarkedLaws.{parent_up}
use Rattle.rules.proofs.Steps.HoldInv.{waited}
use Rattle.rules.proofs.Theorem.Accepted.{CanTake, may_take, may_recover}
use Rattle.rules.proofs.Restart.Known.{Known}
use Rattle.rules.proofs.Restart.Frames.{Formed, formed_refusal, recover_formed, take_formed}
use Rattle.rules.proofs.Restart.RecoverGoes.{targets_few}
use Rattle.rules.proofs.Restart.NeverUnplaced.{recover_goes, take_goes}

-- The refusals 13 to 21 and 26 of a frame, none of which applies.
pub record Unrefused (l : Line) (f : Frame) : Type 0 where
  pub is_there : no_such l f ≡ false
  pub none_stopped : some_stopped l f ≡ false
  pub right_node : wrong_node l f ≡ false
  pub right_status : wrong_status l f ≡ false
  pub apart : beside_crashed l f ≡ false
  pub answered : no_answer l f ≡ false
  pub record_good : bad_record f ≡ false
  pub something : nothing_there l f ≡ false
  pub room : queue_full l f ≡ false
  pub row_open : row_done l f ≡ false
  pub space : no_space l f ≡ false

-- It is accepted unless the caller's steps are used up, where it leads to a line.
pub answered : (l : Line) (w : Caller) {frame : List ℕ} {f : Frame} → Formed frame (console_of w) f → Unrefused l f → (steps_from l (console_of w) < step_limit → (k : Line) × (effect l f ≡ some k)) → refusal l frame ≡ unless_used_up l w
unfolding line_refusal unless_used_up no_steps_left no_placing
answered l w {frame} {f} formed u goes = formed_refusal l formed ∙ go (no_steps_left l (console_of w)) refl
  where
    go : (t : Bool) → no_steps_left l (console_of w) ≡ t → (elim (no_steps_left l (console_of w)) [ true ↦ 12 | false ↦ line_refusal l f ]) ≡ unless_used_up l w
    go true e = rw (e, unless_used_up)
    go false e =
        let (k, leads) = goes (leb-false step_limit (steps_from l (console_of w)) e) in
        rw (
          e,
          unless_used_up,
          line_refusal,
          u.is_there,
          line_refusal,
          u.none_stopped,
          line_refusal,
          u.right_node,
          line_refusal,
          u.right_status,
          line_refusal,
          u.apart,
          line_refusal,
          u.answered,
          line_refusal,
          u.record_good,
          line_refusal,
          u.something,
          line_refusal,
          u.room,
          line_refusal,
          u.row_open,
          line_refusal,
          u.space,
          line_refusal,
          leads,
          line_refusal,
        )

module _ (l : Line) (known : Known l) where
  open known use {ghost, cut, base, fed, receipts, crashes, inv}

  -- A channel with a message on it is one of the plan's.
  queue_inside : (b : ℕ) → is_empty (lane_at l b).queue ≡ false → b < channel_count l.plan
  queue_inside b e = elim (dec_lt b (channel_count l.plan)) [
    | yes h ↦ h
    | no h ↦ absurd (true≢false (sym (ap (λ (x : _). is_empty x.queue) (get_or-eq_default l.lanes no_lane (omega (arith, inv.shape.lanes_long)))) ∙ e))
  ]

  recover_unrefused : (n : ℕ) → (node_at l n).status ≡ down → Unrefused l (recover n)
  recover_unrefused n e =
      let inside = not_up_inside inv.shape n (λ z. up_not_down (sym z ∙ e)) in
      let marked = marked_unless_up inv.marks n (λ z. up_not_down (sym z ∙ e)) in
      let (source, sink) = inv.marks.between n marked in
      record {
        is_there = lt-leb (node_count l.plan) n inside;
        none_stopped = refl;
        right_node = rw (source, sink);
        right_status = ap (λ (s : Status). not (is_down s)) e;
        apart = refl;
        answered = refl;
        record_good = refl;
        something = refl;
        room = refl;
        row_open = refl;
        space = le-ltb target_limit (length (targets_of l n)) (targets_few l ghost cut base fed receipts crashes inv n inside e);
      }

  pub recover_restores : (n : ℕ) → (node_at l n).status ≡ down → effect l (recover n) ≡ some (recovered n l)
  recover_restores n e = let u = recover_unrefused n e in recover_goes l known n (may_recover l n u.is_there u.right_node u.right_status)

  pub recovers : (w : Caller) → console_of w < console_count → (n : ℕ) → (node_at l n).status ≡ down → refusal l (recover_frame w n) ≡ unless_used_up l w
  recovers w there n e = answered l w (recover_formed w there n) (recover_unrefused n e) (λ h. (_, recover_restores n e))

  -- The ends of a channel that enters a replaying node are not down.
  pub ends_there : (b : ℕ) → b < channel_count l.plan → (node_at l (channel_at l.plan b).receiver).status ≡ replay → wrong_status l (take b) ≡ false
  ends_there b h again =
      let n = (channel_at l.plan b).receiver in
      let sender = parent_up inv n (replay_marked inv.marks n again) b (h, refl) in
      rw (sender, again)

  module _ (b : ℕ) (again : (node_at l (receiver_of l b)).status ≡ replay) (open_row : row_complete l (receiver_of l b) b ≡ false) (queued : is_empty (lane_at l b).queue ≡ false) where
    abbrev n : ℕ
    n = (channel_at l.plan b).receiver

    inside : b < channel_count l.plan
    inside = queue_inside b queued

    done : row_done l (take b) ≡ false
    done = rw (again, open_row)

    pub can : CanTake l b
    can = may_take l b (lt-leb (channel_count l.plan) b inside) (ends_there b inside again) queued done

    sender_up : is_up l (channel_at l.plan b).sender
    sender_up = parent_up inv n (replay_marked inv.marks n again) b (inside, refl)

    -- What is to be held was waited for, so there is room for it.
    space : take_lacks l b ≡ false
    unfolding take_lacks
    space = rw (again, can.first) (go (goes_on l.plan n can.message) refl)
      where
        go : (t : Bool) → goes_on l.plan n can.message ≡ t → (t && leb held_limit (length (node_at l n).held)) ≡ false
        go false e = refl
        go true e =
            let (t, i, w) = waited l ghost cut base fed receipts crashes inv b inside can.message can.rest [] can.first sender_up again (can.below_goal again) e in
            let some_waits = in_long (in_keep (waits l.plan n (node_at l n).time (takens l)) i w) in
            lt-leb held_limit (length (node_at l n).held) (omega (arith, some_waits, (inv.rooms n (replay_marked inv.marks n again)).held_few again))

    pub take_unrefused : Unrefused l (take b)
    take_unrefused =
        record {
          is_there = lt-leb (channel_count l.plan) b inside;
          none_stopped = refl;
          right_node = refl;
          right_status = ends_there b inside again;
          apart = refl;
          answered = refl;
          record_good = refl;
          something = queued;
          room = refl;
          row_open = done;
          space = space;
        }

    pub replays : (w : Caller) → console_of w < console_count → refusal l (take_frame w b) ≡ unless_used_up l w
    replays w there = answered l w (take_formed w there b) take_unrefused (λ left. take_goes l known b can (counts_left known.steady.limits.counts there left))
