-- A quiet line: nothing put on a channel is still to come, so the run of its history is at rest.
use Prim.Native.Nat.{ℕ, suc, ◌<◌}
use mathlib.Core.Path.{◌≡◌, refl, sym, ap, subst, ◌∙◌}
use mathlib.Core.Logic.{◌≢◌}
use mathlib.Core.Bool.{Bool, true, ◌&&◌, true≢false}
use mathlib.Core.List.{List, [], ◌∷◌, ◌++◌, cons≢nil}
use mathlib.Core.Option.{Option}
use native.Mathlib.Omega.{arith}
use lib.ListN.{length, get_or}
use Rattle.basics.specs.Bools.{both_true}
use Rattle.plan.specs.declared.Record.{Record}
use Rattle.plan.specs.Plan.{channel_at, node_count, channel_count}
use Rattle.rules.specs.Lists.{all_of, up_to, is_empty}
use Rattle.rules.specs.Line.{Message, Entry, Status, up, down, replay, Line, node_at, lane_at, is_up}
use Rattle.rules.specs.Step.{sendable, is_nothing}
use Rattle.rules.specs.Plain.{Act, Receipt, plain_run, at_rest}
use Rattle.rules.specs.Claim.{quiet}
use Rattle.rules.proofs.Lists.ListLaws.{empty_none}
use Rattle.rules.proofs.Lists.Rising.{until, past, cut_at, rises_past, past_past}
use Rattle.rules.proofs.Lists.Options.{nothing_none}
use Rattle.rules.proofs.Lists.Members.{all_in, in_up_to}
use Rattle.rules.proofs.Histories.Ghost.{Ghost, put, log_put}
use Rattle.rules.proofs.Invariant.Inv.{Inv, time_of}
use Rattle.rules.proofs.Invariant.InvLaws.{up_not_down}
use Rattle.rules.proofs.Steps.SendInv.{First, sendable_first}
use Rattle.rules.proofs.Invariant.Conclusion.{run, run_empties}

pub status_up : (s : Status) → is_up s ≡ true → s ≡ up
status_up up e = refl
status_up down e = absurd (true≢false (sym e))
status_up replay e = absurd (true≢false (sym e))

-- Every channel empty is rest.
empty_rests : (qs : List (List Record)) → ((b : ℕ) → b < length qs → get_or qs b [] ≡ []) → at_rest qs ≡ true
empty_rests [] f = refl
empty_rests ([] ∷ qs) f = empty_rests qs (λ b h. f (suc b) (omega arith))
empty_rests ((r ∷ rest) ∷ qs) f = absurd (cons≢nil (f 0 (omega arith)))

module _ (l : Line) (g : Ghost) (cut base : ℕ → ℕ) (fed : List Act) (receipts : List Receipt) (crashes : List ℕ) (inv : Inv l g cut base fed receipts crashes) (still : quiet l ≡ true) where
  abbrev idle_channel : ℕ → Bool
  idle_channel b = is_nothing (sendable l b) && is_empty (lane_at l b).queue

  abbrev up_node : ℕ → Bool
  up_node n = is_up (node_at l n).status

  both_still : (all_of idle_channel (up_to 0 (channel_count l.plan)) ≡ true) × (all_of up_node (up_to 0 (node_count l.plan)) ≡ true)
  unfolding quiet
  both_still = both_true (all_of idle_channel (up_to 0 (channel_count l.plan))) (all_of up_node (up_to 0 (node_count l.plan))) still

  all_up : (n : ℕ) → n < node_count l.plan → (node_at l n).status ≡ up
  all_up n h = status_up (node_at l n).status (all_in up_node both_still.1 (in_up_to 0 (node_count l.plan) n (omega arith) (omega arith)))

  module _ (b : ℕ) (h : b < channel_count l.plan) where
    idle : (is_nothing (sendable l b) ≡ true) × (is_empty (lane_at l b).queue ≡ true)
    idle = both_true (is_nothing (sendable l b)) (is_empty (lane_at l b).queue) (all_in idle_channel both_still.0 (in_up_to 0 (channel_count l.plan) b (omega arith) (omega arith)))

    receiver_up : (node_at l (channel_at l.plan b).receiver).status ≡ up
    receiver_up = all_up (channel_at l.plan b).receiver (inv.ordered.inside b h)

    sender_up : (node_at l (channel_at l.plan b).sender).status ≡ up
    sender_up = all_up (channel_at l.plan b).sender (omega (arith, inv.ordered.forward b h, inv.ordered.inside b h))

    none_late : past time_of (lane_at l b).mark (log_put l b) ≡ []
    none_late = subst (λ (o : Option Entry). First o (past time_of (lane_at l b).mark (log_put l b))) (nothing_none (sendable l b) idle.0) (sendable_first l b)

    -- All that was put on the channel was got.
    nothing_to_come : past time_of (cut b) (put l.plan g b) ≡ []
    nothing_to_come =
        let c = inv.channels b h in
        let s = c.sender_up sender_up in
        let mark = (lane_at l b).mark in
        let taken = (lane_at l b).taken in
        let puts = put l.plan g b in
        let receiving : (node_at l (channel_at l.plan b).receiver).status ≢ down = λ e. up_not_down (sym receiver_up ∙ e) in
        let (ordered, late, queue) = s.queue receiving in
        let before : until time_of mark (past time_of taken puts) ≡ [] = ap (until time_of mark) (sym (s.to_come receiving)) ∙ sym queue ∙ empty_none (lane_at l b).queue idle.1 in
        let after : past time_of mark (past time_of taken puts) ≡ [] = ap (past time_of mark) (sym (s.to_come receiving)) ∙ past_past time_of taken mark ordered (log_put l b) ∙ none_late in
        ap (λ (t : ℕ). past time_of t puts) (c.cut_up receiver_up) ∙ cut_at time_of mark (rises_past time_of taken c.rises) ∙ ap (λ (x : List Message). x ++ past time_of mark (past time_of taken puts)) before ∙ after

  pub quiet-rests : at_rest (plain_run l.plan (run l g cut fed receipts crashes inv.nodes inv.channels).0).queues ≡ true
  quiet-rests =
      let witness = run l g cut fed receipts crashes inv.nodes inv.channels in
      empty_rests (plain_run l.plan witness.0).queues
      (λ b h. (let k : b < channel_count l.plan = omega (arith, witness.2.long) in run_empties l g cut fed receipts crashes inv.nodes inv.channels b k (nothing_to_come b k)))
