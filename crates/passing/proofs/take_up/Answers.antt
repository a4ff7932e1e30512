use Prim.Native.Nat.{◌+◌, ◌<◌}
use mathlib.Core.Path.{◌≡◌, sym, ap, subst, ◌∙◌}
use native.Mathlib.Omega.{arith}
use lib.ListN.{drop}
use Rattle.plan.specs.declared.Channel.{Channel}
use Rattle.plan.specs.Plan.{Plan, plan_nodes}
use Rattle.rules.specs.Line.{lane_at, receiver_of}
use Rattle.state.specs.State.{line_of}
use Rattle.state.proofs.InPlace.{line-plan}
use Rattle.slots.specs.Slots.{message_is}
use Rattle.buffer.specs.Sets.{LeaveFrom}
use Rattle.buffer.proofs.ReadyLaws.{sender_inside}
use Rattle.buffer.proofs.SetLaws.{none_to_entering}
use Rattle.passing.proofs.StateLaws.{at-lane, on_channel, at_receiver, time_within}
use Rattle.passing.proofs.TakeLaws.{first_is, taken_in_front, taken_loggable, taken_up_lem, take-full, take_done}
use Rattle.passing.proofs.take_up.Goals as goal

pub log_count-requires : goal.log_count-requires
log_count-requires c =
    let given = c.requires in
    at_receiver (at-lane given.undamaged given.below) (c.from-n.ensures ∙ ap (λ (d : Channel). d.receiver) c.channel_of-c.ensures)

pub returns-then-log_count-ge-LOG : goal.returns-then-log_count-ge-LOG
returns-then-log_count-ge-LOG c =
    let a = c.args in
    let l = line_of a.s.now in
    let is : c.from-n.result ≡ receiver_of l a.b = c.from-n.ensures ∙ ap (λ (d : Channel). d.receiver) c.channel_of-c.ensures ∙ rw (line-plan a.s.now) in
    take-full a.s.now a.b c.requires (rw (← is) (omega (arith, c.log_count.ensures.0)))

pub made_by-what-requires : goal.made_by-what-requires
made_by-what-requires c =
    let q = (lane_at (line_of c.args.s.now) c.args.b).queue in
    (c.take_first.ensures (drop 1 q) (first_is q (message_is c.first_of-m.result) c.requires.waiting c.first_of-m.ensures)).ready

pub by-requires : goal.by-requires
by-requires c =
    let a = c.args in
    let u = c.requires.undamaged in
    let inside : c.channel_of-c.result.sender < plan_nodes a.s.now = rw c.channel_of-c.ensures (sender_inside a.s.now a.b (on_channel (at-lane u c.requires.below))) in
    omega (arith, inside, u.holds.ready.nodes)

pub log_taken-requires : goal.log_taken-requires
log_taken-requires c =
    let a = c.args in
    let u = c.requires.undamaged in
    let q = (lane_at (line_of a.s.now) a.b).queue in
    let there = at_receiver (at-lane u c.requires.below) (c.from-n.ensures ∙ ap (λ (d : Channel). d.receiver) c.channel_of-c.ensures) in
    let after = c.take_first.ensures (drop 1 q) (first_is q (message_is c.first_of-m.result) c.requires.waiting c.first_of-m.ensures) in (
      taken_loggable a.s.now c.take_first.new.s a.b (message_is c.first_of-m.result) (drop 1 q) after c.from-n.result
          (record { at = there; room = omega (arith, c.log_count.ensures.0, c.if-log_count-ge-LOG.false); time = time_within u there.inside }),
      subst (λ (p : Plan). LeaveFrom p c.from-n.result (a.b + 1)) (sym (taken_in_front a.s.now c.take_first.new.s a.b (message_is c.first_of-m.result) (drop 1 q) after))
          (none_to_entering (on_channel (at-lane u c.requires.below)) (c.from-n.ensures ∙ ap (λ (d : Channel). d.receiver) c.channel_of-c.ensures)),
    )

pub returns : goal.returns
returns c =
    let a = c.args in
    let l = line_of a.s.now in
    let q = (lane_at l a.b).queue in
    let first = first_is q (message_is c.first_of-m.result) c.requires.waiting c.first_of-m.ensures in
    let is : c.from-n.result ≡ receiver_of l a.b = c.from-n.ensures ∙ ap (λ (d : Channel). d.receiver) c.channel_of-c.ensures ∙ rw (line-plan a.s.now) in
    take_done a.s.now a.b c.requires c.log_taken.new.s (message_is c.first_of-m.result) (drop 1 q)
    (rw (← is) (omega (arith, c.log_count.ensures.0, c.if-log_count-ge-LOG.false)))
    first
    (taken_up_lem a.s.now c.take_first.new.s a.b (message_is c.first_of-m.result) (drop 1 q) (c.take_first.ensures (drop 1 q) first)
    c.log_taken.new.s c.channel_of-c.result c.from-n.result c.made_by-what.result c.channel_of-c.ensures c.from-n.ensures c.made_by-what.ensures (rw c.by.ensures at c.log_taken.ensures))
