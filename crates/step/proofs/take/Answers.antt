use Prim.Native.Nat.{ℕ}
use mathlib.Core.Path.{sym, ◌∙◌}
use mathlib.Core.List.{List}
use native.Mathlib.Omega.{arith}
use Rattle.step.proofs.StepLaws.{no_channel, end_down_lem, nothing_there, at_receiver}
use Rattle.step.proofs.take.Goals as goal

pub returns-then-channel_count-b : goal.returns-then-channel_count-b
returns-then-channel_count-b c =
    no_channel c.args.s.now c.args.b c.requires.holds (omega (arith, c.channel_count.ensures.0))

pub returns-then-end_down : goal.returns-then-end_down
returns-then-end_down c =
    end_down_lem c.args.s.now c.args.b c.requires.holds (omega (arith, c.channel_count.ensures.0)) (sym c.end_down.ensures ∙ c.if-end_down.true)

pub returns-then-queue_count-eq0 : goal.returns-then-queue_count-eq0
returns-then-queue_count-eq0 c =
    nothing_there c.args.s.now c.args.b c.requires.holds (omega (arith, c.channel_count.ensures.0)) (sym c.end_down.ensures ∙ c.if-end_down.false) (sym c.queue_count.ensures.0 ∙ c.if-queue_count-eq0.true)

pub take_replaying-requires : goal.take_replaying-requires
take_replaying-requires c =
    let s : List ℕ = c.args.s.now in (
      c.requires,
      omega (arith, c.channel_count.ensures.0),
      sym c.end_down.ensures ∙ c.if-end_down.false,
      omega (arith, c.queue_count.ensures.0, c.if-queue_count-eq0.false),
      sym (at_receiver s c.args.b c.receiver_of.result c.receiver_of.ensures.0) ∙ sym c.is_replaying.ensures ∙ c.if-is_replaying.true,
    )

pub take_up-requires : goal.take_up-requires
take_up-requires c =
    let s : List ℕ = c.args.s.now in
    record {
      undamaged = c.requires;
      below = omega (arith, c.channel_count.ensures.0);
      standing = sym c.end_down.ensures ∙ c.if-end_down.false;
      waiting = omega (arith, c.queue_count.ensures.0, c.if-queue_count-eq0.false);
      live = sym (at_receiver s c.args.b c.receiver_of.result c.receiver_of.ensures.0) ∙ sym c.is_replaying.ensures ∙ c.if-is_replaying.false;
    }

pub channel_count-requires : goal.channel_count-requires
channel_count-requires c = c.requires.holds.ready

pub end_down-requires : goal.end_down-requires
end_down-requires c = record { ready = c.requires.holds.ready; below = omega (arith, c.channel_count.ensures.0) }

pub queue_count-requires : goal.queue_count-requires
queue_count-requires c = record { holds = c.requires.holds; below = omega (arith, c.channel_count.ensures.0) }

pub receiver_of-requires : goal.receiver_of-requires
receiver_of-requires c = record { ready = c.requires.holds.ready; below = omega (arith, c.channel_count.ensures.0) }

pub is_replaying-requires : goal.is_replaying-requires
is_replaying-requires c = (c.requires.holds.ready, c.receiver_of.ensures.1)

pub returns-then-is_replaying : goal.returns-then-is_replaying
returns-then-is_replaying c = c.take_replaying.ensures

pub returns : goal.returns
returns c = c.take_up.ensures
