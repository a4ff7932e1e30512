use mathlib.Core.Path.{ap}
use native.Mathlib.Omega.{arith}
use lib.ListN.{length}
use Rattle.plan.specs.Mask.{listed}
use Rattle.rules.specs.Line.{Node}
use Rattle.buffer.proofs.HoldsLaws.{onward-node}
use Rattle.buffer.proofs.JoinLaws.{ends_kept}
use Rattle.trim.proofs.RaiseLaws.{left_start, left_lane, left_turn, left_end}
use Rattle.trim.proofs.raise_channels.Goals as goal

pub loop-b-init : goal.loop-b-init
loop-b-init c =
    let a = c.args in
    let few = c.requires.0.holds.ready.channels in
    (tt, tt, rw c.into_iter-b-iterator.ensures.into_iter_gives (left_start a.s.now a.n a.count c.requires.0 (listed c.entering-b-items.result) (c.entering-b-items.ensures.few few)))

pub raise_channel-requires : goal.raise_channel-requires
raise_channel-requires c =
    let a = c.args in
    let t = c.loop-b in
    let left = t.invariant.2 in (
      left_lane a.s.now a.n a.count (listed t.b-iterator) (listed c.next.new.self) c.in-Some.b t.s left c.in-Some.ensures.steps,
      onward-node left.onward c.requires.0,
      ends_kept left.onward.plan c.requires.1,
      omega (arith, c.requires.2, ap (λ (y : Node). length y.log) left.node),
    )

pub loop-b-preserved : goal.loop-b-preserved
loop-b-preserved c =
    let a = c.args in
    let t = c.loop-b in (
      tt,
      tt,
      left_turn a.s.now a.n a.count (listed t.b-iterator) (listed c.next.new.self) c.in-Some.b t.s t.invariant.2 c.in-Some.ensures.steps c.raise_channel.new.s c.raise_channel.ensures,
    )

pub returns : goal.returns
returns c =
    let a = c.args in
    let t = c.loop-b in
    left_end a.s.now a.n a.count (listed t.b-iterator) c.in-None.ensures.steps.0 t.s t.invariant.2
