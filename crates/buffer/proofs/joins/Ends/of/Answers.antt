use Prim.Native.Nat.{◌<◌}
use native.Mathlib.Numerals.{add-one}
use native.Mathlib.Omega.{arith}
use Rattle.plan.specs.Plan.{plan_channels}
use Rattle.buffer.proofs.JoinLaws.{filled_start, turn_fits, filled_turn, filled_end}
use Rattle.buffer.proofs.joins.Ends.of.Goals as goal

pub loop-b-init : goal.loop-b-init
loop-b-init c = filled_start c.args.s.now c.requires c.channel_from-at.result c.channel_from-at.ensures.0

pub enter-requires : goal.enter-requires
enter-requires c =
    let v = c.loop-b in
    let s = c.args.s.now in
    let here : v.b < plan_channels s = omega (arith, c.channel_count-b-end.ensures.0) in
    turn_fits s c.requires v.ends.codes v.ends.counts v.at v.b v.invariant c.from.result c.from-in-loop-b.result here c.from.ensures c.from-in-loop-b.ensures

pub loop-b-preserved : goal.loop-b-preserved
loop-b-preserved c =
    let v = c.loop-b in
    let s = c.args.s.now in
    let here : v.b < plan_channels s = omega (arith, c.channel_count-b-end.ensures.0) in
    rw (c.enter.ensures.0, c.enter.ensures.1, add-one v.b)
    (filled_turn s c.requires v.ends.codes v.ends.counts v.at v.b v.invariant c.from.result c.from-in-loop-b.result here c.from.ensures c.from-in-loop-b.ensures c.channel_size-size.result c.channel_size-size.ensures.0)

pub returns : goal.returns
returns c =
    let v = c.loop-b in
    filled_end c.args.s.now c.requires v.ends.codes v.ends.counts v.at v.b v.invariant (omega (arith, c.channel_count-b-end.ensures.0))
