use Prim.Native.Nat.{◌<◌}
use mathlib.Core.Path.{subst}
use native.Mathlib.Omega.{arith}
use Rattle.plan.specs.Plan.{Plan, channel_count}
use Rattle.state.specs.State.{line_of}
use Rattle.buffer.specs.Holds.{LaneNow}
use Rattle.restart.specs.Lanes.{crashed_on}
use Rattle.buffer.proofs.ReadyLaws.{line_channels}
use Rattle.restart.proofs.SweepLaws.{swept_start, swept_on, swept_plan_in, swept_turn, swept_end}
use Rattle.restart.proofs.crash_channels.Goals as goal

pub loop-b-init : goal.loop-b-init
loop-b-init c = swept_start (crashed_on (line_of c.args.s.now).plan c.args.n) (line_of c.args.s.now) c.args.s.now c.requires

pub crash_channel-requires : goal.crash_channel-requires
crash_channel-requires c =
    let t = c.loop-b in
    let a = c.args in
    let s = a.s.now in
    swept_on (crashed_on (line_of s).plan a.n) (line_of s) t.s t.b (omega (arith, c.channel_count-b-end.ensures.0, line_channels s)) t.invariant

pub loop-b-preserved : goal.loop-b-preserved
loop-b-preserved c =
    let t = c.loop-b in
    let a = c.args in
    let s = a.s.now in
    let u = c.crash_channel.new.s in
    let f = crashed_on (line_of s).plan a.n in
    let h : t.b < channel_count (line_of s).plan = omega (arith, c.channel_count-b-end.ensures.0, line_channels s) in
    swept_turn f (line_of s) t.s t.b u h t.invariant (subst (λ (p : Plan). LaneNow t.s t.b (crashed_on p a.n t.b) u) (swept_plan_in f (line_of s) t.s t.b t.invariant) c.crash_channel.ensures)

pub returns : goal.returns
returns c =
    let t = c.loop-b in
    let a = c.args in
    let s = a.s.now in
    swept_end (crashed_on (line_of s).plan a.n) (line_of s) t.s t.b (omega (arith, c.channel_count-b-end.ensures.0, line_channels s)) t.invariant

pub channel_count-b-end-requires : goal.channel_count-b-end-requires
channel_count-b-end-requires c = c.requires.ready
