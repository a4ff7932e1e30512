use Prim.Native.Nat.{◌<◌}
use mathlib.Core.Path.{subst}
use native.Mathlib.Omega.{arith}
use Rattle.plan.specs.Plan.{Plan, channel_count}
use Rattle.state.specs.State.{line_of}
use Rattle.buffer.specs.Holds.{LaneNow}
use Rattle.restart.specs.Lanes.{restored_on}
use Rattle.buffer.proofs.ReadyLaws.{line_channels}
use Rattle.restart.proofs.SweepLaws.{swept_start, swept_on, swept_plan_in, swept_turn, swept_end}
use Rattle.restart.proofs.restore_channels.Goals as goal

pub loop-b-init : goal.loop-b-init
loop-b-init c = swept_start (restored_on (line_of c.args.s.now).plan c.args.n c.args.entries.now) (line_of c.args.s.now) c.args.s.now c.requires.0

pub restore_channel-requires : goal.restore_channel-requires
restore_channel-requires c =
    let t = c.loop-b in
    let a = c.args in
    let s = a.s.now in
    (swept_on (restored_on (line_of s).plan a.n a.entries.now) (line_of s) t.s t.b (omega (arith, c.channel_count-b-end.ensures.0, line_channels s)) t.invariant, c.requires.1)

pub loop-b-preserved : goal.loop-b-preserved
loop-b-preserved c =
    let t = c.loop-b in
    let a = c.args in
    let s = a.s.now in
    let u = c.restore_channel.new.s in
    let f = restored_on (line_of s).plan a.n a.entries.now in
    let h : t.b < channel_count (line_of s).plan = omega (arith, c.channel_count-b-end.ensures.0, line_channels s) in
    swept_turn f (line_of s) t.s t.b u h t.invariant (subst (λ (p : Plan). LaneNow t.s t.b (restored_on p a.n a.entries.now t.b) u) (swept_plan_in f (line_of s) t.s t.b t.invariant) c.restore_channel.ensures)

pub returns : goal.returns
returns c =
    let t = c.loop-b in
    let a = c.args in
    let s = a.s.now in
    swept_end (restored_on (line_of s).plan a.n a.entries.now) (line_of s) t.s t.b (omega (arith, c.channel_count-b-end.ensures.0, line_channels s)) t.invariant

pub channel_count-b-end-requires : goal.channel_count-b-end-requires
channel_count-b-end-requires c = c.requires.0.ready
