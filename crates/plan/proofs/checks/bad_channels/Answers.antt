use Prim.Native.Nat.{ℕ, ◌≤◌, ◌<◌}
use mathlib.Core.Path.{ap, ◌∙◌}
use mathlib.Core.Bool.{not}
use native.Mathlib.Omega.{arith}
use Rattle.plan.specs.Plan.{plan_of, channel_count}
use Rattle.plan.specs.Check.{channels_fit, bad_channels}
use Rattle.plan.proofs.PlanLaws.{channel_count_lem}
use Rattle.plan.proofs.LoopLaws.{channels_more, channels_end}
use Rattle.plan.proofs.checks.bad_channels.Goals as goal

pub loop-b-preserved : goal.loop-b-preserved
loop-b-preserved c =
    let s = c.args.plan.now in
    let t = c.loop-b in
    let l : t.b < channel_count (plan_of s) = omega (arith, channel_count_lem s, c.channel_count-b-end.ensures.0) in
    rw (c.channel_after.ensures, c.channel_fits.ensures, c.channel_at-c.ensures) (t.invariant ∙ channels_more t.ok c.node_count-n.result t.sender t.receiver (plan_of s).channels t.b l)

pub returns : goal.returns
unfolding bad_channels
returns c =
    let s = c.args.plan.now in
    let t = c.loop-b in
    let l : channel_count (plan_of s) ≤ t.b = omega (arith, channel_count_lem s, c.channel_count-b-end.ensures.0) in
    ap not (channels_end t.ok c.node_count-n.result t.sender t.receiver (plan_of s).channels t.b l t.invariant ∙ ap (λ (n : ℕ). channels_fit n 0 0 (plan_of s).channels) c.node_count-n.ensures.0)
