use mathlib.Core.Path.{◌≡◌}
use native.Mathlib.Omega.{arith}
use Rattle.plan.specs.Plan.{plan_channels}
use Rattle.trim.proofs.FloorLaws.{floors_found}
use Rattle.trim.proofs.floors_of.Goals as goal

pub returns : goal.returns
returns c =
    let s = c.args.joins.now.state.now in
    let t = c.loop-b in
    let all : t.b ≡ plan_channels s = omega (arith, c.channel_count-b-end.ensures.0) in
    floors_found s t.b t.floors all t.invariant
