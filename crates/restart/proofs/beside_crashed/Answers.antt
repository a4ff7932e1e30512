use Prim.Native.Nat.{◌<◌}
use mathlib.Core.Path.{refl, sym, ap₂, ◌∙◌}
use mathlib.Core.Bool.{◌||◌}
use native.Mathlib.Omega.{arith}
use Rattle.plan.specs.Plan.{channel_count}
use Rattle.state.specs.State.{line_of}
use Rattle.buffer.proofs.ReadyLaws.{line_channels}
use Rattle.restart.proofs.BesideLaws.{beside_turn, beside-whole}
use Rattle.restart.proofs.beside_crashed.Goals as goal

pub loop-b-init : goal.loop-b-init
loop-b-init c = (omega arith, refl)

pub beside_on-found-requires : goal.beside_on-found-requires
beside_on-found-requires c = record { ready = c.requires; below = omega (arith, c.channel_count-b-end.ensures.0) }

pub loop-b-preserved : goal.loop-b-preserved
loop-b-preserved c =
    let t = c.loop-b in
    let a = c.args in
    let s = a.s.now in
    let h : t.b < channel_count (line_of s).plan = omega (arith, c.channel_count-b-end.ensures.0, line_channels s) in
    (omega (arith, line_channels s), ap₂ ◌||◌ t.invariant.1 c.beside_on-found.ensures ∙ sym (beside_turn (line_of s) a.n t.b h))

pub returns : goal.returns
returns c =
    let t = c.loop-b in
    let a = c.args in
    t.invariant.1 ∙ beside-whole (line_of a.s.now) a.n t.b (omega (arith, c.channel_count-b-end.ensures.0, line_channels a.s.now))

pub channel_count-b-end-requires : goal.channel_count-b-end-requires
channel_count-b-end-requires c = c.requires
