use Prim.Native.Nat.{◌<◌}
use mathlib.Core.Path.{◌≡◌, sym, ◌∙◌}
use native.Mathlib.Numerals.{add-one}
use native.Mathlib.Omega.{arith}
use Rattle.plan.specs.Plan.{plan_of, channel_count, channel_at}
use Rattle.plan.specs.Channel.{takes}
use Rattle.plan.proofs.PlanLaws.{node_count_lem, channel_count_lem}
use Rattle.buffer.proofs.SetLaws.{taken_bit, found_start, found_more, found_all, found_last}
use Rattle.buffer.proofs.sets.set_for.Goals as goal

pub loop-b-init : goal.loop-b-init
loop-b-init c =
    let a = c.args in
    found_start (plan_of a.s.now) a.n c.requires.0.fits a.r a.first c.requires.2 (omega (arith, c.requires.1, node_count_lem a.s.now))

pub returns-then-sender_of-n : goal.returns-then-sender_of-n
returns-then-sender_of-n c =
    let a = c.args in
    let turn = c.loop-b in
    found_last (plan_of a.s.now) a.n c.requires.0.fits a.r a.first turn.b turn.set turn.bit turn.invariant c.requires.2
    (omega (arith, channel_count_lem a.s.now, c.channel_count-b-end.ensures.0)) (λ e. c.if-sender_of-n.true (c.sender_of.ensures.0 ∙ e))

pub loop-b-preserved : goal.loop-b-preserved
loop-b-preserved c =
    let a = c.args in
    let turn = c.loop-b in
    let here : turn.b < channel_count (plan_of a.s.now) = omega (arith, channel_count_lem a.s.now, c.channel_count-b-end.ensures.0) in
    let leaves : (channel_at (plan_of a.s.now) turn.b).sender ≡ a.n = sym c.sender_of.ensures.0 ∙ c.if-sender_of-n.false in
    rw (c.from.ensures, c.channel_takes-takes.ensures, c.channel_of.ensures, add-one turn.b, taken_bit (takes (channel_at (plan_of a.s.now) turn.b) a.r) turn.bit)
    (found_more (plan_of a.s.now) a.n c.requires.0.fits a.r a.first turn.b turn.set turn.bit turn.invariant here leaves)

pub returns : goal.returns
returns c =
    let a = c.args in
    let turn = c.loop-b in
    found_all (plan_of a.s.now) a.n c.requires.0.fits a.r a.first turn.b turn.set turn.bit turn.invariant (omega (arith, channel_count_lem a.s.now, c.channel_count-b-end.ensures.0))
