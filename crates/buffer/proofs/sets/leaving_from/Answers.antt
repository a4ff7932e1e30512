use mathlib.Core.Path.{◌≡◌}
use native.Mathlib.Numerals.{add-one}
use native.Mathlib.Omega.{arith}
use Rattle.plan.specs.Plan.{plan_of}
use Rattle.plan.proofs.PlanLaws.{channel_count_lem}
use Rattle.buffer.proofs.SetLaws.{leave_next, begin_here, begin_nowhere}
use Rattle.buffer.proofs.sets.leaving_from.Goals as goal

pub sender_of-requires : goal.sender_of-requires
sender_of-requires c = record { ready = c.requires.0; below = omega (arith, c.channel_count-m.ensures.0) }

pub returns-then-n-sender_of : goal.returns-then-n-sender_of
returns-then-n-sender_of c =
    let a = c.args in
    let turn = c.loop-b in
    begin_here (plan_of a.s.now) a.n turn.b turn.invariant.0 (omega (arith, c.sender_of.ensures.0, c.if-n-sender_of.true))

pub loop-b-preserved : goal.loop-b-preserved
loop-b-preserved c =
    let a = c.args in
    let turn = c.loop-b in
    (rw (add-one turn.b) (leave_next (plan_of a.s.now) a.n turn.b turn.invariant.0 (omega (arith, channel_count_lem a.s.now, c.channel_count-m.ensures.0)) (omega (arith, c.sender_of.ensures.0, c.if-n-sender_of.false))), omega (arith, c.channel_count-m.ensures.0))

pub returns : goal.returns
returns c =
    let a = c.args in
    let turn = c.loop-b in
    let is : c.max.result ≡ turn.b = omega (arith, c.max.ensures) in
    rw is (begin_nowhere (plan_of a.s.now) a.n turn.b turn.invariant.0 (omega (arith, channel_count_lem a.s.now, c.channel_count-m.ensures.0)))
