use native.Mathlib.Omega.{arith}
use Rattle.plan.proofs.DegreeLaws.{counting_start, counting_end, channel_there, ends_ready, counting_more}
use Rattle.plan.proofs.checks.degrees.Goals as goal

pub loop-b-init : goal.loop-b-init
loop-b-init c = counting_start c.args.plan.now

pub bounds-plan-at : goal.bounds-plan-at
bounds-plan-at c =
    let s = c.args.plan.now in
    let v = c.loop-b in
    let at = c.channel_from-at in
    omega (arith, channel_there s c.requires v.degrees v.b at.result v.invariant (omega (arith, c.channel_count-b-end.ensures.0)) at.ensures.0)

pub bounds-plan-at-in-loop-b : goal.bounds-plan-at-in-loop-b
bounds-plan-at-in-loop-b c =
    let s = c.args.plan.now in
    let v = c.loop-b in
    let at = c.channel_from-at in
    omega (arith, channel_there s c.requires v.degrees v.b at.result v.invariant (omega (arith, c.channel_count-b-end.ensures.0)) at.ensures.0)

pub bounds-degrees-sender : goal.bounds-degrees-sender
bounds-degrees-sender c =
    let s = c.args.plan.now in
    let v = c.loop-b in
    let at = c.channel_from-at in
    omega (arith, ends_ready s c.requires v.degrees v.b at.result v.invariant (omega (arith, c.channel_count-b-end.ensures.0)) at.ensures.0 c.from-sender.result c.from-receiver.result c.from-sender.ensures c.from-receiver.ensures)

pub overflow_add-degrees : goal.overflow_add-degrees
overflow_add-degrees c =
    let s = c.args.plan.now in
    let v = c.loop-b in
    let at = c.channel_from-at in
    omega (arith, ends_ready s c.requires v.degrees v.b at.result v.invariant (omega (arith, c.channel_count-b-end.ensures.0)) at.ensures.0 c.from-sender.result c.from-receiver.result c.from-sender.ensures c.from-receiver.ensures)

pub bounds-degrees-sender-in-loop-b : goal.bounds-degrees-sender-in-loop-b
bounds-degrees-sender-in-loop-b c =
    let s = c.args.plan.now in
    let v = c.loop-b in
    let at = c.channel_from-at in
    omega (arith, ends_ready s c.requires v.degrees v.b at.result v.invariant (omega (arith, c.channel_count-b-end.ensures.0)) at.ensures.0 c.from-sender.result c.from-receiver.result c.from-sender.ensures c.from-receiver.ensures)

pub bounds-degrees-receiver : goal.bounds-degrees-receiver
bounds-degrees-receiver c =
    let s = c.args.plan.now in
    let v = c.loop-b in
    let at = c.channel_from-at in
    omega (arith, ends_ready s c.requires v.degrees v.b at.result v.invariant (omega (arith, c.channel_count-b-end.ensures.0)) at.ensures.0 c.from-sender.result c.from-receiver.result c.from-sender.ensures c.from-receiver.ensures)

pub overflow_add-degrees-in-loop-b : goal.overflow_add-degrees-in-loop-b
overflow_add-degrees-in-loop-b c =
    let s = c.args.plan.now in
    let v = c.loop-b in
    let at = c.channel_from-at in
    omega (arith, ends_ready s c.requires v.degrees v.b at.result v.invariant (omega (arith, c.channel_count-b-end.ensures.0)) at.ensures.0 c.from-sender.result c.from-receiver.result c.from-sender.ensures c.from-receiver.ensures)

pub bounds-degrees-receiver-in-loop-b : goal.bounds-degrees-receiver-in-loop-b
bounds-degrees-receiver-in-loop-b c =
    let s = c.args.plan.now in
    let v = c.loop-b in
    let at = c.channel_from-at in
    omega (arith, ends_ready s c.requires v.degrees v.b at.result v.invariant (omega (arith, c.channel_count-b-end.ensures.0)) at.ensures.0 c.from-sender.result c.from-receiver.result c.from-sender.ensures c.from-receiver.ensures)

pub loop-b-preserved : goal.loop-b-preserved
loop-b-preserved c =
    let s = c.args.plan.now in
    let v = c.loop-b in
    let at = c.channel_from-at in
    counting_more s c.requires v.degrees v.b at.result v.invariant (omega (arith, c.channel_count-b-end.ensures.0)) at.ensures.0 c.from-sender.result c.from-receiver.result c.from-sender.ensures c.from-receiver.ensures

pub returns : goal.returns
returns c = counting_end c.args.plan.now c.loop-b.degrees c.loop-b.b c.loop-b.invariant (omega (arith, c.channel_count-b-end.ensures.0))
