use Rattle.std.proofs.Common.{arith, ◌<◌}
use Rattle.plan.specs.Plan.{plan_channels}
use Rattle.recover.proofs.ToldLaws.{channels_turn, channels_rows, channels_end}
use Rattle.recover.proofs.told.find.Goals as goal

pub loop-b-preserved : goal.loop-b-preserved
loop-b-preserved c =
    let t = c.loop-b in
    let inside : t.b < plan_channels c.args.s.now = omega (arith, c.channel_count-b-end.ensures.0) in
    rw c.and-outcome.ensures (channels_turn c.args.s.now c.args.n t.b t.outcome t.found c.hear_channel.result c.hear_channel.new.self inside t.invariant c.hear_channel.ensures)

pub returns-clause-told : goal.returns-clause-told
returns-clause-told c =
    let t = c.loop-b in
    channels_end c.args.s.now c.args.n t.b t.found (omega (arith, c.channel_count-b-end.ensures.0)) t.outcome t.invariant

pub returns-clause-rows : goal.returns-clause-rows
returns-clause-rows c =
    let t = c.loop-b in
    channels_rows c.args.s.now c.args.n t.b t.found (omega (arith, c.channel_count-b-end.ensures.0)) t.outcome t.invariant
