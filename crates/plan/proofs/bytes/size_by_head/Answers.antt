use mathlib.Core.Path.{◌≡◌, sym, ◌∙◌}
use Rattle.plan.specs.Plan.{plan_version, plan_nodes, plan_channels, channel_from, size_by_head}
use Rattle.plan.proofs.PlanLaws.{plan_size_lem, head_size}
use Rattle.plan.proofs.bytes.size_by_head.Goals as goal

pub returns : goal.returns
returns c =
    let s = c.args.plan.now in
    let end : channel_from s (plan_channels s) ≡ size_by_head s = sym (head_size s ∙ plan_size_lem (plan_version s) (plan_nodes s) (plan_channels s)) in
    (rw (c.channel_from.ensures.0, c.channel_count.ensures.0, ← end), c.channel_from.ensures.1)

pub channel_from-requires : goal.channel_from-requires
channel_from-requires c = c.channel_count.ensures.1
