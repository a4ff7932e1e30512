use mathlib.Core.Path.{◌≡◌, sym, ◌∙◌}
use native.Mathlib.Omega.{arith}
use Rattle.plan.specs.Channel.{channel_size}
use Rattle.plan.specs.Plan.{plan_version}
use Rattle.plan.proofs.ReadLaws.{channel_size_lem}
use Rattle.buffer.proofs.look.channel_from.Goals as goal

pub returns-then-has_windows : goal.returns-then-has_windows
returns-then-has_windows c =
    let nodes = c.node_count in
    let size : channel_size (plan_version c.args.s.now) ≡ 10 = rw (channel_size_lem, sym c.has_windows.ensures ∙ c.if-has_windows.true) in
    (rw (nodes.ensures.0, size), omega (arith, nodes.ensures.1, c.requires.below, c.requires.ready.channels))

pub returns-else-has_windows : goal.returns-else-has_windows
returns-else-has_windows c =
    let nodes = c.node_count in
    let size : channel_size (plan_version c.args.s.now) ≡ 6 = rw (channel_size_lem, sym c.has_windows.ensures ∙ c.if-has_windows.false) in
    (rw (nodes.ensures.0, size), omega (arith, nodes.ensures.1, c.requires.below, c.requires.ready.channels))

pub node_count-requires : goal.node_count-requires
node_count-requires c = c.requires.ready

pub overflow_mul-at : goal.overflow_mul-at
overflow_mul-at c = omega (arith, c.node_count.ensures.1)

pub overflow_add-at : goal.overflow_add-at
overflow_add-at c = omega (arith, c.node_count.ensures.1)

pub has_windows-requires : goal.has_windows-requires
has_windows-requires c = c.requires.ready

pub overflow_mul-result : goal.overflow_mul-result
overflow_mul-result c = let p = c.requires in omega (arith, p.below, p.ready.channels)

pub overflow_add-result : goal.overflow_add-result
overflow_add-result c = let p = c.requires in omega (arith, c.node_count.ensures.1, p.below, p.ready.channels)

pub overflow_mul-result-else-has_windows : goal.overflow_mul-result-else-has_windows
overflow_mul-result-else-has_windows c = let p = c.requires in omega (arith, p.below, p.ready.channels)

pub overflow_add-result-else-has_windows : goal.overflow_add-result-else-has_windows
overflow_add-result-else-has_windows c = let p = c.requires in omega (arith, c.node_count.ensures.1, p.below, p.ready.channels)
