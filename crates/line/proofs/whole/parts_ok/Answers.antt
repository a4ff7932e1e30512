use mathlib.Core.Path.{refl}
use Rattle.plan.specs.Plan.{plan_nodes, plan_channels}
use Rattle.line.proofs.CheckLaws.{found_wrong, found_restarts, found_pages}
use Rattle.line.proofs.whole.parts_ok.Goals as goal

pub returns-then-not-found : goal.returns-then-not-found
returns-then-not-found c =
    let s = c.args.s.now in
    let p = c.requires in
    found_wrong s (plan_nodes s) (plan_channels s) p.1 refl refl p.2 c.rest_ok-rest.ensures (rw c.of-joins.ensures at c.pages_ok-nodes.ensures) (rw c.of-joins.ensures at c.channels_ok-channels.ensures) c.if-not-found.true

pub restarts_ok-requires : goal.restarts_ok-requires
restarts_ok-requires c =
    let s = c.args.s.now in
    let p = c.requires in
    (p.0, found_pages s (plan_nodes s) (plan_channels s) p.1 refl refl p.2 c.rest_ok-rest.ensures (rw c.of-joins.ensures at c.pages_ok-nodes.ensures) (rw c.of-joins.ensures at c.channels_ok-channels.ensures) c.if-not-found.false)

pub returns : goal.returns
returns c =
    let s = c.args.s.now in
    let p = c.requires in
    found_restarts s (plan_nodes s) (plan_channels s) p.1 refl refl p.2 c.rest_ok-rest.ensures (rw c.of-joins.ensures at c.pages_ok-nodes.ensures) (rw c.of-joins.ensures at c.channels_ok-channels.ensures) c.if-not-found.false c.restarts_ok.ensures
