use mathlib.Core.Path.{◌≡◌, ap, ◌∙◌}
use Rattle.plan.specs.Mask.{listed, among, takes_at}
use Rattle.plan.specs.Plan.{plan_of, plan_channels, leaving}
use Rattle.plan.proofs.MaskLaws.{leaving_below, among_below}
use Rattle.replay_items.proofs.ItemLaws.{floor_start}
use Rattle.replay_items.proofs.floor_of.Goals as goal

pub loop-b-init : goal.loop-b-init
loop-b-init c =
    let s = c.args.s.now in
    let f = takes_at (plan_of s) c.args.r in
    let is : listed c.taking-taking.result ≡ among f (leaving (plan_of s) c.args.e.now.node) = c.taking-taking.ensures ∙ ap (among f) c.requires.1 in
    let iter : c.into_iter-b-iterator.result ≡ c.taking-taking.result = c.into_iter-b-iterator.ensures.into_iter_gives in
    let below = among_below (plan_channels s) f (leaving (plan_of s) c.args.e.now.node) (leaving_below s c.args.e.now.node) in
    let start = floor_start s c.args.e.now.node c.args.r (listed c.taking-taking.result) is in
    rw (iter, is) (tt, tt, below, rw is at start)
