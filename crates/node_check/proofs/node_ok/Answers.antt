use Prim.Native.Nat.{ℕ, ◌+◌, ◌*◌}
use mathlib.Core.Path.{◌≡◌, ap, ◌∙◌}
use native.Mathlib.Omega.{arith}
use Rattle.state.specs.Sizes.{page_at}
use Rattle.node_check.specs.NodeCheck.{PageOf, page_end_exact}
use Rattle.node_check.proofs.NodeLaws.{head_node, node_tested}
use Rattle.node_check.proofs.node_ok.Goals as goal

pub returns : goal.returns
returns c =
    let a = c.args in
    let s = a.joins.now.state.now in
    let at : ℕ = 4096 + 4096 * a.n in
    let same : at ≡ page_at a.n = omega arith in
    let page : PageOf s a.n at = record { ready = a.joins.now.ready; within = c.requires.0; start = same } in
    node_tested s a.n at page c.head_ok-head.result c.log_ok-log.result c.held_ok-held.result c.targets_ok-targets.result c.rest_ok-rest.result c.status_ok-status.result (c.head_ok-head.ensures ∙ head_node s a.n at page a.steps c.requires.1) c.log_ok-log.ensures c.held_ok-held.ensures c.targets_ok-targets.ensures
    (c.rest_ok-rest.ensures ∙ ap (λ (p : ℕ). page_end_exact p s) same)
    c.status_ok-status.ensures
