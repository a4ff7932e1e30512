use Prim.Native.Nat.{ℕ, ◌≤◌}
use mathlib.Core.Path.{◌≡◌, sym, ap, ◌∙◌}
use mathlib.Core.Bool.{not}
use native.Mathlib.Omega.{arith}
use lib.ListN.{length}
use Rattle.std.proofs.Common.{length-take-le}
use Rattle.plan.specs.Plan.{plan_of, plan_nodes}
use Rattle.plan.specs.Check.{four_at_most, bad_degrees}
use Rattle.plan.proofs.DegreeLaws.{few_nodes}
use Rattle.plan.proofs.checks.bad_degrees.Goals as goal

pub slice_bounds-degrees-end : goal.slice_bounds-degrees-end
slice_bounds-degrees-end c = omega (arith, few_nodes c.args.plan.now c.requires, c.node_count.ensures.0, c.degrees-degrees.ensures.long)

pub slice_bounds-degree-items-end : goal.slice_bounds-degree-items-end
slice_bounds-degree-items-end c = sym (length-take-le c.node_count.result c.degrees-degrees.result (omega (arith, few_nodes c.args.plan.now c.requires, c.node_count.ensures.0, c.degrees-degrees.ensures.long)))

pub returns : goal.returns
unfolding bad_degrees
returns c =
    let nodes : c.node_count.result ≤ length c.degrees-degrees.result = omega (arith, few_nodes c.args.plan.now c.requires, c.node_count.ensures.0, c.degrees-degrees.ensures.long) in
    let all : c.loop-degree.degree-index ≡ plan_nodes c.args.plan.now = omega (arith, c.node_count.ensures.0, length-take-le c.node_count.result c.degrees-degrees.result nodes) in
    ap not (c.loop-degree.invariant ∙ ap (λ (n : ℕ). four_at_most (plan_of c.args.plan.now) n) all)
