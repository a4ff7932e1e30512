use Prim.Native.Nat.{◌≤◌, ◌<◌}
use mathlib.Core.Path.{ap, ◌∙◌}
use mathlib.Core.Bool.{not}
use native.Mathlib.Omega.{arith}
use lib.ListN.{length, drop}
use Rattle.plan.specs.Rule.{rule_fields}
use Rattle.plan.specs.Plan.{plan_nodes}
use Rattle.plan.specs.Check.{bad_rules}
use Rattle.plan.proofs.LayoutLaws.{length-read_slots}
use Rattle.plan.proofs.LoopLaws.{rule_slots, rules_more, rules_end}
use Rattle.plan.proofs.checks.bad_rules.Goals as goal

pub loop-i-preserved : goal.loop-i-preserved
loop-i-preserved c =
    let s = c.args.plan.now in
    let t = c.loop-i in
    let l : t.i < length (rule_slots s) = rw (length-read_slots rule_fields (plan_nodes s) (drop 5 s)) (omega (arith, c.node_count-i-end.ensures.0)) in
    rw c.node_rule_fits-ok.ensures (t.invariant ∙ rules_more t.ok (rule_slots s) t.i l)

pub returns : goal.returns
unfolding bad_rules
returns c =
    let s = c.args.plan.now in
    let t = c.loop-i in
    let l : length (rule_slots s) ≤ t.i = rw (length-read_slots rule_fields (plan_nodes s) (drop 5 s)) (omega (arith, c.node_count-i-end.ensures.0)) in
    ap not (rules_end t.ok (rule_slots s) t.i l t.invariant)
