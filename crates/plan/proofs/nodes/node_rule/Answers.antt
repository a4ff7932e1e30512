use native.Mathlib.Omega.{arith}
use Rattle.plan.proofs.ReadLaws.{rule_past, rule_at_lem}
use Rattle.plan.proofs.nodes.node_rule.Goals as goal

pub returns-then-node_count-node : goal.returns-then-node_count-node
returns-then-node_count-node c = rw (rule_past c.args.plan.now c.args.node (omega (arith, c.node_count.ensures.0)))

pub returns : goal.returns
returns c = rw (c.rule_of.ensures, c.word_at.ensures, c.byte_at-2.ensures, c.byte_at.ensures, rule_at_lem c.args.plan.now c.args.node (omega (arith, c.node_count.ensures.0)))
