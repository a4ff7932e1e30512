use mathlib.Core.Path.{◌≡◌}
use mathlib.Core.Bool.{◌&&◌}
use lib.ListN.{drop}
use Rattle.plan.specs.Check.{rules_fit}
use Rattle.plan.proofs.LoopLaws.{rule_slots}
use Rattle.plan.proofs.checks.bad_rules.Given as goal

abbrev pub invariant-loop-i : goal.invariant-loop-i
invariant-loop-i l = rules_fit (rule_slots l.plan) ≡ (l.ok && rules_fit (drop l.i (rule_slots l.plan)))
