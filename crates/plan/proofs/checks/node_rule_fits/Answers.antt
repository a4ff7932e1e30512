use mathlib.Core.List.{[]}
use Rattle.plan.proofs.ReadLaws.{rule_numbers-at}
use Rattle.plan.proofs.checks.node_rule_fits.Goals as goal

pub returns : goal.returns
returns c = rw (c.rule_fits.ensures, c.word_at.ensures, c.byte_at-2.ensures, c.byte_at.ensures, rule_numbers-at c.args.plan.now c.args.node [] c.requires.0)
