use mathlib.Core.Path.{sym, ◌∙◌}
use native.Mathlib.Omega.{arith}
use borrow.Author.Tests.{ne_eqb}
use Rattle.plan.proofs.ReadLaws.{version_byte}
use Rattle.plan.proofs.bytes.version.Goals as goal

pub returns-in-1 : goal.returns-in-1
returns-in-1 c = version_byte c.args.plan.now ∙ sym c.byte_at.ensures ∙ c.in-1.is

pub returns-in-2 : goal.returns-in-2
returns-in-2 c = version_byte c.args.plan.now ∙ sym c.byte_at.ensures ∙ c.in-2.is

pub returns-in_default : goal.returns-in_default
returns-in_default c = let e = version_byte c.args.plan.now ∙ sym c.byte_at.ensures in rw (e, ne_eqb c.byte_at.result 1 (omega arith), ne_eqb c.byte_at.result 2 (omega arith))
