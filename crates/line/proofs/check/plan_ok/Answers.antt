use mathlib.Core.Path.{◌≡◌, sym, ◌∙◌}
use native.Mathlib.Omega.{arith}
use Rattle.answers.specs.Number.{number}
use Rattle.plan.specs.Check.{plan_refusal}
use Rattle.line.proofs.CheckLaws.{front, number_ok, number_err, plan_bad, plan-within, plan_good}
use Rattle.line.proofs.check.plan_ok.Goals.{Then-is_ok}
use Rattle.line.proofs.check.plan_ok.Goals as goal

accepted : (c : goal.Then-is_ok) → plan_refusal (front c.args.s.now c.size_by_head-size.result c.size_by_head-size.ensures.0) ≡ 0
accepted c = sym c.plan_check.ensures ∙ number_ok c.plan_check.result (sym c.is_ok.ensures.value ∙ c.if-is_ok.true)

pub all_zero-requires : goal.all_zero-requires
all_zero-requires c =
    (plan-within c.args.s.now c.size_by_head-size.result c.size_by_head-size.ensures.0 c.requires c.size_by_head-size.ensures.1 (accepted (goal.at.all_zero-requires c).Then-is_ok), omega (arith, c.requires))

pub returns-then-is_ok : goal.returns-then-is_ok
returns-then-is_ok c =
    c.all_zero.ensures ∙ plan_good c.args.s.now c.size_by_head-size.result c.size_by_head-size.ensures.0 (accepted (goal.at.returns-then-is_ok c).Then-is_ok)

pub returns-else-is_ok : goal.returns-else-is_ok
returns-else-is_ok c =
    c.if-is_ok.false ∙ plan_bad c.args.s.now c.size_by_head-size.result c.size_by_head-size.ensures.0 (number c.plan_check.result) c.plan_check.ensures (number_err c.plan_check.result (sym c.is_ok.ensures.value ∙ c.if-is_ok.false))
