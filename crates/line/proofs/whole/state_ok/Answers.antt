use mathlib.Core.Path.{sym, ◌∙◌}
use Rattle.plan.proofs.BytesLaws.{bytes_known}
use Rattle.line.proofs.CheckLaws.{plan_ready, plan_wrong, steps_wrong}
use Rattle.line.proofs.whole.state_ok.Goals as goal

pub returns-then-not-plan_ok : goal.returns-then-not-plan_ok
returns-then-not-plan_ok c = plan_wrong c.args.s.now (sym c.plan_ok.ensures ∙ c.if-not-plan_ok.true)

pub all_steps-requires : goal.all_steps-requires
all_steps-requires c =
    let s = c.args.s.now in
    plan_ready s c.requires (bytes_known s (λ i. (c.type_inv.s i).fits)) (sym c.plan_ok.ensures ∙ c.if-not-plan_ok.false)

pub parts_ok-requires : goal.parts_ok-requires
parts_ok-requires c =
    let s = c.args.s.now in
    let exact = sym c.plan_ok.ensures ∙ c.if-not-plan_ok.false in
    (plan_ready s c.requires (bytes_known s (λ i. (c.type_inv.s i).fits)) exact, exact, c.in-Some.ensures.0, c.in-Some.ensures.1)

pub returns-in-None : goal.returns-in-None
returns-in-None c = steps_wrong c.args.s.now (sym c.plan_ok.ensures ∙ c.if-not-plan_ok.false) c.in-None.ensures
