use Rattle.std.proofs.Common.{rules, Err}
use mathlib.Core.Path.{◌≡◌}
use Rattle.answers.specs.declared.Refusal.TheVariants.{PlanLength, PlanVersion, PlanCounts, PlanSize, PlanRule, PlanChannel}
use Rattle.plan.proofs.CheckLaws.{first_of, refusal_first, passed, refused, last_applies}
use Rattle.plan.proofs.plan_check.Goals as goal

pub returns-in_err-refused_if : goal.returns-in_err-refused_if
unfolding first_of
returns-in_err-refused_if c =
    let told : c.from_residual.result ≡ Err c.in_err-refused_if.field-0.0 = search rules in
    let e = refused PlanLength c.refused_if.ensures c.in_err-refused_if.was told in
    rw (refusal_first c.args.plan.now, ← c.bad_length.ensures, e.0) e.1

pub returns-in_err-refused_if-2 : goal.returns-in_err-refused_if-2
unfolding first_of
returns-in_err-refused_if-2 c =
    let told : c.from_residual-in_err-refused_if-2.result ≡ Err c.in_err-refused_if-2.field-0.0 = search rules in
    let e = refused PlanVersion c.refused_if-2.ensures c.in_err-refused_if-2.was told in
    rw (refusal_first c.args.plan.now, ← c.bad_length.ensures, passed PlanLength c.refused_if.ensures c.in_ok-refused_if.was, ← c.bad_version.ensures, e.0) e.1

pub returns-in_err-refused_if-3 : goal.returns-in_err-refused_if-3
unfolding first_of
returns-in_err-refused_if-3 c =
    let told : c.from_residual-in_err-refused_if-3.result ≡ Err c.in_err-refused_if-3.field-0.0 = search rules in
    let e = refused PlanCounts c.refused_if-3.ensures c.in_err-refused_if-3.was told in
    rw (refusal_first c.args.plan.now, ← c.bad_length.ensures, passed PlanLength c.refused_if.ensures c.in_ok-refused_if.was, ← c.bad_version.ensures, passed PlanVersion c.refused_if-2.ensures c.in_ok-refused_if-2.was, ← c.bad_counts.ensures, e.0) e.1

pub returns-in_err-refused_if-4 : goal.returns-in_err-refused_if-4
unfolding first_of
returns-in_err-refused_if-4 c =
    let told : c.from_residual-in_err-refused_if-4.result ≡ Err c.in_err-refused_if-4.field-0.0 = search rules in
    let e = refused PlanSize c.refused_if-4.ensures c.in_err-refused_if-4.was told in
    rw (refusal_first c.args.plan.now, ← c.bad_length.ensures, passed PlanLength c.refused_if.ensures c.in_ok-refused_if.was, ← c.bad_version.ensures, passed PlanVersion c.refused_if-2.ensures c.in_ok-refused_if-2.was, ← c.bad_counts.ensures, passed PlanCounts c.refused_if-3.ensures c.in_ok-refused_if-3.was, ← c.bad_size.ensures, e.0) e.1

pub returns-in_err-refused_if-5 : goal.returns-in_err-refused_if-5
unfolding first_of
returns-in_err-refused_if-5 c =
    let told : c.from_residual-in_err-refused_if-5.result ≡ Err c.in_err-refused_if-5.field-0.0 = search rules in
    let e = refused PlanRule c.refused_if-5.ensures c.in_err-refused_if-5.was told in
    rw (refusal_first c.args.plan.now, ← c.bad_length.ensures, passed PlanLength c.refused_if.ensures c.in_ok-refused_if.was, ← c.bad_version.ensures, passed PlanVersion c.refused_if-2.ensures c.in_ok-refused_if-2.was, ← c.bad_counts.ensures, passed PlanCounts c.refused_if-3.ensures c.in_ok-refused_if-3.was, ← c.bad_size.ensures, passed PlanSize c.refused_if-4.ensures c.in_ok-refused_if-4.was, ← c.bad_rules.ensures, e.0) e.1

pub returns-in_err-refused_if-6 : goal.returns-in_err-refused_if-6
unfolding first_of
returns-in_err-refused_if-6 c =
    let told : c.from_residual-in_err-refused_if-6.result ≡ Err c.in_err-refused_if-6.field-0.0 = search rules in
    let e = refused PlanChannel c.refused_if-6.ensures c.in_err-refused_if-6.was told in
    rw (refusal_first c.args.plan.now, ← c.bad_length.ensures, passed PlanLength c.refused_if.ensures c.in_ok-refused_if.was, ← c.bad_version.ensures, passed PlanVersion c.refused_if-2.ensures c.in_ok-refused_if-2.was, ← c.bad_counts.ensures, passed PlanCounts c.refused_if-3.ensures c.in_ok-refused_if-3.was, ← c.bad_size.ensures, passed PlanSize c.refused_if-4.ensures c.in_ok-refused_if-4.was, ← c.bad_rules.ensures, passed PlanRule c.refused_if-5.ensures c.in_ok-refused_if-5.was, ← c.bad_channels.ensures, e.0) e.1

pub returns : goal.returns
returns c = rw (refusal_first c.args.plan.now, ← c.bad_length.ensures, passed PlanLength c.refused_if.ensures c.in_ok-refused_if.was, ← c.bad_version.ensures, passed PlanVersion c.refused_if-2.ensures c.in_ok-refused_if-2.was, ← c.bad_counts.ensures, passed PlanCounts c.refused_if-3.ensures c.in_ok-refused_if-3.was, ← c.bad_size.ensures, passed PlanSize c.refused_if-4.ensures c.in_ok-refused_if-4.was, ← c.bad_rules.ensures, passed PlanRule c.refused_if-5.ensures c.in_ok-refused_if-5.was, ← c.bad_channels.ensures, passed PlanChannel c.refused_if-6.ensures c.in_ok-refused_if-6.was, ← c.bad_degrees.ensures, c.refused_if-7.ensures) (last_applies c.bad_degrees.result)
