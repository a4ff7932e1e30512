use mathlib.Core.Path.{ap, ◌∙◌}
use mathlib.Core.Bool.{not}
use Rattle.plan.specs.declared.Record.{Record}
use Rattle.plan.specs.Plan.{plan_of, is_none}
use Rattle.plan.specs.Mask.{listed, takes_at, among}
use Rattle.plan.proofs.BytesLaws.{bytes_known}
use Rattle.node_check.proofs.PieceBytes.{record_spelled}
use Rattle.node_check.proofs.passed_on.Goals as goal

pub returns : goal.returns
returns c =
    let a = c.args in
    let s = a.s.now in
    let what = c.record_of-what.ensures ∙ record_spelled a.at s c.get64.result (bytes_known s (λ i. (c.type_inv.s i).fits)) c.requires c.get64.ensures in
    c.some_takes.ensures ∙ ap (λ (r : Record). not (is_none (among (takes_at (plan_of s) r) (listed a.channels)))) what
