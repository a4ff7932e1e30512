use mathlib.Core.Path.{ap, ◌∙◌}
use native.Mathlib.Omega.{arith}
use Rattle.plan.specs.Channel.{takes}
use Rattle.plan.proofs.BytesLaws.{bytes_known}
use Rattle.node_check.proofs.PieceBytes.{record_spelled}
use Rattle.node_check.proofs.SetLaws.{entry-bit}
use Rattle.node_check.proofs.sets.bit_ok.Goals as goal

pub returns : goal.returns
returns c =
    let a = c.args in
    let s = a.s.now in
    let what = c.record_of-what.ensures ∙ record_spelled a.at s c.get64.result (bytes_known s (λ i. (c.type_inv.s i).fits)) (omega arith) c.get64.ensures in
    entry-bit s a.at a.c a.k c.takes_fields-takes.result (c.takes_fields-takes.ensures ∙ ap (takes a.c) what)
