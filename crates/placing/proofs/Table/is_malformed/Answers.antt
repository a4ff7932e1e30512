use mathlib.Core.Path.{sym, ◌∙◌, ap}
use mathlib.Core.Bool.{true, false, not}
use Rattle.placing.specs.Table.{lengths_agree}
use Rattle.basics.specs.Bools.{both_true}
use Rattle.placing.proofs.ItemsLaws.{malformed_by, lengths_are}
use Rattle.placing.proofs.Table.is_malformed.Goals as goal

pub returns-then-not-agree-bounds : goal.returns-then-not-agree-bounds
unfolding lengths_agree
returns-then-not-agree-bounds c =
    let t = c.args.self.now in
    sym (malformed_by t.low t.high t.rows.now t.times.now t.fixed.now t.floors.now false c.if-not-agree-bounds.true)

pub items_fit-requires : goal.items_fit-requires
unfolding lengths_agree
items_fit-requires c =
    let t = c.args.self.now in
    lengths_are t.rows.now t.times.now t.fixed.now t.floors.now (both_true (lengths_agree t.rows.now t.times.now t.fixed.now t.floors.now) _ c.if-not-agree-bounds.false).0

pub returns : goal.returns
unfolding lengths_agree
returns c =
    let t = c.args.self.now in
    ap not c.items_fit.ensures ∙ sym (malformed_by t.low t.high t.rows.now t.times.now t.fixed.now t.floors.now true c.if-not-agree-bounds.false)
