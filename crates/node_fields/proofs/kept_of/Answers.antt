use mathlib.Core.Path.{sym, ◌∙◌}
use Rattle.node_fields.proofs.FieldLaws.{kept_read}
use Rattle.node_fields.proofs.kept_of.Goals as goal

pub returns : goal.returns
returns c =
    kept_read c.args.s.now c.requires.0 c.args.n c.requires.1 (sym c.if-not-has_kept.false ∙ c.has_kept.ensures) _ _ _ _ _ _
    c.kept_number.ensures c.kept_number-2.ensures c.kept_number-3.ensures c.kept_number-4.ensures c.kept_number-5.ensures c.kept_number-6.ensures
