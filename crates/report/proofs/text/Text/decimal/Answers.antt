use mathlib.Core.Path.{◌≡◌, sym, ◌∙◌}
use native.Mathlib.Omega.{arith}
use Rattle.rules.specs.Sheet.{decimal}
use Rattle.report.proofs.WroteLaws.{writes_most}
use Rattle.report.proofs.DecimalLaws.{decimal_same, decimal-most}
use Rattle.report.proofs.text.Text.decimal.Goals as goal

pub word-requires : goal.word-requires
word-requires c =
    let same : c.as_bytes.result.now ≡ decimal c.args.n = c.as_bytes.ensures.value ∙ c.format.ensures.text ∙ sym (decimal_same c.args.n (omega arith)) in
    rw same c.requires

pub returns : goal.returns
returns c =
    let same : c.as_bytes.result.now ≡ decimal c.args.n = c.as_bytes.ensures.value ∙ c.format.ensures.text ∙ sym (decimal_same c.args.n (omega arith)) in
    writes_most 20 (decimal-most c.args.n (omega arith)) (rw same at c.word.ensures)
