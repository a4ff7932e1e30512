use Rattle.report.proofs.WroteLaws.{writes_then}
use Rattle.report.proofs.text.Text.two_numbers.Goals as goal

pub returns : goal.returns
returns c = writes_then c.byte_and_number.ensures c.byte_and_number-2.ensures
