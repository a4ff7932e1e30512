use native.Mathlib.Omega.{arith}
use Rattle.report.proofs.PartsLaws.{origin_fed, origin_made}
use Rattle.report.proofs.WroteLaws.{writes_most}
use Rattle.report.proofs.node.origin_words.Goals as goal

pub returns-in-None : goal.returns-in-None
returns-in-None c = rw (c.in-None.ensures, origin_fed) (writes_most 22 (omega arith) c.word.ensures)

pub returns-in-Some : goal.returns-in-Some
returns-in-Some c = rw (c.in-Some.ensures.0, origin_made) c.two_numbers.ensures
