use native.Mathlib.Omega.{arith}
use Rattle.placing_items.proofs.FieldsLaws.{many_answer, many_left}
use Rattle.placing_items.proofs.place.Goals as goal

pub returns-then-n-gt-MOST_ITEMS-clause-number : goal.returns-then-n-gt-MOST_ITEMS-clause-number
returns-then-n-gt-MOST_ITEMS-clause-number c = many_answer _ _ _ _ (omega arith)

pub returns-then-n-gt-MOST_ITEMS-clause-left : goal.returns-then-n-gt-MOST_ITEMS-clause-left
returns-then-n-gt-MOST_ITEMS-clause-left c = many_left _ _ _ _ (omega arith)
