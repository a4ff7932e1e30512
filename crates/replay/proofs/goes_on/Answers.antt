use mathlib.Core.Path.{ap, ◌∙◌}
use mathlib.Core.Bool.{not}
use Rattle.replay.proofs.RecordLaws.{enters_none, ones_none, set_some}
use Rattle.replay.proofs.goes_on.Goals as goal

pub leaving_from-first-requires : goal.leaving_from-first-requires
leaving_from-first-requires c = (c.requires.on.holds.ready, enters_none c.requires)

pub returns : goal.returns
returns c = ap not (ones_none c.set_for-set.result) ∙ set_some c.args.s.now c.args.n c.args.what c.set_for-set.result c.set_for-set.ensures
