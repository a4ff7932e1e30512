use mathlib.Core.Path.{refl}
use Rattle.node_check.proofs.follows.Goals as goal

pub returns : goal.returns
returns c = refl
