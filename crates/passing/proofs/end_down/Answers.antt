use mathlib.Core.Path.{refl}
use Rattle.state.proofs.InPlace.{line-plan}
use Rattle.passing.proofs.end_down.Goals as goal

pub returns-then-is_down : goal.returns-then-is_down
returns-then-is_down c = rw (line-plan c.args.s.now, ← c.sender_of.ensures.0, ← c.is_down.ensures, c.if-is_down.true) refl

pub returns-else-is_down : goal.returns-else-is_down
returns-else-is_down c =
    rw (c.is_down-else-is_down.ensures, c.receiver_of.ensures.0, line-plan c.args.s.now, ← c.sender_of.ensures.0, ← c.is_down.ensures, c.if-is_down.false) refl
