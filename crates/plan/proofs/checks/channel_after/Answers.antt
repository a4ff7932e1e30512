use mathlib.Core.Path.{◌≡◌, refl, ◌∙◌}
use mathlib.Core.Bool.{Bool, true, false, cond, ◌&&◌, ◌||◌}
use lib.Dec.{ltb, eqb}
use Rattle.std.specs.Ordering.{is_lt, is_some_and, partial_ordering_then}
use Rattle.std.proofs.Common.{Some, Less, Equal, Greater}
use Rattle.plan.specs.Channel.{channel_after}
use Rattle.plan.proofs.checks.channel_after.Goals as goal

-- Two pairs compared, by the tests of their parts.
pairs : (less same : Bool) (less_then same_then : Bool)
    → is_some_and is_lt (partial_ordering_then (Some (cond less Less (cond same Equal Greater))) (Some (cond less_then Less (cond same_then Equal Greater)))) ≡ (less || (same && less_then))
pairs true same less_then same_then = refl
pairs false true true same_then = refl
pairs false true false true = refl
pairs false true false false = refl
pairs false false less_then same_then = refl

pub returns : goal.returns
unfolding channel_after
returns c =
    let a = c.args in
    c.lt.ensures ∙ pairs (ltb a.sender a.c.sender) (eqb a.sender a.c.sender) (ltb a.receiver a.c.receiver) (eqb a.receiver a.c.receiver)
