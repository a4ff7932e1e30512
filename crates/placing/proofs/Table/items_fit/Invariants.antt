use mathlib.Core.Path.{◌≡◌}
use mathlib.Core.Bool.{◌&&◌}
use lib.ListN.{drop}
use Rattle.placing.specs.Item.{items_of}
use Rattle.placing.specs.Table.{items_fit}
use Rattle.placing.proofs.Table.items_fit.Given as goal

abbrev pub invariant-loop-i : goal.invariant-loop-i
invariant-loop-i l =
    let t = l.self in
    items_fit t.low t.high 0 0 (items_of t.rows.now t.times.now t.fixed.now t.floors.now) ≡ (l.ok && items_fit t.low t.high l.before.0 l.before.1 (drop l.i (items_of t.rows.now t.times.now t.fixed.now t.floors.now)))
