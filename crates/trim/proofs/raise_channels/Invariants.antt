use Rattle.plan.specs.Mask.{listed}
use Rattle.trim.proofs.RaiseLaws.{RaisedLeft}
use Rattle.trim.proofs.raise_channels.Given as goal

abbrev pub invariant-loop-b : goal.invariant-loop-b
invariant-loop-b l =
    (goal.iterator-loop-b).can_next l.b-iterator × (goal.iterator-loop-b).is_finite l.b-iterator × RaisedLeft l.initial.s l.n l.count (listed l.b-iterator) l.s
