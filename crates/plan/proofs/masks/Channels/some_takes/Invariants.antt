use mathlib.Core.Path.{◌≡◌}
use Rattle.plan.specs.Plan.{plan_of}
use Rattle.plan.specs.Mask.{listed, among, takes_at}
use Rattle.plan.proofs.masks.Channels.some_takes.Given as goal

-- None so far takes it.
abbrev pub invariant-loop-b : goal.invariant-loop-b
invariant-loop-b l =
    let f = takes_at (plan_of l.plan) (record { piece = l.piece; material = l.material; mass = l.mass }) in
    (goal.iterator-loop-b).can_next l.b-iterator × (goal.iterator-loop-b).is_finite l.b-iterator × (among f (listed l.fn.self) ≡ among f (listed l.b-iterator))
