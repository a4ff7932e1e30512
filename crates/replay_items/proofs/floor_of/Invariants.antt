use Rattle.std.proofs.Common.{◌≡◌, ◌<◌, ℕ}
use Rattle.plan.specs.Lawful.{Each}
use Rattle.plan.specs.Mask.{listed}
use Rattle.plan.specs.Plan.{plan_channels}
use Rattle.rules.specs.Replay.{floor_of}
use Rattle.state.specs.State.{line_of}
use Rattle.replay_items.proofs.ItemLaws.{floor_with}
use Rattle.replay_items.proofs.floor_of.Given as goal

abbrev pub invariant-loop-b : goal.invariant-loop-b
invariant-loop-b l =
    (goal.iterator-loop-b).can_next l.b-iterator × (goal.iterator-loop-b).is_finite l.b-iterator
    × Each (λ (b : ℕ). b < plan_channels l.s) (listed l.b-iterator)
    × (floor_with l.s l.floor (listed l.b-iterator) ≡ floor_of (line_of l.s) l.e.node l.fn.r)
