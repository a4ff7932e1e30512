use Prim.Native.Nat.{◌≤◌}
use mathlib.Core.Path.{◌≡◌}
use Rattle.plan.specs.Plan.{plan_channels}
use Rattle.state.specs.State.{line_of}
use Rattle.restart.proofs.BesideLaws.{beside_to}
use Rattle.restart.proofs.beside_crashed.Given as goal

abbrev pub invariant-loop-b : goal.invariant-loop-b
invariant-loop-b l = (l.b ≤ plan_channels l.s) × (l.found ≡ beside_to (line_of l.s) l.n l.b)
