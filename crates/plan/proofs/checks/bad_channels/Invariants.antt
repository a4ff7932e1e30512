use mathlib.Core.Path.{◌≡◌}
use mathlib.Core.Bool.{◌&&◌}
use lib.ListN.{drop}
use Rattle.plan.specs.Plan.{plan_of}
use Rattle.plan.specs.Check.{channels_fit}
use Rattle.plan.proofs.checks.bad_channels.Given as goal

abbrev pub invariant-loop-b : goal.invariant-loop-b
invariant-loop-b l = channels_fit l.n 0 0 (plan_of l.plan).channels ≡ (l.ok && channels_fit l.n l.sender l.receiver (drop l.b (plan_of l.plan).channels))
