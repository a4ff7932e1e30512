-- A plan's channels counted at their ends.
use Rattle.std.specs.Prelude.{ℕ, ◌≡◌, false, List, length, get_or}
use Rattle.plan.specs.declared.checks.Degree.{Degree}
use Rattle.plan.specs.Plan.{Plan, entering, leaving}
use Rattle.plan.specs.Check.{bad_counts, bad_size, bad_channels}

-- Bytes whose channels are all there and join nodes of the plan: the checks 3, 4 and 6 pass them.
pub record Joined (s : List ℕ) : Type 0 where
  pub counts : bad_counts s ≡ false
  pub size : bad_size s ≡ false
  pub channels : bad_channels s ≡ false

-- How many channels enter each node and how many leave it; there are at most 12 nodes.
abbrev pub no_degree : Degree
no_degree = record { enter = 0; leave = 0 }

pub record Degrees (p : Plan) (ds : List Degree) : Type 0 where
  pub long : length ds ≡ 12
  pub enters : (n : ℕ) → (get_or ds n no_degree).enter ≡ length (entering p n)
  pub leaves : (n : ℕ) → (get_or ds n no_degree).leave ≡ length (leaving p n)
