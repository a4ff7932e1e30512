-- What is known of a state before its nodes and channels are looked at: its size, and that the plan in front is right.
use Rattle.std.specs.Prelude.{ℕ, ◌≤◌, ◌<◌, ◌≡◌, true, List, length}
use Rattle.plan.specs.Plan.{plan_of, plan_nodes, plan_channels}
use Rattle.plan.specs.Check.{plan_fits}
use Rattle.state.specs.Sizes.{state_size, node_pages, lane_blocks}

pub record Ready (s : List ℕ) : Type 0 where
  pub long : length s ≡ state_size
  pub fits : plan_fits (plan_of s) ≡ true
  pub nodes : plan_nodes s ≤ node_pages
  pub channels : plan_channels s ≤ lane_blocks

-- A channel of such a state.
pub record OnChannel (s : List ℕ) (b : ℕ) : Type 0 where
  pub ready : Ready s
  pub below : b < plan_channels s
