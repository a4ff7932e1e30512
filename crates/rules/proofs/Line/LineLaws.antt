-- Reading a line after one node or one channel has changed.
use Prim.Native.Nat.{ℕ, ◌<◌}
use mathlib.Core.Path.{◌≡◌, refl, ap}
use mathlib.Core.Logic.{◌≢◌}
use mathlib.Core.List.{List}
use lib.ListN.{length, length-set}
use lib.Seq.{get_or-set_same, get_or-set_other, set-get_or, set-set}
use Rattle.rules.specs.Line.{Node, Lane, Line, fresh_node, no_lane, node_at, lane_at, with_node, with_lane}

module _ (n : ℕ) (x : Node) (l : Line) where
  pub node_there : n < length l.nodes → node_at (with_node n x l) n ≡ x
  unfolding with_node
  node_there h = get_or-set_same l.nodes n x fresh_node h

  pub node_else : (m : ℕ) → m ≢ n → node_at (with_node n x l) m ≡ node_at l m
  unfolding with_node
  node_else m d = get_or-set_other l.nodes n m x fresh_node d

  pub plan_kept : (with_node n x l).plan ≡ l.plan
  unfolding with_node
  plan_kept = refl

  pub nodes_long : length (with_node n x l).nodes ≡ length l.nodes
  unfolding with_node
  nodes_long = length-set l.nodes n x

  -- Changed twice, it is as it was changed last.
  pub node_twice : (y : Node) → with_node n y (with_node n x l) ≡ with_node n y l
  unfolding with_node
  node_twice y = ap (λ (ns : List Node). record { plan = l.plan; steps = l.steps; nodes = ns; lanes = l.lanes }) (set-set l.nodes n x y)

-- A node written as it is.
pub node_same : (n : ℕ) (l : Line) → with_node n (node_at l n) l ≡ l
unfolding with_node
node_same n l = ap (λ (ns : List Node). record { plan = l.plan; steps = l.steps; nodes = ns; lanes = l.lanes }) (set-get_or l.nodes n fresh_node)

module _ (b : ℕ) (x : Lane) (l : Line) where
  pub lane_there : b < length l.lanes → lane_at (with_lane b x l) b ≡ x
  unfolding with_lane
  lane_there h = get_or-set_same l.lanes b x no_lane h

  pub lane_else : (c : ℕ) → c ≢ b → lane_at (with_lane b x l) c ≡ lane_at l c
  unfolding with_lane
  lane_else c d = get_or-set_other l.lanes b c x no_lane d

  pub node_kept : (n : ℕ) → node_at (with_lane b x l) n ≡ node_at l n
  unfolding with_lane
  node_kept n = refl

  pub plan_same : (with_lane b x l).plan ≡ l.plan
  unfolding with_lane
  plan_same = refl

  pub lanes_long : length (with_lane b x l).lanes ≡ length l.lanes
  unfolding with_lane
  lanes_long = length-set l.lanes b x
