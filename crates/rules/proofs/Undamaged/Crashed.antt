-- The line that Crash leaves: node n, its channels, and all else as it was.
use Prim.Native.Nat.{ℕ, ◌<◌}
use mathlib.Core.Path.{◌≡◌, ◌∙◌}
use mathlib.Core.Logic.{◌≢◌}
use mathlib.Core.Bool.{true}
use mathlib.Core.Option.{none}
use mathlib.Core.List.{[]}
use Rattle.plan.specs.Plan.{channel_at, node_count}
use Rattle.rules.specs.Line.{down, Node, Lane, Line, node_at, lane_at, with_node, fresh_lane}
use Rattle.rules.specs.Step.{crashed_line}
use Rattle.rules.proofs.Line.LineLaws.{node_there, node_else, nodes_long}
use Rattle.rules.proofs.Invariant.Stays.{moved}
use Rattle.rules.proofs.Invariant.Swept.{swept_line, swept_long, swept_enters, swept_leaves, swept_else}
use Rattle.rules.proofs.Invariant.Inv.{Shape, Ordered, Enters, Leaves}

abbrev pub emptied : Node
emptied = record { status = down; crashed = true; time = 0; log = []; held = []; targets = []; asked = none }

-- A channel that leaves the node: its mark and queue are gone, the child's entries stay.
abbrev pub cleared : Lane → Lane
cleared x = record { mark = 0; taken = x.taken; heard = x.heard; queue = []; low = x.low }

module _ (l : Line) (n : ℕ) where
  abbrev left : ℕ → Lane → Lane
  left c x = cleared x

  abbrev entered : ℕ → Lane → Lane
  entered c x = fresh_lane l.plan (channel_at l.plan c) 0

  abbrev pub crashed_after : Line
  crashed_after = moved l l.steps (with_node n emptied l).nodes (crashed_line n l).lanes

module _ (l : Line) (n : ℕ) (ordered : Ordered l.plan) (shape : Shape l) where
  pub crashed_is : crashed_line n l ≡ crashed_after l n
  unfolding with_node crashed_line
  crashed_is = swept_line (entered l n) (left l n) (with_node n emptied l) n ordered shape.lanes_long

  pub crashed_node : n < node_count l.plan → node_at (crashed_after l n) n ≡ emptied
  unfolding with_node
  crashed_node inside = node_there n emptied l (rw shape.nodes_long inside)

  pub crashed_else : (m : ℕ) → m ≢ n → node_at (crashed_after l n) m ≡ node_at l m
  unfolding with_node
  crashed_else m d = node_else n emptied l m d

  pub crashed_shape : Shape (crashed_after l n)
  unfolding with_node crashed_line
  crashed_shape = record {
    nodes_long = nodes_long n emptied l ∙ shape.nodes_long;
    lanes_long = swept_long (entered l n) (left l n) (with_node n emptied l) n ordered shape.lanes_long ∙ shape.lanes_long;
  }

  pub crashed_enters : (c : ℕ) → Enters l.plan n c → lane_at (crashed_after l n) c ≡ fresh_lane l.plan (channel_at l.plan c) 0
  unfolding with_node crashed_line
  crashed_enters = swept_enters (entered l n) (left l n) (with_node n emptied l) n ordered shape.lanes_long

  pub crashed_leaves : (c : ℕ) → Leaves l.plan n c → lane_at (crashed_after l n) c ≡ cleared (lane_at l c)
  unfolding with_node crashed_line
  crashed_leaves = swept_leaves (entered l n) (left l n) (with_node n emptied l) n ordered shape.lanes_long

  pub crashed_beside : (c : ℕ) → (channel_at l.plan c).receiver ≢ n → (channel_at l.plan c).sender ≢ n → lane_at (crashed_after l n) c ≡ lane_at l c
  unfolding with_node crashed_line
  crashed_beside = swept_else (entered l n) (left l n) (with_node n emptied l) n ordered shape.lanes_long
