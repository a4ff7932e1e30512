-- A state that holds a line: its nodes and channels, and a lane changed.
use Prim.Native.Nat.{ℕ, ◌<◌}
use mathlib.Core.Path.{subst}
use mathlib.Core.List.{List}
use native.Mathlib.Omega.{arith}
use Rattle.plan.specs.Plan.{node_count, channel_count}
use Rattle.rules.specs.Line.{Lane, Line, lane_at, with_lane}
use Rattle.buffer.specs.Holds.{Holds, AtNode, AtLane, LaneNow}
use Rattle.buffer.proofs.HoldsLaws.{holds-again, holds-nodes, holds_channels}

module _ {s : List ℕ} {l : Line} (h : Holds s l) where
  pub at-node : (n : ℕ) → n < node_count l.plan → AtNode s n
  at-node n i = record { holds = holds-again h; inside = omega (arith, holds-nodes h) }

  pub at-lane : (b : ℕ) → b < channel_count l.plan → AtLane s b
  at-lane b i = record { holds = holds-again h; below = omega (arith, holds_channels h) }

  pub lane_more : (b : ℕ) (f : Lane → Lane) (t : List ℕ) → LaneNow s b f t → Holds t (with_lane b (f (lane_at l b)) l)
  lane_more b f t now = subst (λ (k : Line). Holds t (with_lane b (f (lane_at k b)) k)) h.same now.holds
