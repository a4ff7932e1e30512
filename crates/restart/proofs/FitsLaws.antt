-- What a line that fits the layout gives: its order, its shape, and its lanes with nothing on them.
use Prim.Native.Nat.{ℕ, ◌<◌}
use mathlib.Core.Path.{◌≡◌}
use mathlib.Core.List.{[]}
use lib.ListN.{length, replicate}
use Rattle.plan.specs.Plan.{channel_at, channel_count}
use Rattle.rules.specs.Line.{Line, lane_at, fresh_lane}
use Rattle.rules.proofs.Invariant.Inv.{Shape, Ordered}
use Rattle.rules.proofs.Undamaged.Undamaged.{ordered_fit}
use Rattle.state.specs.Fits.{LineFits}
use Rattle.state.specs.Lane.{heard_count}

module _ (l : Line) (fits : LineFits l) where
  pub ordered_of : Ordered l.plan
  ordered_of = ordered_fit l.plan fits.plan

  pub shape_of : Shape l
  shape_of = record { nodes_long = fits.nodes; lanes_long = fits.lanes }

  -- What is heard on a channel, and its low clock, all 0.
  pub lane_fresh : (c t : ℕ) → c < channel_count l.plan → record { mark = t; taken = t; heard = replicate (length (lane_at l c).heard) 0; queue = []; low = replicate (length (lane_at l c).low) 0 } ≡ fresh_lane l.plan (channel_at l.plan c) t
  unfolding fresh_lane heard_count
  lane_fresh c t h = λ j. record { mark = t; taken = t; heard = replicate (fits.heard c h j) 0; queue = []; low = replicate (fits.low c h j) 0 }
