-- What a stored plan that fits says of the line in the bytes: how many nodes and channels it has, and how many are heard on a channel, and one more in the low clock.
use Prim.Native.Nat.{ℕ, suc, ◌≤◌, ◌<◌}
use mathlib.Core.Path.{◌≡◌, ap, ◌∙◌}
use mathlib.Core.Bool.{true}
use mathlib.Core.List.{List}
use native.Mathlib.Omega.{arith}
use lib.ListN.{length, length-take}
use Rattle.plan.specs.Plan.{plan_of, plan_channels, channel_at}
use Rattle.plan.specs.Check.{plan_fits}
use Rattle.plan.proofs.PlanLaws.{node_count_lem, channel_count_lem}
use Rattle.plan.proofs.FitsLaws.{fitting}
use Rattle.rules.specs.Line.{Lane, lane_at}
use Rattle.state.specs.Sizes.{parent_limit}
use Rattle.state.specs.Lane.{lane_layout, cut_lane, heard_count}
use Rattle.state.specs.State.{line_of}
use Rattle.state.proofs.HeardLaws.{heard_few}
use Rattle.state.proofs.FieldLaws.{heard_four, low_five}
use Rattle.state.proofs.InPlace.{Counted, block_of, lane_in}

module _ (s : List ℕ) (fits : plan_fits (plan_of s) ≡ true) where
  pub fits_counted : Counted s
  fits_counted = let p = fitting (plan_of s) fits in record { nodes = rw node_count_lem at p.nodes_most; channels = rw channel_count_lem at p.channels_most }

  pub few_heard : (b : ℕ) → b < plan_channels s → heard_count (plan_of s) (channel_at (plan_of s) b) ≤ parent_limit
  few_heard b h = heard_few (plan_of s) fits b (rw channel_count_lem h)

  pub heard_long : (b : ℕ) → b < plan_channels s → length (lane_at (line_of s) b).heard ≡ heard_count (plan_of s) (channel_at (plan_of s) b)
  unfolding cut_lane
  heard_long b h =
      let count : ℕ = heard_count (plan_of s) (channel_at (plan_of s) b) in
      ap (λ (x : Lane). length x.heard) (lane_in s fits_counted b h)
      ∙ length-take count (lane_layout.read (block_of b s)).heard
      ∙ omega (arith, heard_four (block_of b s), few_heard b h)

  pub low_long : (b : ℕ) → b < plan_channels s → length (lane_at (line_of s) b).low ≡ suc (heard_count (plan_of s) (channel_at (plan_of s) b))
  unfolding cut_lane
  low_long b h =
      let count : ℕ = heard_count (plan_of s) (channel_at (plan_of s) b) in
      ap (λ (x : Lane). length x.low) (lane_in s fits_counted b h)
      ∙ length-take (suc count) (lane_layout.read (block_of b s)).low
      ∙ omega (arith, low_five (block_of b s), few_heard b h)
