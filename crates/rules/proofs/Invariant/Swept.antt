-- One change to all channels that enter a node and another to all that leave it, as Crash and Recover make them.
use Prim.Native.Nat.{ℕ}
use mathlib.Core.Path.{◌≡◌, refl, ap, ◌∙◌}
use mathlib.Core.Logic.{◌≢◌}
use mathlib.Core.List.{List, [], ◌∷◌}
use native.Mathlib.Omega.{arith}
use lib.ListN.{length}
use Rattle.plan.specs.Plan.{channel_at, channel_count, entering, leaving}
use Rattle.rules.specs.Line.{Lane, Line, lane_at, with_lane, with_lanes}
use Rattle.rules.proofs.Line.LanesLaws.{lanes_in, lanes_away, lanes_count}
use Rattle.rules.proofs.Line.Joins.{in_entering, in_leaving, entering_rise, leaving_rise, away_entering, away_leaving}
use Rattle.rules.proofs.Invariant.Inv.{Ordered, Enters, Leaves}
use Rattle.rules.proofs.Invariant.Stays.{moved}

module _ (f : ℕ → Lane → Lane) where
  pub lanes_line : (bs : List ℕ) (l : Line) → with_lanes f bs l ≡ moved l l.steps l.nodes (with_lanes f bs l).lanes
  unfolding with_lane
  lanes_line [] l = refl
  lanes_line (b ∷ bs) l = lanes_line bs (with_lane b (f b (lane_at l b)) l)

module _ (entered left : ℕ → Lane → Lane) (l : Line) (n : ℕ) (ordered : Ordered l.plan) (long : length l.lanes ≡ channel_count l.plan) where
  abbrev pub inner : Line
  inner = with_lanes left (leaving l.plan n) l

  abbrev pub swept : Line
  swept = with_lanes entered (entering l.plan n) (with_lanes left (leaving l.plan n) l)

  pub swept_line : swept ≡ moved l l.steps l.nodes swept.lanes
  swept_line =
      lanes_line entered (entering l.plan n) inner
      ∙ ap (λ (x : Line). moved x x.steps x.nodes swept.lanes) (lanes_line left (leaving l.plan n) l)

  pub swept_long : length swept.lanes ≡ length l.lanes
  swept_long = lanes_count entered (entering l.plan n) inner ∙ lanes_count left (leaving l.plan n) l

  pub swept_enters : (c : ℕ) → Enters l.plan n c → lane_at swept c ≡ entered c (lane_at l c)
  swept_enters c (h, q) =
      lanes_in entered inner c (rw (lanes_count left (leaving l.plan n) l, long) h) (entering_rise l.plan n) (in_entering l.plan n c h q)
      ∙ ap (entered c) (lanes_away left l c (away_leaving l.plan n c (λ s. omega (arith, ordered.forward c h))))

  pub swept_leaves : (c : ℕ) → Leaves l.plan n c → lane_at swept c ≡ left c (lane_at l c)
  swept_leaves c (h, q) =
      lanes_away entered inner c (away_entering l.plan n c (λ s. omega (arith, ordered.forward c h)))
      ∙ lanes_in left l c (rw long h) (leaving_rise l.plan n) (in_leaving l.plan n c h q)

  pub swept_else : (c : ℕ) → (channel_at l.plan c).receiver ≢ n → (channel_at l.plan c).sender ≢ n → lane_at swept c ≡ lane_at l c
  swept_else c r s = lanes_away entered inner c (away_entering l.plan n c r) ∙ lanes_away left l c (away_leaving l.plan n c s)
