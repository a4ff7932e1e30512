use Prim.Native.Nat.{max, ◌≤◌}
use mathlib.Core.Path.{◌≡◌}
use mathlib.Core.List.{◌∷◌}
use lib.ListN.{drop}
use Rattle.rules.specs.Lists.{greatest_of}
use Rattle.rules.specs.Line.{lane_at}
use Rattle.state.specs.State.{line_of}
use Rattle.channel_check.proofs.Block.most_heard.Given as goal

-- The first i heard are seen.
abbrev pub invariant-loop-i : goal.invariant-loop-i
invariant-loop-i l =
    let lane = lane_at (line_of l.s) l.self.b in
    (l.heard ≤ 4) × (greatest_of (lane.taken ∷ lane.heard) ≡ max l.most (greatest_of (drop l.i lane.heard)))
