use mathlib.Core.Path.{◌≡◌}
use Rattle.state.specs.Sizes.{block_at}
use Rattle.channel_check.specs.Channel.{lows_within}
use Rattle.channel_check.proofs.Block.low_ok.Given as goal

-- The first i words are within.
abbrev pub invariant-loop-i : goal.invariant-loop-i
invariant-loop-i l = l.ok ≡ lows_within l.s (block_at l.self.b) l.i
