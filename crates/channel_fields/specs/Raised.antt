-- A channel's clock entries and its low clock's, raised to a time.
use Rattle.std.specs.Prelude.{ℕ, max, get_or, set, Option, Some, None}
use Rattle.std.proofs.Math.Option as maybe
use Rattle.rules.specs.Line.{Lane}
use Rattle.rules.specs.Trim.{with_low}
use Rattle.state.specs.Lane.{with_heard}
use Rattle.state.specs.Changes.{with_taken}

abbrev pub taken_to : ℕ → Lane → Lane
taken_to t x = with_taken (max x.taken t) x

-- The entry heard at a place.
abbrev pub heard_to : ℕ → ℕ → Lane → Lane
heard_to i t x = with_heard (set x.heard i (max (get_or x.heard i 0) t)) x

-- The low clock's entry at a place, the sender's first.
abbrev pub low_to : ℕ → ℕ → Lane → Lane
low_to i t x = with_low (set x.low i (max (get_or x.low i 0) t)) x

-- A place among the parents, or none.
abbrev pub place_is : Option ℕ → maybe.Option ℕ
place_is (Some i) = maybe.some i
place_is None = maybe.none
