-- A channel and its place among those that enter its receiver, as one byte.
use Rattle.std.specs.Prelude.{ℕ, ◌+◌, ◌*◌}
use Rattle.std.proofs.Math.Option.{Option, none, some}
use Rattle.plan.specs.Plan.{Plan, channel_at, entering}
use Rattle.items.specs.Items.{place_from}
use Rattle.buffer.specs.Look.{number_or}

-- A channel's place among those that enter its receiver.
abbrev pub place_of : Plan → ℕ → ℕ
place_of p b = number_or 4 (place_from p (channel_at p b).sender 0 (entering p (channel_at p b).receiver))

-- A channel and its place as one byte; 255 for none.
abbrev pub code_or : Plan → Option ℕ → ℕ
code_or p none = 255
code_or p (some b) = b + 32 * place_of p b
