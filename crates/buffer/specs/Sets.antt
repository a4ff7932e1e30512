-- The channels that leave a node, where they begin among a plan's, and which bit of a set is a channel's (2026-06).
use Rattle.std.specs.Prelude.{ℕ, ◌≤◌, ◌<◌, ◌≡◌, eqb, length, get_or, drop}
use Rattle.plan.specs.declared.Channel.{Channel}
use Rattle.plan.specs.Plan.{Plan, channel_count, channel_at, numbers_from, leaving}

-- No channel before one leaves the node.
abbrev pub LeaveFrom : Plan → ℕ → ℕ → Type 0
LeaveFrom p n first = leaving p n ≡ numbers_from first (λ (c : Channel). eqb c.sender n) (drop first p.channels)

-- Those that leave it begin there, if there are any.
pub record Begin (p : Plan) (n first : ℕ) : Type 0 where
  pub none_before : LeaveFrom p n first
  pub not_below : first < channel_count p → n ≤ (channel_at p first).sender

-- A channel's bit in its sender's sets: its place among the channels that leave the sender.
pub record BitOf (p : Plan) (b k : ℕ) : Type 0 where
  pub small : k < 4
  pub inside : k < length (leaving p (channel_at p b).sender)
  pub there : get_or (leaving p (channel_at p b).sender) k 0 ≡ b
