-- A plan's channels by their ends, and what a lookup among them finds for a sender and a node: the channel from the one to the other, if there is one, and its place among those that enter the node.
use Rattle.std.specs.Prelude.{ℕ, ◌+◌, ◌*◌, ◌<◌, ◌≡◌, List, length, get_or}
use Rattle.std.proofs.Math.Option.{none, some}
use Rattle.std.specs.declared.option.Option.{Option}
use Rattle.std.specs.declared.option.Option.TheVariants.{None, Some}
use Rattle.plan.specs.Plan.{plan_of, plan_channels, channel_at, entering}
use Rattle.items.specs.Items.{from_sender, place_from}
use Rattle.buffer.specs.Table.{code_or}
use Rattle.buffer.specs.declared.joins.Joint.{Joint}

pub record Missing (s : List ℕ) (q n : ℕ) : Type 0 where
  pub found : from_sender (plan_of s) q (entering (plan_of s) n) ≡ none
  pub placed : place_from (plan_of s) q 0 (entering (plan_of s) n) ≡ none

pub record Joining (s : List ℕ) (q n : ℕ) (j : Joint) : Type 0 where
  pub found : from_sender (plan_of s) q (entering (plan_of s) n) ≡ some j.channel
  pub placed : place_from (plan_of s) q 0 (entering (plan_of s) n) ≡ some j.place
  pub below : j.channel < plan_channels s
  pub from : (channel_at (plan_of s) j.channel).sender ≡ q
  pub to : (channel_at (plan_of s) j.channel).receiver ≡ n
  pub early : j.place < length (entering (plan_of s) n)

abbrev pub JoinOf : List ℕ → ℕ → ℕ → Option Joint → Type 0
JoinOf s q n None = Missing s q n
JoinOf s q n (Some j) = Joining s q n j

-- The channels of the plan by their ends: a code for each receiver and sender, and for each node the number of channels that enter it. A plan has at most 12 nodes.
pub record EndsOf (s codes counts : List ℕ) : Type 0 where
  pub long : length codes ≡ 144
  pub wide : length counts ≡ 12
  pub joins : (q n : ℕ) → q < 12 → n < 12 → get_or codes (12 * n + q) 0 ≡ code_or (plan_of s) (from_sender (plan_of s) q (entering (plan_of s) n))
  pub counts_are : (n : ℕ) → n < 12 → get_or counts n 0 ≡ length (entering (plan_of s) n)
