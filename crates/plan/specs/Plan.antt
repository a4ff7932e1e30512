-- A plan: its version, the nodes' rules and the channels, and its layout (document 01, "The line"; document 02, 2026-02).
use Rattle.std.specs.Prelude.{ℕ, suc, ◌+◌, ◌*◌, Bool, true, false, List, [], ◌∷◌, length, get_or, eqb}
use Rattle.plan.specs.declared.Rule.{Rule}
use Rattle.plan.specs.declared.Rule.TheVariants.{Keep}
use Rattle.plan.specs.declared.Channel.{Channel}
use Rattle.plan.specs.Layout.{Layout, fields, via, pair, slots}
use Rattle.plan.specs.Rule.{rule_layout}
use Rattle.plan.specs.Channel.{channel_layout, channel_size}

-- The version is that of the plan's bytes, 1 or 2 (2026-02).
pub record Plan : Type 0 where
  pub version : ℕ
  pub rules : List Rule
  pub channels : List Channel

abbrev pub node_count : Plan → ℕ
node_count p = length p.rules

abbrev pub channel_count : Plan → ℕ
channel_count p = length p.channels

-- What stands past the plan's nodes and channels.
abbrev pub no_channel : Channel
no_channel = record { sender = 0; receiver = 0; mask = 0; modulus = 0; remainder = 0; least = 0; greatest = 0 }

abbrev pub rule_at : Plan → ℕ → Rule
rule_at p n = get_or p.rules n Keep

abbrev pub channel_at : Plan → ℕ → Channel
channel_at p b = get_or p.channels b no_channel

-- The numbers, counted from k, of the things in a list that pass a test.
abbrev pub keep_if : Bool → ℕ → List ℕ → List ℕ
keep_if true k ks = k ∷ ks
keep_if false k ks = ks

abbrev pub numbers_from : {A : Type 0} → ℕ → (A → Bool) → List A → List ℕ
numbers_from k f [] = []
numbers_from k f (x ∷ xs) = keep_if (f x) k (numbers_from (suc k) f xs)

-- The channels that enter a node and those that leave it, by number. Channels rise by sender, so a node's entering channels are in the order of its parents.
unfoldable pub entering : Plan → ℕ → List ℕ
entering p n = numbers_from 0 (λ (c : Channel). eqb c.receiver n) p.channels

unfoldable pub leaving : Plan → ℕ → List ℕ
leaving p n = numbers_from 0 (λ (c : Channel). eqb c.sender n) p.channels

-- "A node without entering belts is an infeed, without leaving belts an outfeed": a source and a sink.
abbrev pub is_none : List ℕ → Bool
is_none [] = true
is_none (x ∷ xs) = false

unfoldable pub is_source : Plan → ℕ → Bool
unfolding entering
is_source p n = is_none (entering p n)

unfoldable pub is_sink : Plan → ℕ → Bool
unfolding leaving
is_sink p n = is_none (leaving p n)

-- "A plan, big-endian: length of the whole plan (2 bytes), version 1, node count N 2..12, belt count M 1..24; then N rules of 4 bytes, then M belts of 6." 2026-02: a plan of version 2 has belts of 10. One layout for both, by the version.
abbrev pub head_widths : List ℕ
head_widths = 2 ∷ 1 ∷ 1 ∷ 1 ∷ []

unfoldable pub head_layout : Layout (List ℕ)
unfolding fields
head_layout = fields head_widths

unfoldable pub body_layout : ℕ → ℕ → ℕ → Layout Plan
unfolding rule_layout channel_layout slots pair via
body_layout version n m = via (pair (slots n rule_layout) (slots m (channel_layout version))) (λ p. (p.rules, p.channels)) (λ b. record { version = version; rules = b.0; channels = b.1 })

-- The head's numbers, and the plan.
unfoldable pub plan_layout : ℕ → ℕ → ℕ → Layout (List ℕ × Plan)
unfolding head_layout body_layout pair
plan_layout version n m = pair head_layout (body_layout version n m)

unfoldable pub plan_size : ℕ → ℕ → ℕ → ℕ
unfolding plan_layout
plan_size version n m = (plan_layout version n m).size

abbrev pub head_numbers : Plan → List ℕ
head_numbers p = plan_size p.version (node_count p) (channel_count p) ∷ p.version ∷ node_count p ∷ channel_count p ∷ []

unfoldable pub plan_bytes : Plan → List ℕ
unfolding plan_layout plan_size
plan_bytes p = (plan_layout p.version (node_count p) (channel_count p)).write (head_numbers p, p)

-- What a plan's head says: length, version, N and M.
unfoldable pub plan_length : List ℕ → ℕ
unfolding head_layout
plan_length s = get_or (head_layout.read s) 0 0

unfoldable pub plan_version : List ℕ → ℕ
unfolding head_layout
plan_version s = get_or (head_layout.read s) 1 0

unfoldable pub plan_nodes : List ℕ → ℕ
unfolding head_layout
plan_nodes s = get_or (head_layout.read s) 2 0

unfoldable pub plan_channels : List ℕ → ℕ
unfolding head_layout
plan_channels s = get_or (head_layout.read s) 3 0

-- How long the plan is, by its head.
unfoldable pub size_by_head : List ℕ → ℕ
unfolding plan_size plan_version plan_nodes plan_channels
size_by_head s = plan_size (plan_version s) (plan_nodes s) (plan_channels s)

-- Where a channel's bytes start: five bytes stand in front, and four for each node.
abbrev pub channel_from : List ℕ → ℕ → ℕ
channel_from s b = 5 + 4 * plan_nodes s + channel_size (plan_version s) * b

unfoldable pub plan_of : List ℕ → Plan
unfolding plan_layout plan_version plan_nodes plan_channels
plan_of s = ((plan_layout (plan_version s) (plan_nodes s) (plan_channels s)).read s).1
