-- What the check of the sets in a node's log goes by (document 02, 2026-06): the log; a channel's bit; and the sets by material where its channels are open.
use Rattle.std.specs.Prelude.{ℕ, ◌+◌, ◌/◌, ◌%◌, ◌^◌, ◌≤◌, ◌<◌, ◌≡◌, Bool, true, false, cond, ◌&&◌, ◌||◌, List, length, get_or, replicate, ltb, eqb}
use Rattle.std.specs.declared.option.Option.{Option}
use Rattle.std.specs.declared.option.Option.TheVariants.{None, Some}
use Rattle.plan.specs.declared.Record.{Record}
use Rattle.plan.specs.declared.Channel.{Channel}
use Rattle.plan.specs.Channel.{bit_set, takes}
use Rattle.plan.specs.Plan.{Plan, channel_at, leaving}
use Rattle.plan.specs.Mask.{set_of}
use Rattle.rules.specs.Lists.{all_of}
use Rattle.rules.specs.Line.{log_limit, Entry, node_at}
use Rattle.state.specs.Sizes.{page_at, log_at}
use Rattle.state.specs.State.{line_of}
use Rattle.state.specs.Right.{word_at}
use Rattle.items.specs.Items.{record_right, entries_right}
use Rattle.node_check.specs.NodeCheck.{PageOf}

-- A log of so many entries, which are right but for their sets.
pub record LogOf (s : List ℕ) (n at count : ℕ) : Type 0 where
  pub page : PageOf s n at
  pub is : count ≡ word_at (page_at n + log_at) s
  pub small : count ≤ log_limit
  pub right : entries_right (line_of s) n (node_at (line_of s) n).log ≡ true

-- A channel's bit in an entry's set, and that the set has none from a bit on.
abbrev pub bit_right : Channel → ℕ → Entry → Bool
bit_right c k e = eqb (e.set / (2 ^ k) % 2) (cond (takes c e.what) 1 0)

abbrev pub none_past : ℕ → Entry → Bool
none_past k e = eqb (e.set / (2 ^ k)) 0

-- A channel takes any piece and any mass, so that what it takes goes by the material.
abbrev pub is_open : Channel → Bool
is_open c = eqb c.modulus 1 && eqb c.least 0 && eqb c.greatest 65_535

-- A table of sets, before any channel: a place for each material, and a tick's, 31.
unfoldable pub no_sets : List ℕ
no_sets = replicate 32 0

-- Whether an open channel with a mask takes the records whose sets stand at a place.
abbrev pub takes_place : ℕ → ℕ → Bool
takes_place mask i = (ltb i 16 && bit_set mask i) || eqb i 31

-- Every set so far is below the next channel's bit.
abbrev pub Below : List ℕ → ℕ → Type 0
Below t bit = (i : ℕ) → get_or t i 0 < bit

-- A channel's bit is added to the sets of what it takes.
pub record Added (t : List ℕ) (mask bit : ℕ) (u : List ℕ) : Type 0 where
  pub long : length u ≡ 32
  pub sets : (i : ℕ) → get_or u i 0 ≡ get_or t i 0 + cond (takes_place mask i) bit 0

-- A table has the set of every record that may stand in a log: 255 % 32 is 31.
abbrev pub Listed : Plan → ℕ → List ℕ → Type 0
Listed p n t = (r : Record) → record_right r ≡ true → get_or t (r.material % 32) 0 ≡ set_of p n r

-- Whether every channel that leaves a node is open, and then its table.
pub record ByMaterial (p : Plan) (n : ℕ) (t : List ℕ) (r : Bool) : Type 0 where
  pub all : r ≡ all_of (λ (b : ℕ). is_open (channel_at p b)) (leaving p n)
  pub listed : r ≡ true → Listed p n t

-- The table, or none where a channel is not open.
abbrev pub material_table : Plan → ℕ → Option (List ℕ) → Type 0
material_table p n None = ByMaterial p n no_sets false
material_table p n (Some t) = ByMaterial p n t true
