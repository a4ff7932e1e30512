-- What the check of a channel's block goes by: the low clock word by word, each message where it lies, and the queue message by message.
use Rattle.std.specs.Prelude.{ℕ, zero, suc, ◌+◌, ◌*◌, ◌≤◌, ◌<◌, ◌≡◌, Bool, true, ◌&&◌, ◌||◌, List, take, drop, leb, ltb}
use Rattle.plan.specs.Plan.{plan_of, plan_nodes, channel_at}
use Rattle.rules.specs.Line.{queue_limit, Message}
use Rattle.state.specs.Sizes.{block_at, taken_at, queue_at, message_size, low_at}
use Rattle.state.specs.Right.{word_at}
use Rattle.state.specs.Pieces.{message_layout}
use Rattle.state.specs.State.{line_of}
use Rattle.items.specs.Items.{record_right, named_right}
use Rattle.buffer.specs.Exact.{message_exact}
use Rattle.buffer.specs.Ready.{OnChannel}

-- A channel, and the nodes at its ends.
pub record Ends (s : List ℕ) (b sender receiver : ℕ) : Type 0 where
  pub on : OnChannel s b
  pub from : sender ≡ (channel_at (plan_of s) b).sender
  pub to : receiver ≡ (channel_at (plan_of s) b).receiver
  pub from_inside : sender < plan_nodes s
  pub to_inside : receiver < plan_nodes s

-- A channel with so many messages, not too many.
pub record QueueFits (s : List ℕ) (b count : ℕ) : Type 0 where
  pub on : OnChannel s b
  pub same : count ≡ word_at (block_at b + queue_at) s
  pub few : count ≤ queue_limit

-- In a block, the first words of the low clock are within those of the clock, which stand side by side from what is taken on.
abbrev pub lows_within : List ℕ → ℕ → ℕ → Bool
lows_within s a zero = true
lows_within s a (suc i) = lows_within s a i && leb (word_at (a + (low_at + 4 * i)) s) (word_at (a + (taken_at + 4 * i)) s)

-- The message at a place.
abbrev pub message_at : List ℕ → ℕ → Message
message_at s a = message_layout.read (take message_size (drop a s))

-- A message at a place, sent by a node.
unfoldable pub message_ok : List ℕ → ℕ → ℕ → Bool
unfolding line_of message_layout message_exact named_right
message_ok s sender a = message_exact a s && (record_right (message_at s a).what && named_right (line_of s) sender (message_at s a).origin)

-- So many messages from a place on, whose times rise from above the last to the mark where no end is down.
abbrev pub messages_ok : List ℕ → ℕ → Bool → ℕ → ℕ → ℕ → ℕ → Bool
messages_ok s sender stopped mark last a zero = true
messages_ok s sender stopped mark last a (suc n) =
    message_ok s sender a && (stopped || (ltb last (message_at s a).time && leb (message_at s a).time mark)) && messages_ok s sender stopped mark (message_at s a).time (a + message_size) n
