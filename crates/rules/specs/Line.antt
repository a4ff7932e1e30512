-- The line: its nodes and channels as they are (document 01, "The line" and "Clocks and steps"). In these modules n is a node and b a channel; in Recover and Replay b is the paper's node B and c a channel.
use Rattle.std.specs.Prelude.{ℕ, suc, ◌*◌, ◌≡◌, refl, Bool, true, false, List, [], ◌∷◌, map, length, get_or, set, replicate}
use Rattle.std.proofs.Math.Option.{Option, none}
use Rattle.plan.specs.declared.Record.{Record}
use Rattle.plan.specs.declared.Channel.{Channel}
use Rattle.plan.specs.Plan.{Plan, node_count, channel_count, channel_at, entering}
use Rattle.plan.specs.Layout.{sum_of}
use Rattle.rules.specs.Lists.{up_to}

-- "64 log entries a node, 8 messages on a belt, 64 held records a node, 64 targets a node, 1,000,000 accepted steps". Of the steps 2026-01 says: "Each console has its own count to 1,000,000".
abbrev pub log_limit : ℕ
log_limit = 64

abbrev pub queue_limit : ℕ
queue_limit = 8

abbrev pub held_limit : ℕ
held_limit = 64

abbrev pub target_limit : ℕ
target_limit = 64

abbrev pub step_limit : ℕ
step_limit = 1_000_000

-- 2026-01: "a console number 0..3".
abbrev pub console_count : ℕ
console_count = 4

-- So many steps can be accepted in all: no time is later.
abbrev pub time_limit : ℕ
time_limit = 4_000_000

pub all_consoles : console_count * step_limit ≡ time_limit
all_consoles = refl

-- What something was made from: nothing at a source, else a sender and its time.
pub data Origin : Type 0 where
  fed : Origin
  made : ℕ → ℕ → Origin

-- "A message is a record, its sender's time, and the sender and time that it was itself made from (none at an infeed)."
pub record Message : Type 0 where
  pub what : Record
  pub time : ℕ
  pub origin : Origin

-- "Each log entry is such a message, made by this node, and keeps also the sender and time that its input was made from, if any." 2026-06: and the set of channels that take it, "one bit a belt" (`set_of`). 2026-08: where channels leave the node and none of them takes it, it has no time of its own, but the node's when it was logged.
pub record Entry : Type 0 where
  pub what : Record
  pub time : ℕ
  pub origin : Origin
  pub before : Origin
  pub set : ℕ

-- A held record (buffered in a replay): the record as the node would log it, the parent and the parent's time, and what that message was made from.
pub record Held : Type 0 where
  pub what : Record
  pub sender : ℕ
  pub time : ℕ
  pub before : Origin

-- A target: the node's time, a parent and the parent's time.
pub record Target : Type 0 where
  pub time : ℕ
  pub parent : ℕ
  pub parent_time : ℕ

pub data Status : Type 0 where
  up down replay : Status

-- 2026-07: what Ask keeps with a down node: low, high, and each parent's restored entry, in the order of the channels that enter it, four in all, 0 behind them. Its targets are the node's own list, which is empty while it is down and no answer is kept.
pub record Asked : Type 0 where
  pub low : ℕ
  pub high : ℕ
  pub entries : List ℕ

pub record Node : Type 0 where
  pub status : Status
  pub crashed : Bool
  pub time : ℕ
  pub log : List Entry
  pub held : List Held
  pub targets : List Target
  pub asked : Option Asked

-- A channel's state (document 01: a belt). The receiver's clock entry for the sender is `taken`, its entries for the sender's parents are `heard`, in the parents' order: a pair of nodes has at most one channel.
-- 2026-04: what the receiver's low clock holds for the sender and then for the sender's parents is `low`.
pub record Lane : Type 0 where
  pub mark : ℕ
  pub taken : ℕ
  pub heard : List ℕ
  pub queue : List Message
  pub low : List ℕ

-- Of the steps, those accepted from each console.
pub record Line : Type 0 where
  pub plan : Plan
  pub steps : List ℕ
  pub nodes : List Node
  pub lanes : List Lane

-- A console's own count.
abbrev pub steps_from : Line → ℕ → ℕ
steps_from l c = get_or l.steps c 0

-- The counts where no other console than 0 has done a step.
abbrev pub only_count : ℕ → List ℕ
only_count k = k ∷ 0 ∷ 0 ∷ 0 ∷ []

-- All the steps accepted so far, which no time in an undamaged line exceeds. 2026-01: "A time is now bounded by the sum of the four".
abbrev pub accepted_steps : Line → ℕ
accepted_steps l = sum_of l.steps

-- "A node has a time (0 at first)": a node that is up and has done nothing.
abbrev pub fresh_node : Node
fresh_node = record { status = up; crashed = false; time = 0; log = []; held = []; targets = []; asked = none }

-- The parents of a node, rising.
unfoldable pub parents : Plan → ℕ → List ℕ
unfolding entering
parents p n = map (λ (b : ℕ). (channel_at p b).sender) (entering p n)

-- A channel with nothing on it, marked and taken up to a time.
unfoldable pub fresh_lane : Plan → Channel → ℕ → Lane
unfolding parents
fresh_lane p c t = record { mark = t; taken = t; heard = replicate (length (parents p c.sender)) 0; queue = []; low = replicate (suc (length (parents p c.sender))) 0 }

-- The line that a plan starts as.
unfoldable pub initial_line : Plan → Line
unfolding fresh_lane
initial_line p = record { plan = p; steps = only_count 0; nodes = replicate (node_count p) fresh_node; lanes = map (λ (c : Channel). fresh_lane p c 0) p.channels }

abbrev pub no_lane : Lane
no_lane = record { mark = 0; taken = 0; heard = []; queue = []; low = [] }

abbrev pub node_at : Line → ℕ → Node
node_at l n = get_or l.nodes n fresh_node

abbrev pub lane_at : Line → ℕ → Lane
lane_at l b = get_or l.lanes b no_lane

-- The numbers of the line's nodes and channels, and a channel's two ends.
abbrev pub node_numbers : Line → List ℕ
node_numbers l = up_to 0 (node_count l.plan)

abbrev pub channel_numbers_of : Line → List ℕ
channel_numbers_of l = up_to 0 (channel_count l.plan)

abbrev pub sender_of : Line → ℕ → ℕ
sender_of l b = (channel_at l.plan b).sender

abbrev pub receiver_of : Line → ℕ → ℕ
receiver_of l b = (channel_at l.plan b).receiver

-- The small changes that every effect is made of.
unfoldable pub with_node : ℕ → Node → Line → Line
with_node n x l = record { plan = l.plan; steps = l.steps; nodes = set l.nodes n x; lanes = l.lanes }

unfoldable pub with_lane : ℕ → Lane → Line → Line
with_lane b x l = record { plan = l.plan; steps = l.steps; nodes = l.nodes; lanes = set l.lanes b x }

-- One more accepted step, from console c.
abbrev pub one_more : ℕ → List ℕ → List ℕ
one_more c counts = set counts c (suc (get_or counts c 0))

abbrev pub with_steps : List ℕ → Line → Line
with_steps counts l = record { plan = l.plan; steps = counts; nodes = l.nodes; lanes = l.lanes }

unfoldable pub counted : ℕ → Line → Line
counted c l = with_steps (one_more c l.steps) l

-- One change for each of some channels.
abbrev pub with_lanes : (ℕ → Lane → Lane) → List ℕ → Line → Line
with_lanes f [] l = l
with_lanes f (b ∷ bs) l = with_lanes f bs (with_lane b (f b (lane_at l b)) l)

abbrev pub is_up : Status → Bool
is_up up = true
is_up down = false
is_up replay = false

abbrev pub is_down : Status → Bool
is_down up = false
is_down down = true
is_down replay = false

abbrev pub is_replay : Status → Bool
is_replay up = false
is_replay down = false
is_replay replay = true
