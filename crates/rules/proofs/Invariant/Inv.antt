-- What holds of a line, its ghost history and what was done, after every list of frames.
use Prim.Native.Nat.{ℕ, suc, max, ◌+◌, ◌<◌, ◌≤◌}
use mathlib.Core.Path.{◌≡◌}
use mathlib.Core.Logic.{◌≢◌, ◌⊎◌}
use mathlib.Core.Bool.{Bool, true, false, ◌&&◌}
use mathlib.Core.List.{List, [], ◌++◌, map}
use lib.ListN.{length}
use lib.Dec.{eqb, ltb}
use Rattle.plan.specs.Plan.{Plan, rule_at, channel_at, node_count, channel_count, is_source, is_sink}
use Rattle.plan.specs.Rule.{applied}
use Rattle.plan.specs.Channel.{takes}
use Rattle.rules.specs.Lists.{keep, greatest_of}
use Rattle.rules.specs.Line.{log_limit, held_limit, made, Message, Entry, Held, Target, Status, up, down, replay, Lane, Line, node_at, lane_at, parents}
use Rattle.rules.specs.Recover.{row_goal, low_through, restored}
use Rattle.rules.specs.Clock.{message_of, entry_for}
use Rattle.rules.specs.Replay.{passed_on}
use Rattle.rules.specs.Plain.{Act, Receipt}
use Rattle.rules.specs.Claim.{received_by}
pub use Rattle.rules.specs.Claim.{named}
use Rattle.rules.proofs.Lists.Rising.{until, past, Rises, Within}
use Rattle.rules.proofs.Histories.PlainRun.{receipts_in}
use Rattle.rules.proofs.Histories.Witness.{fed_onto, no_inputs, Feeds, Taken}
use Rattle.rules.proofs.Histories.Ghost.{Event, fed_at, took_at, Ghost, event_time, entry_of, input_of, put, got, log_put}
use Rattle.rules.proofs.Lists.Members.{In}
use Rattle.rules.proofs.Histories.Passing.{passing, goes_on, held_of, recorded}

abbrev pub time_of : Message → ℕ
time_of m = m.time

-- What an accepted plan says of its channels.
pub record Ordered (p : Plan) : Type 0 where
  pub forward : (b : ℕ) → b < channel_count p → (channel_at p b).sender < (channel_at p b).receiver
  pub inside : (b : ℕ) → b < channel_count p → (channel_at p b).receiver < node_count p
  pub alone : (b c : ℕ) → b < channel_count p → c < channel_count p → (channel_at p b).sender ≡ (channel_at p c).sender → (channel_at p b).receiver ≡ (channel_at p c).receiver → b ≡ c

abbrev pub is_up : Line → ℕ → Type 0
is_up l n = (node_at l n).status ≡ up

-- The crash marks, as far as refusals 14 and 16 keep them apart.
pub record Marks (l : Line) (crashes : List ℕ) : Type 0 where
  pub were_named : (n : ℕ) → named n crashes ≡ false → (node_at l n).crashed ≡ false
  pub not_joined : (b : ℕ) → b < channel_count l.plan → (node_at l (channel_at l.plan b).sender).crashed ≡ true → (node_at l (channel_at l.plan b).receiver).crashed ≡ false
  pub between : (n : ℕ) → (node_at l n).crashed ≡ true → (is_source l.plan n ≡ false) × (is_sink l.plan n ≡ false)
  pub stopped : (n : ℕ) → (node_at l n).crashed ≡ false → is_up l n

-- The nodes: what they were given and received.
pub record Nodes (l : Line) (g : Ghost) (fed : List Act) (receipts : List Receipt) : Type 0 where
  pub only_feeds : Feeds fed
  pub sources : (n : ℕ) → is_source l.plan n ≡ true → map input_of (g n) ≡ fed_onto no_inputs fed n
  pub others : (n : ℕ) → is_source l.plan n ≡ false → (fed_onto no_inputs fed n ≡ []) × Taken l.plan n (map input_of (g n))
  pub beyond : (n : ℕ) → node_count l.plan ≤ n → g n ≡ []
  pub received : (n : ℕ) → (node_at l n).crashed ≡ false → received_by n receipts ≡ receipts_in l.plan n (map input_of (g n))

-- A channel whose sender is up, by the sender's time, the lane, the messages of the log that it takes, those put on it, the cut and whether the receiver is not down:
-- no time on it is past the sender's; while the receiver is not down, the log holds all that is still to come, and the queue what lies between the receiver's entry and the mark.
pub record SenderUp (time : ℕ) (lane : Lane) (log puts : List Message) (cut : ℕ) (receiving : Type 0) : Type 0 where
  pub within : Within time_of time puts
  pub cut_within : cut ≤ time
  pub taken_within : lane.taken ≤ time
  pub to_come : receiving → past time_of lane.taken log ≡ past time_of lane.taken puts
  pub queue : receiving → (lane.taken ≤ lane.mark) × (lane.mark ≤ time) × (lane.queue ≡ until time_of lane.mark (past time_of lane.taken log))

-- A channel: what was put on it rises; what was got of it is what lies up to a time, the receiver's clock entry while the receiver is up.
pub record Channels (l : Line) (g : Ghost) (cut : ℕ → ℕ) (b : ℕ) : Type 0 where
  pub rises : Rises time_of 0 (put l.plan g b)
  pub cut_is : got l.plan g b ≡ until time_of (cut b) (put l.plan g b)
  pub cut_up : is_up l (channel_at l.plan b).receiver → cut b ≡ (lane_at l b).taken
  pub sender_up : is_up l (channel_at l.plan b).sender → SenderUp (node_at l (channel_at l.plan b).sender).time (lane_at l b) (log_put l b) (put l.plan g b) (cut b) ((node_at l (channel_at l.plan b).receiver).status ≢ down)

-- The lists of nodes and lanes are as long as the plan says.
pub record Shape (l : Line) : Type 0 where
  pub nodes_long : length l.nodes ≡ node_count l.plan
  pub lanes_long : length l.lanes ≡ channel_count l.plan

-- A node's events: the times of what it passes on rise, and while it is up none is past its own time.
pub record Events (l : Line) (g : Ghost) (n : ℕ) : Type 0 where
  pub rise : Rises time_of 0 (passing l.plan n (g n))
  pub within : is_up l n → Within time_of (node_at l n).time (passing l.plan n (g n))

-- A time that a clock holds for node a through a message's sender: 0, or a message was made from a's at that time.
abbrev pub HeardFrom : ℕ → ℕ → List Message → Type 0
HeardFrom a t ms = (t ≡ 0) ⊎ ((m : Message) × In m ms × (m.origin ≡ made a t))

-- The entry of channel b's receiver for node a, a parent of the sender.
abbrev pub heard_on : Line → ℕ → ℕ → ℕ
heard_on l b a = entry_for a (parents l.plan (channel_at l.plan b).sender) (lane_at l b).heard

-- A channel's ends: the entry of a receiver that never crashed is the last time that it got, and its entries for the sender's parents are times that it got; a sender that is not up has nothing on the channel, and in a replay its mark is the receiver's entry.
pub record Ends (l : Line) (g : Ghost) (b : ℕ) : Type 0 where
  pub exact : (node_at l (channel_at l.plan b).receiver).crashed ≡ false → (lane_at l b).taken ≡ greatest_of (map time_of (got l.plan g b))
  pub through : (node_at l (channel_at l.plan b).receiver).crashed ≡ false → (a : ℕ) → HeardFrom a (heard_on l b a) (got l.plan g b)
  pub stopped : (node_at l (channel_at l.plan b).sender).status ≢ up → (lane_at l b).queue ≡ []
  pub waiting : (node_at l (channel_at l.plan b).sender).status ≡ replay → (lane_at l b).mark ≡ (lane_at l b).taken

-- A target, as an event of the node gives it.
abbrev pub target_from : Plan → ℕ → Message → ℕ → Target
target_from p b m t = record { time = t; parent = (channel_at p b).sender; parent_time = m.time }

-- Channel c leaves node n, or enters it.
abbrev pub Leaves : Plan → ℕ → ℕ → Type 0
Leaves p n c = (c < channel_count p) × ((channel_at p c).sender ≡ n)

abbrev pub Enters : Plan → ℕ → ℕ → Type 0
Enters p n b = (b < channel_count p) × ((channel_at p b).receiver ≡ n)

-- What node n made of message m at time t has reached a child: some leaving channel takes it, and the child's entry is not below t.
pub record Reached (l : Line) (n : ℕ) (m : Message) (t : ℕ) : Type 0 where
  pub channel : ℕ
  pub on_plan : channel < channel_count l.plan
  pub leaves : (channel_at l.plan channel).sender ≡ n
  pub takes_it : takes (channel_at l.plan channel) (applied (rule_at l.plan n) m.what) ≡ true
  pub in_time : t ≤ (lane_at l channel).taken

-- A row of a replay, by what was put on its channel: the entry lies between the restored one and the row's goal, and what is held is what goes on of the messages between the restored entry and the entry.
pub record Row (l : Line) (g : Ghost) (cut base : ℕ) (n b : ℕ) : Type 0 where
  pub base_got : base ≤ cut
  pub base_taken : base ≤ (lane_at l b).taken
  pub to_goal : (lane_at l b).taken ≤ max base (row_goal (node_at l n).targets (channel_at l.plan b).sender)
  pub held : keep (λ (h : Held). eqb h.sender (channel_at l.plan b).sender) (node_at l n).held ≡ map (held_of l.plan n b) (keep (goes_on l.plan n) (past time_of base (until time_of (lane_at l b).taken (put l.plan g b))))

-- A node that replays: its time is low; its targets are the events past low that have reached a child; up to low, what it passed on came of messages up to the restored entries.
pub record Replays (l : Line) (g : Ghost) (cut base : ℕ → ℕ) (n : ℕ) : Type 0 where
  pub log_none : (node_at l n).log ≡ []
  pub low : (c : ℕ) → Leaves l.plan n c → (node_at l n).time ≤ (lane_at l c).taken
  pub target_from_lem : (u : Target) → In u (node_at l n).targets → (b : ℕ) × (m : Message) × (t : ℕ) × In (took_at b m t) (g n) × (u ≡ target_from l.plan b m t) × ((node_at l n).time < t) × Reached l n m t
  pub target_of : (b : ℕ) (m : Message) (t : ℕ) → In (took_at b m t) (g n) → (node_at l n).time < t → Reached l n m t → In (target_from l.plan b m t) (node_at l n).targets
  pub base_cuts : (b : ℕ) (m : Message) (t : ℕ) → In (took_at b m t) (g n) → goes_on l.plan n m ≡ true → (m.time ≤ base b → t ≤ (node_at l n).time) × (t ≤ (node_at l n).time → m.time ≤ base b)
  pub rows : (b : ℕ) → Enters l.plan n b → Row l g (cut b) (base b) n b

-- Channel b's receiver never crashed, and so all children of node n.
abbrev pub UnmarkedEnd : Line → ℕ → Type 0
UnmarkedEnd l b = (node_at l (channel_at l.plan b).receiver).crashed ≡ false

abbrev pub UnmarkedChildren : Line → ℕ → Type 0
UnmarkedChildren l n = (c : ℕ) → Leaves l.plan n c → UnmarkedEnd l c

-- What the low clock of channel b's receiver holds for node a, through the sender.
abbrev pub low_on : Line → ℕ → ℕ → ℕ
low_on l b a = low_through l (channel_at l.plan b).sender a b

-- The log of a node that never crashed: the entries of its events that have one, without the first ones, which are gone.
-- A gone event has reached every child that never crashed; were a child to crash, it would be restored past the event; and its input has reached every child of its sender that never crashed.
pub record Logged (l : Line) (g : Ghost) (n : ℕ) : Type 0 where
  pub gone : List Event
  pub kept : List Event
  pub split : recorded l.plan n (g n) ≡ gone ++ kept
  pub log_is : (node_at l n).log ≡ map (entry_of l.plan n) kept
  pub reached : (e : Event) → In e gone → (c : ℕ) → Leaves l.plan n c → UnmarkedEnd l c → event_time e ≤ (lane_at l c).taken
  pub restored_past : (e : Event) → In e gone → (c : ℕ) → Leaves l.plan n c → is_sink l.plan (channel_at l.plan c).receiver ≡ false → UnmarkedChildren l (channel_at l.plan c).receiver → event_time e ≤ restored l (channel_at l.plan c).receiver n
  pub input_reached : (b : ℕ) (m : Message) (t : ℕ) → In (took_at b m t) gone → (c : ℕ) → Leaves l.plan (channel_at l.plan b).sender c → UnmarkedEnd l c → m.time ≤ (lane_at l c).taken
  -- The low clock, through each parent: 0, or what a gone event's message was made from; and no gone event's message was made from anything later.
  pub low_long : (b : ℕ) → Enters l.plan n b → length (lane_at l b).low ≡ suc (length (parents l.plan (channel_at l.plan b).sender))
  pub low_from : (b : ℕ) → Enters l.plan n b → (a : ℕ) → (low_on l b a ≡ 0) ⊎ ((m : Message) × (t : ℕ) × In (took_at b m t) gone × (m.origin ≡ made a (low_on l b a)))
  pub low_of_lem : (b : ℕ) → Enters l.plan n b → (m : Message) (t : ℕ) → In (took_at b m t) gone → (a u : ℕ) → In a (parents l.plan (channel_at l.plan b).sender) → m.origin ≡ made a u → u ≤ low_on l b a

-- What of a log is passed on.
abbrev pub log_passing : Plan → ℕ → List Entry → List Message
log_passing p n log = keep (λ (m : Message). passed_on p n m.what) (map message_of log)

-- What was passed on past a time: while the node is up its log holds it, else it is no more than a log can hold.
abbrev pub HasRoom : Plan → ℕ → ℕ → List Message → List Entry → Status → Type 0
HasRoom p n least sent log up = past time_of least sent ≡ past time_of least (log_passing p n log)
HasRoom p n least sent log down = length (past time_of least sent) ≤ log_limit
HasRoom p n least sent log replay = length (past time_of least sent) ≤ log_limit

-- Whether a replay from time low still waits for an event's message, by the entries for its senders.
abbrev pub waits : Plan → ℕ → ℕ → (ℕ → ℕ) → Event → Bool
waits p n low taken (fed_at r t) = false
waits p n low taken (took_at b m t) = goes_on p n m && (ltb low t && ltb (taken b) m.time)

abbrev pub takens : Line → ℕ → ℕ
takens l b = (lane_at l b).taken

-- A crashed node's space: past a time that no child's entry is below, its log holds what it passed on, or can hold it; in a replay, what is held and what it still waits for fit the held list.
pub record Room (l : Line) (g : Ghost) (n : ℕ) : Type 0 where
  pub least : ℕ
  pub below : (c : ℕ) → Leaves l.plan n c → least ≤ (lane_at l c).taken
  pub few : HasRoom l.plan n least (passing l.plan n (g n)) (node_at l n).log (node_at l n).status
  pub held_few : (node_at l n).status ≡ replay → length (node_at l n).held + length (keep (waits l.plan n (node_at l n).time (takens l)) (g n)) ≤ held_limit

-- All of it.
pub record Inv (l : Line) (g : Ghost) (cut base : ℕ → ℕ) (fed : List Act) (receipts : List Receipt) (crashes : List ℕ) : Type 0 where
  pub shape : Shape l
  pub ordered : Ordered l.plan
  pub marks : Marks l crashes
  pub nodes : Nodes l g fed receipts
  pub logs : (n : ℕ) → (node_at l n).crashed ≡ false → Logged l g n
  pub events : (n : ℕ) → Events l g n
  pub channels : (b : ℕ) → b < channel_count l.plan → Channels l g cut b
  pub ends : (b : ℕ) → b < channel_count l.plan → Ends l g b
  pub replays : (n : ℕ) → (node_at l n).status ≡ replay → Replays l g cut base n
  pub rooms : (n : ℕ) → (node_at l n).crashed ≡ true → Room l g n
