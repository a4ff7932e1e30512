-- A Take of a replaying node: its rows once the message is taken, the record as it would be held, and what is left.
use Rattle.std.specs.Prelude.{ℕ, max, ◌≤◌, ◌<◌, ◌≡◌, Bool, true, false, cond, not, ◌&&◌, List, [], ◌∷◌, ◌++◌, leb, eqb, length, get_or, drop}
use Rattle.std.proofs.Math.Option.{none}
use Rattle.plan.specs.Mask.{set_of}
use Rattle.plan.specs.Plan.{plan_nodes, plan_channels, entering}
use Rattle.rules.specs.Lists.{all_of, is_empty}
use Rattle.rules.specs.Line.{log_limit, held_limit, Message, Entry, Held, up, Node, Line, node_at, lane_at, sender_of, receiver_of, with_node}
use Rattle.rules.specs.Recover.{row_goal, row_complete, high_of}
use Rattle.rules.specs.Replay.{passed_on}
use Rattle.rules.specs.Step.{end_down, replaying, made_by, taken_lane}
use Rattle.state.specs.State.{line_of}
use Rattle.state.specs.Changes.{more_held}
use Rattle.buffer.specs.Nothing.{no_held}
use Rattle.buffer.specs.Holds.{AtNode, Undamaged}
use Rattle.slots.specs.Slots.{message_is}
use Rattle.replay_items.specs.Items.{one_more}
use Rattle.replay_table.specs.declared.PlacedRecord.{PlacedRecord}
use Rattle.replay_table.specs.Ends.{no_placed, logged_from}
use Rattle.replay.specs.declared.Arrival.{Arrival}

-- The entry on channel c once a message of a time is taken from channel b.
abbrev pub taken_after : Line → ℕ → ℕ → ℕ → ℕ
taken_after l b time c = cond (eqb c b) (max (lane_at l c).taken time) (lane_at l c).taken

-- Whether a row is complete then, and whether all of them are.
abbrev pub row_after : Line → ℕ → ℕ → ℕ → ℕ → Bool
row_after l n b time c = leb (row_goal (node_at l n).targets (sender_of l c)) (taken_after l b time c)

unfoldable pub rows_after : Line → ℕ → ℕ → ℕ → Bool
unfolding entering
rows_after l n b time = all_of (row_after l n b time) (entering l.plan n)

-- The first message of channel b, as the receiver would hold it; and what it is to hold, if some channel takes that.
abbrev pub would_hold : Line → ℕ → Message → Held
would_hold l b m = record { what = made_by l (receiver_of l b) m.what; sender = sender_of l b; time = m.time; before = m.origin }

abbrev pub to_be_held : Line → ℕ → Message → List Held
to_be_held l b m = cond (passed_on l.plan (receiver_of l b) (would_hold l b m).what) (would_hold l b m ∷ []) []

-- A queue's first message, and those behind it.
abbrev pub First : Line → ℕ → Message → Type 0
First l b m = (lane_at l b).queue ≡ m ∷ drop 1 (lane_at l b).queue

abbrev pub taken_now : Line → ℕ → Message → Line
taken_now l b m = taken_lane b m (drop 1 (lane_at l b).queue) l

-- One more held record, if there is one.
abbrev pub held_more : ℕ → List Held → Line → Line
held_more n [] l = l
held_more n (h ∷ hs) l = with_node n (more_held h (node_at l n)) l

-- The log when the node's replay has ended: of the held records and one more, if there is one.
abbrev pub end_log : Line → ℕ → List Held → List PlacedRecord → List Entry
end_log l n more log = logged_from (set_of l.plan n) ((node_at l n).held ++ more) log

-- The node then.
abbrev pub ended_node : Line → ℕ → List Entry → Node
ended_node l n log = record { status = up; crashed = (node_at l n).crashed; time = high_of l n; log = log; held = []; targets = []; asked = none }

-- A channel b that enters a node n.
pub record Enters (s : List ℕ) (n b : ℕ) : Type 0 where
  pub on : AtNode s n
  pub below : b < plan_channels s
  pub to : n ≡ receiver_of (line_of s) b

-- What is to be logged, by numbers: of no more held records than a log has, whose senders a byte can name.
pub record Loggable (l : Line) (n : ℕ) (more : List Held) (log : List PlacedRecord) : Type 0 where
  pub empty : (node_at l n).log ≡ []
  pub unasked : (node_at l n).asked ≡ none
  pub few : length log ≤ log_limit
  pub numbers : (j : ℕ) → j < length log → (get_or log j no_placed).number < length ((node_at l n).held ++ more)
  pub senders : (i : ℕ) → i < length ((node_at l n).held ++ more) → (get_or ((node_at l n).held ++ more) i no_held).sender < 255

-- What is known once the channel's first message has been looked at: the receiver, the message, and what is to be held of it.
pub record Seen (s : List ℕ) (a : Arrival) : Type 0 where
  pub undamaged : Undamaged s
  pub below : a.channel < plan_channels s
  pub alive : end_down (line_of s) a.channel ≡ false
  pub again : replaying (line_of s) (receiver_of (line_of s) a.channel) ≡ true
  pub first : First (line_of s) a.channel (message_is a.message)
  pub inside : a.node < plan_nodes s
  pub to : a.node ≡ receiver_of (line_of s) a.channel
  pub is : one_more a.last ≡ to_be_held (line_of s) a.channel (message_is a.message)

-- And that neither 20 nor 21 is the answer.
pub record Open (s : List ℕ) (a : Arrival) : Type 0 where
  pub seen : Seen s a
  pub row : row_complete (line_of s) a.node a.channel ≡ false
  pub space : (not (is_empty (one_more a.last)) && leb held_limit (length (node_at (line_of s) a.node).held)) ≡ false
