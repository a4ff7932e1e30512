-- What an undamaged line is: of every node, of every channel and of every replay, the facts whose failure is a condition of Damaged.
use Prim.Native.Nat.{ℕ, suc, ◌<◌, ◌≤◌}
use mathlib.Core.Path.{◌≡◌}
use mathlib.Core.Logic.{◌≢◌}
use mathlib.Core.Option.{none, some}
use mathlib.Core.Bool.{Bool, true, false, not, ◌&&◌, ◌||◌}
use mathlib.Core.List.{List, [], ◌∷◌}
use lib.ListN.{length}
use lib.Dec.{leb, eqb}
use Rattle.plan.specs.Plan.{Plan, node_count, channel_count, channel_at, entering, is_source, is_sink}
use Rattle.plan.specs.Check.{plan_fits}
use Rattle.plan.specs.Mask.{set_of}
use Rattle.rules.specs.Lists.{is_empty, keep, all_of}
use Rattle.rules.specs.Line.{log_limit, queue_limit, held_limit, target_limit, accepted_steps, Origin, fed, made, Message, Entry, Held, Target, Status, up, down, replay, Asked, Node, Lane, Line, node_at, lane_at, parents, sender_of, receiver_of}
use Rattle.rules.specs.Recover.{low_of, targets_of, restored, conflict, row_goal, answer_of}
use Rattle.rules.specs.Replay.{passed_on}
use Rattle.rules.specs.Step.{end_down}
use Rattle.rules.specs.Damaged.{low_wrong, worked_on, may_repeat, record_past_limits, is_parent, is_fed, past_heard}
use Rattle.rules.proofs.Lists.Rising.{Rises, Within}
use Rattle.rules.proofs.Lists.Members.{In}
use Rattle.rules.proofs.Line.Consoles.{CountsFit}
use Rattle.rules.proofs.Invariant.Inv.{time_of, Shape, Enters}

abbrev pub entry_time : Entry → ℕ
entry_time e = e.time

abbrev pub held_time : Held → ℕ
held_time h = h.time

-- What something that node n made was made from, and what that input was made from.
abbrev pub OriginFits : Plan → ℕ → ℕ → Origin → Type 0
OriginFits p steps n fed = is_source p n ≡ true
OriginFits p steps n (made s t) = (is_parent p n s ≡ true) × (is_source p n ≡ false) × (0 < t) × (t ≤ steps)

abbrev pub BeforeFits : Plan → ℕ → Origin → Origin → Type 0
BeforeFits p steps fed before = is_fed before ≡ true
BeforeFits p steps (made s t) before = OriginFits p steps s before

pub record EntryFits (p : Plan) (steps n : ℕ) (e : Entry) : Type 0 where
  pub limits : record_past_limits e.what ≡ false
  pub origin : OriginFits p steps n e.origin
  pub before : BeforeFits p steps e.origin e.before

pub record MessageFits (p : Plan) (steps sender : ℕ) (m : Message) : Type 0 where
  pub limits : record_past_limits m.what ≡ false
  pub origin : OriginFits p steps sender m.origin
  pub later : 0 < m.time
  pub within : m.time ≤ steps

pub record TargetFits (p : Plan) (steps n : ℕ) (t : Target) : Type 0 where
  pub parent : is_parent p n t.parent ≡ true
  pub time : t.time ≤ steps
  pub parent_time : t.parent_time ≤ steps

-- What is empty at a node, by its status.
abbrev pub Empties : Status → Node → Type 0
Empties up x = (x.held ≡ []) × (x.targets ≡ []) × (x.asked ≡ none)
Empties down x = (x.time ≡ 0) × (x.log ≡ []) × (x.held ≡ []) × (x.asked ≡ none → x.targets ≡ [])
Empties replay x = (x.log ≡ []) × (x.asked ≡ none)

-- Log times rise, but where a record got no time of its own.
pub data LogRises (p : Plan) (n : ℕ) : ℕ → List Entry → Type 0 where
  log_none : {last : ℕ} → LogRises p n last []
  log_more : {last : ℕ} {e : Entry} {es : List Entry} → last ≤ e.time → (may_repeat p n e.what ≡ false → last < e.time) → LogRises p n e.time es → LogRises p n last (e ∷ es)

-- A node n by itself.
pub record NodeFits (p : Plan) (steps n : ℕ) (x : Node) : Type 0 where
  pub log_few : length x.log ≤ log_limit
  pub held_few : length x.held ≤ held_limit
  pub targets_few : length x.targets ≤ target_limit
  pub entries : (e : Entry) → In e (worked_on x) → EntryFits p steps n e
  pub targets : (t : Target) → In t x.targets → TargetFits p steps n t
  pub time : x.time ≤ steps
  pub rises : LogRises p n 0 x.log
  pub within : Within entry_time x.time x.log
  pub sets : (e : Entry) → In e x.log → e.set ≡ set_of p n e.what
  pub passed : (h : Held) → In h x.held → passed_on p n h.what ≡ true
  pub unmarked : x.crashed ≡ false → x.status ≡ up
  pub between : x.crashed ≡ true → (is_source p n ≡ false) × (is_sink p n ≡ false)
  pub empties : Empties x.status x

-- The clock on channel b covers an input, if it came on that channel.
abbrev pub Covers : Plan → ℕ → Lane → Origin → Origin → Type 0
Covers p b s fed before = Unit {0}
Covers p b s (made a t) before = (channel_at p b).sender ≡ a → (t ≤ s.taken) × (past_heard (parents p a) s.heard before ≡ false)

-- What is held of one sender.
abbrev pub held_from : ℕ → List Held → List Held
held_from s hs = keep (λ (h : Held). eqb h.sender s) hs

-- A node with its clock and its rows.
pub record NodeSound (l : Line) (n : ℕ) : Type 0 where
  pub fits : NodeFits l.plan (accepted_steps l) n (node_at l n)
  pub clock : (e : Entry) → In e (worked_on (node_at l n)) → (b : ℕ) → Enters l.plan n b → Covers l.plan b (lane_at l b) e.origin e.before
  pub rows : (b : ℕ) → Enters l.plan n b → Rises held_time 0 (held_from (channel_at l.plan b).sender (node_at l n).held)

-- A channel b by itself.
pub record LaneFits (p : Plan) (steps b : ℕ) (s : Lane) : Type 0 where
  pub heard_long : length s.heard ≡ length (parents p (channel_at p b).sender)
  pub low_long : length s.low ≡ suc (length (parents p (channel_at p b).sender))
  pub low_below : low_wrong s ≡ false
  pub few : length s.queue ≤ queue_limit
  pub messages : (m : Message) → In m s.queue → MessageFits p steps (channel_at p b).sender m
  pub mark : s.mark ≤ steps
  pub taken : s.taken ≤ steps
  pub heard : (t : ℕ) → In t s.heard → t ≤ steps

pub record Flows (s : Lane) : Type 0 where
  pub marked : s.taken ≤ s.mark
  pub rises : Rises time_of s.taken s.queue
  pub within : Within time_of s.mark s.queue

-- A channel with its ends.
pub record ChannelSound (l : Line) (b : ℕ) : Type 0 where
  pub fits : LaneFits l.plan (accepted_steps l) b (lane_at l b)
  pub flows : end_down l b ≡ false → Flows (lane_at l b)
  pub apart : (node_at l (sender_of l b)).crashed ≡ true → (node_at l (receiver_of l b)).crashed ≡ false
  pub stopped : end_down l b ≡ true → ((lane_at l b).mark ≡ 0) × ((lane_at l b).queue ≡ [])
  pub cleared : (node_at l (receiver_of l b)).status ≡ down → (t : ℕ) → In t ((lane_at l b).taken ∷ (lane_at l b).heard) → t ≡ 0
  pub silent : (node_at l (sender_of l b)).status ≡ replay → (lane_at l b).queue ≡ []

-- All but the replays.
pub record Standing (l : Line) : Type 0 where
  pub plan_fits_lem : plan_fits l.plan ≡ true
  pub shape : Shape l
  pub counts : CountsFit l.steps
  pub nodes : (n : ℕ) → n < node_count l.plan → NodeSound l n
  pub channels : (b : ℕ) → b < channel_count l.plan → ChannelSound l b

-- Whether every row of node n would be complete as soon as it is restored.
abbrev pub restored_complete : Line → ℕ → Bool
restored_complete l n = all_of (λ (c : ℕ). leb (row_goal (targets_of l n) (channel_at l.plan c).sender) (restored l n (channel_at l.plan c).sender)) (entering l.plan n)

-- A replaying node has what Recover gives it, and Recover leaves it replaying.
pub record Replays (l : Line) (n : ℕ) : Type 0 where
  pub time : (node_at l n).time ≡ low_of l n
  pub targets : (node_at l n).targets ≡ targets_of l n
  pub few : length (targets_of l n) ≤ target_limit
  pub agreed : conflict (targets_of l n) ≡ false
  pub some : is_empty (targets_of l n) ≡ false
  pub open_row : restored_complete l n ≡ false

-- Recover would be refused with 24: targets conflict, or there are some and every row is complete at once, with nothing held.
unfoldable pub stuck : Line → ℕ → Bool
stuck l n = conflict (targets_of l n) || (not (is_empty (targets_of l n)) && restored_complete l n)

-- A kept answer is what Recover gives, which would not be refused.
pub record Answers (l : Line) (n : ℕ) (a : Asked) : Type 0 where
  pub is : a ≡ answer_of l n
  pub targets : (node_at l n).targets ≡ targets_of l n
  pub few : length (targets_of l n) ≤ target_limit
  pub goes : stuck l n ≡ false

-- A node that is not up: what it has of its restart is what Recover gives.
pub record Stopped (l : Line) (n : ℕ) : Type 0 where
  pub replays : (node_at l n).status ≡ replay → Replays l n
  pub answers : (a : Asked) → (node_at l n).asked ≡ some a → Answers l n a

pub record Sound (l : Line) : Type 0 where
  pub standing : Standing l
  pub stopped : (n : ℕ) → n < node_count l.plan → (node_at l n).status ≢ up → Stopped l n
