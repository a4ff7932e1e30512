-- Ticks for quiet belts (document 02, 2026-05): "After a tick from each infeed, and every message made from it at once or in turn, has been taken by all receivers, with no crash since the first of these ticks was fed, every floor time is at least that of its node's last such message."
use Rattle.std.specs.Prelude.{ℕ, suc, ◌<◌, ◌≤◌, ◌≡◌, Bool, true, false, not, ◌&&◌, ◌||◌, List, [], ◌∷◌, ◌++◌, map, eqb}
use Rattle.plan.specs.Record.{record_layout, is_tick}
use Rattle.plan.specs.Plan.{Plan, plan_of, node_count, leaving, is_source}
use Rattle.plan.specs.Check.{plan_refusal}
use Rattle.plan.specs.Lawful.{Each, Bytes}
use Rattle.rules.specs.Lists.{keep_one, keep, all_of, any_of, greatest_of, up_to}
use Rattle.rules.specs.Line.{Origin, fed, made, Message, Line, initial_line, replay, node_at, lane_at, sender_of, receiver_of, is_up}
use Rattle.rules.specs.Frame.{Frame, feed, send, take, crash, recover, trim, ask, commit, frame_of}
use Rattle.rules.specs.Trim.{floor_time}
use Rattle.rules.specs.Step.{step}
use Rattle.rules.specs.Claim.{crash_of, if_zero, start_of, story_from}

-- A Feed of a tick.
abbrev pub feeds_tick : Frame → Bool
feeds_tick (feed n r) = is_tick (record_layout.read r)
feeds_tick (send b) = false
feeds_tick (take b) = false
feeds_tick (crash n) = false
feeds_tick (recover n) = false
feeds_tick (trim n) = false
feeds_tick (ask n) = false
feeds_tick (commit n) = false

-- "such message": one of "these ticks", or a message made from one of them, "at once or in turn". Its node, its time there, and what it was made from.
pub record FollowedMessage : Type 0 where
  pub node : ℕ
  pub time : ℕ
  pub origin : Origin

-- One that was taken: on which channel, and its time.
pub record FollowedTake : Type 0 where
  pub channel : ℕ
  pub time : ℕ

-- A run's frames, each with whether it is one of "these ticks".
abbrev pub FollowedFrames : Type 0
FollowedFrames = List (Bool × List ℕ)

abbrev pub frames_of : FollowedFrames → List (List ℕ)
frames_of [] = []
frames_of ((follow, f) ∷ rest) = f ∷ frames_of rest

-- What a run leaves: the line, the messages that are followed, those of them that were taken, and the nodes that crashed.
pub record Trace : Type 0 where
  pub line : Line
  pub followed : List FollowedMessage
  pub took : List FollowedTake
  pub crashes : List ℕ

abbrev pub is_followed : List FollowedMessage → ℕ → ℕ → Bool
is_followed ms n t = any_of (λ (m : FollowedMessage). eqb m.node n && eqb m.time t) ms

-- The message that a node makes next of a tick, which always gets a time of its own (2026-08).
abbrev pub next_of : Line → ℕ → Origin → FollowedMessage
next_of l n o = record { node = n; time = suc (node_at l n).time; origin = o }

-- What an up receiver makes of one that it takes. (A replaying node makes nothing at once; it takes none of them either, see `NoneInReplay`.)
abbrev pub made_of : Line → ℕ → List FollowedMessage → List Message → List FollowedMessage
made_of l b ms [] = []
made_of l b ms (m ∷ rest) = keep_one (is_followed ms (sender_of l b) m.time && is_up (node_at l (receiver_of l b)).status) (next_of l (receiver_of l b) (made (sender_of l b) m.time)) []

-- Those that an accepted frame makes: a tick that is to be followed, or what a Take makes.
abbrev pub new_followed : Bool → Line → List FollowedMessage → Frame → List FollowedMessage
new_followed follow l ms (feed n r) = keep_one (follow && feeds_tick (feed n r)) (next_of l n fed) []
new_followed follow l ms (send b) = []
new_followed follow l ms (take b) = made_of l b ms (lane_at l b).queue
new_followed follow l ms (crash n) = []
new_followed follow l ms (recover n) = []
new_followed follow l ms (trim n) = []
new_followed follow l ms (ask n) = []
new_followed follow l ms (commit n) = []

-- "has been taken": each Take answered 0 takes the first message on the channel in the state passed.
abbrev pub took_first : Line → ℕ → List FollowedMessage → List Message → List FollowedTake
took_first l b ms [] = []
took_first l b ms (m ∷ rest) = keep_one (is_followed ms (sender_of l b) m.time) (record { channel = b; time = m.time }) []

abbrev pub new_took : Line → List FollowedMessage → Frame → List FollowedTake
new_took l ms (feed n r) = []
new_took l ms (send b) = []
new_took l ms (take b) = took_first l b ms (lane_at l b).queue
new_took l ms (crash n) = []
new_took l ms (recover n) = []
new_took l ms (trim n) = []
new_took l ms (ask n) = []
new_took l ms (commit n) = []

-- One frame more, by its answer and the line that it left.
abbrev pub onward : Trace → Bool × List ℕ → ℕ → Line → Trace
onward t (follow, f) number left =
    record {
      line = left;
      followed = t.followed ++ if_zero number (new_followed follow t.line t.followed (frame_of f));
      took = t.took ++ if_zero number (new_took t.line t.followed (frame_of f));
      crashes = t.crashes ++ if_zero number (crash_of (frame_of f));
    }

unfoldable pub traced : Trace → Bool × List ℕ → Trace
unfolding step frame_of record_layout
traced t (follow, f) = let a = step t.line f in onward t (follow, f) a.number a.line

abbrev pub trace_from : Trace → FollowedFrames → Trace
trace_from t [] = t
trace_from t (f ∷ fs) = trace_from (traced t f) fs

abbrev pub no_trace : Line → Trace
no_trace l = record { line = l; followed = []; took = []; crashes = [] }

-- Whether a node has made one; and the time of "its node's last", times rising from one message to the next.
abbrev pub some_followed : Trace → ℕ → Bool
some_followed t n = any_of (λ (m : FollowedMessage). eqb m.node n) t.followed

abbrev pub last_followed : Trace → ℕ → ℕ
last_followed t n = greatest_of (map (λ (m : FollowedMessage). m.time) (keep (λ (m : FollowedMessage). eqb m.node n) t.followed))

-- "a tick from each infeed": what is followed at a source is a tick that was fed to it.
unfoldable pub from_each_source : Plan → Trace → Bool
unfolding is_source
from_each_source p t = all_of (λ (n : ℕ). not (is_source p n) || some_followed t n) (up_to 0 (node_count p))

-- "has been taken by all receivers": on every channel that leaves its node, each of which takes a tick.
unfoldable pub taken_by_all : Plan → Trace → Bool
unfolding leaving
taken_by_all p t = all_of (λ (m : FollowedMessage). all_of (λ (b : ℕ). any_of (λ (o : FollowedTake). eqb o.channel b && eqb o.time m.time) t.took) (leaving p m.node)) t.followed

-- The promise at a trace's end. That every node has made one is part of it.
abbrev pub FloorsReached : Plan → Trace → Type 0
FloorsReached p t =
    t.crashes ≡ [] → from_each_source p t ≡ true → taken_by_all p t ≡ true
    → (n : ℕ) → n < node_count p → (some_followed t n ≡ true) × (last_followed t n ≤ floor_time t.line n)

-- Of every accepted plan: after any frames, crashes among them, and then any frames some of which are followed. Plan and frames are of bytes, as all that can be lent is.
abbrev pub FloorsRise : Type 0
FloorsRise =
    (plan : List ℕ) (before : List (List ℕ)) (frames : FollowedFrames) → Bytes plan → Each Bytes before → Each Bytes (frames_of frames) → plan_refusal plan ≡ 0
    → FloorsReached (plan_of plan) (trace_from (no_trace (story_from (start_of (initial_line (plan_of plan))) before).line) frames)

-- A frame that is a replaying node's Take takes none of them.
abbrev pub NoneTaken : Trace → Frame → Type 0
NoneTaken t f = (b : ℕ) → f ≡ take b → (node_at t.line (receiver_of t.line b)).status ≡ replay → new_took t.line t.followed f ≡ []

-- So a trace misses nothing that the end of a replay makes: of the next accepted frame, whatever it is.
abbrev pub NoneInReplay : Type 0
NoneInReplay =
    (plan : List ℕ) (before : List (List ℕ)) (frames : FollowedFrames) → Bytes plan → Each Bytes before → Each Bytes (frames_of frames) → plan_refusal plan ≡ 0
    → (let t = trace_from (no_trace (story_from (start_of (initial_line (plan_of plan))) before).line) frames in t.crashes ≡ [] → (f : List ℕ) → (step t.line f).number ≡ 0 → NoneTaken t (frame_of f))
