-- The state check item by item: one pass over each list, and lookups among the at most four channels that enter a node. Code goes by this; the outer contract does not rest on believing it, since `line_items` of the proofs says that it is the negation of `damaged`.
use Rattle.std.specs.Prelude.{ℕ, suc, ◌^◌, Bool, true, false, not, ◌&&◌, ◌||◌, List, [], ◌∷◌, length, get_or, set, replicate, leb, ltb, eqb}
use Rattle.std.proofs.Math.Option.{Option, none, some}
use Rattle.plan.specs.declared.Record.{Record}
use Rattle.plan.specs.Record.{known_record}
use Rattle.plan.specs.Plan.{Plan, node_count, channel_count, channel_at, entering, is_source, is_sink}
use Rattle.plan.specs.Mask.{set_of}
use Rattle.plan.specs.Check.{plan_fits}
use Rattle.rules.specs.Lists.{is_empty, all_of}
use Rattle.rules.specs.Line.{log_limit, queue_limit, held_limit, target_limit, step_limit, console_count, Origin, fed, made, Message, Entry, Held, Target, Asked, Node, Lane, Line, node_at, lane_at, node_numbers, channel_numbers_of, sender_of, parents, accepted_steps}
use Rattle.rules.specs.Recover.{low_of, restored, targets_of, conflict, row_goal, answer_of}
use Rattle.rules.specs.Replay.{passed_on}
use Rattle.rules.specs.Step.{end_down, replaying}
use Rattle.rules.specs.Damaged.{is_fed, mark_missing, mark_on_end, node_holds, marks_joined, channel_holds, low_wrong, same_targets, same_answer}

-- The first of some channels that node s sends on, and its place among them, counted from k.
abbrev pub from_sender : Plan → ℕ → List ℕ → Option ℕ
from_sender p s [] = none
from_sender p s (b ∷ bs) = elim (eqb (channel_at p b).sender s) [ true ↦ some b | false ↦ from_sender p s bs ]

abbrev pub place_from : Plan → ℕ → ℕ → List ℕ → Option ℕ
place_from p s k [] = none
place_from p s k (b ∷ bs) = elim (eqb (channel_at p b).sender s) [ true ↦ some k | false ↦ place_from p s (suc k) bs ]

abbrev pub if_found : Option ℕ → (ℕ → Bool) → Bool
if_found none f = false
if_found (some b) f = f b

abbrev pub time_right : ℕ → ℕ → Bool
time_right steps t = ltb 0 t && leb t steps

abbrev pub record_right : Record → Bool
record_right r = known_record r && ltb r.piece (2 ^ 32) && ltb r.mass (2 ^ 16)

-- What node s made something from, by its parents alone.
unfoldable pub named_right : Line → ℕ → Origin → Bool
unfolding entering is_source
named_right l s fed = is_source l.plan s
named_right l s (made q u) = time_right (accepted_steps l) u && if_found (from_sender l.plan q (entering l.plan s)) (λ (b : ℕ). true)

-- The same of an input that came on channel b from node s: it does not pass what was heard there. A clock's entries are within the steps by the channel's own test, so a time that does not pass them is not held against the steps again.
unfoldable pub before_right : Line → ℕ → ℕ → Origin → Bool
unfolding entering is_source
before_right l s b fed = is_source l.plan s
before_right l s b (made q u) = ltb 0 u && if_found (place_from l.plan q 0 (entering l.plan s)) (λ (i : ℕ). leb u (get_or (lane_at l b).heard i 0))

-- What node n made something from, and what that was made from: neither passes the node's clock.
unfoldable pub origin_right : Line → ℕ → Origin → Origin → Bool
unfolding entering is_source before_right
origin_right l n fed before = is_source l.plan n && is_fed before
origin_right l n (made s t) before = ltb 0 t && if_found (from_sender l.plan s (entering l.plan n)) (λ (b : ℕ). leb t (lane_at l b).taken && before_right l s b before)

-- Times that rise strictly, from above the last so far, and none past the top.
abbrev pub times_rise : {A : Type 0} → (A → ℕ) → ℕ → ℕ → List A → Bool
times_rise time last top [] = true
times_rise time last top (x ∷ xs) = ltb last (time x) && leb (time x) top && times_rise time (time x) top xs

-- 2026-08: a log's times rise so too, but that one may repeat at an entry with an empty set, of a node that channels both enter and leave.
unfoldable pub is_inner : Plan → ℕ → Bool
unfolding is_source is_sink
is_inner p n = not (is_source p n || is_sink p n)

abbrev pub may_follow : Bool → ℕ → ℕ → ℕ → Bool
may_follow inner last time set = ltb last time || (inner && eqb last time && eqb set 0)

abbrev pub log_rise : Bool → ℕ → ℕ → List Entry → Bool
log_rise inner last top [] = true
log_rise inner last top (e ∷ es) = may_follow inner last e.time e.set && leb e.time top && log_rise inner e.time top es

-- A log entry; its own time is tested in the pass over the log, whose top is within the steps, and its set in another.
unfoldable pub entry_right : Line → ℕ → Entry → Bool
unfolding origin_right
entry_right l n e = record_right e.what && origin_right l n e.origin e.before

-- A held record, and the pass over all of them, which keeps each row's last time so far by the parent's number. A plan has at most 12 nodes.
unfoldable pub held_right : Line → ℕ → Held → Bool
unfolding origin_right passed_on
held_right l n h = record_right h.what && origin_right l n (made h.sender h.time) h.before && passed_on l.plan n h.what

abbrev pub held_rise : List ℕ → List Held → Bool
held_rise last [] = true
held_rise last (h ∷ hs) = ltb (get_or last h.sender 0) h.time && held_rise (set last h.sender h.time) hs

unfoldable pub none_held : List ℕ
none_held = replicate 12 0

unfoldable pub target_right : Line → ℕ → Target → Bool
unfolding entering
target_right l n t = leb t.time (accepted_steps l) && leb t.parent_time (accepted_steps l) && if_found (from_sender l.plan t.parent (entering l.plan n)) (λ (b : ℕ). true)

-- A node's counts, and its status by what it holds and where it stands.
unfoldable pub counts_right : Node → Bool
counts_right x = leb (length x.log) log_limit && leb (length x.held) held_limit && leb (length x.targets) target_limit

-- The log's entries, with times that may repeat where the set is empty; the sets, in a pass of their own; both.
unfoldable pub entries_right : Line → ℕ → List Entry → Bool
unfolding entry_right is_inner
entries_right l n log = all_of (entry_right l n) log && log_rise (is_inner l.plan n) 0 (node_at l n).time log

abbrev pub set_right : Plan → ℕ → Entry → Bool
set_right p n e = eqb e.set (set_of p n e.what)

unfoldable pub log_right : Line → ℕ → List Entry → Bool
unfolding entries_right set_of
log_right l n log = entries_right l n log && all_of (set_right l.plan n) log

unfoldable pub held_all_right : Line → ℕ → List Held → Bool
unfolding held_right none_held
held_all_right l n hs = all_of (held_right l n) hs && held_rise none_held hs

unfoldable pub status_right : Plan → ℕ → Node → Bool
unfolding mark_missing mark_on_end node_holds
status_right p n x = not (mark_missing x) && not (mark_on_end p n x) && not (node_holds x)

-- A replaying node is what Recover would give: there are targets, not too many, that do not conflict and leave some row incomplete, and the node has these and low as its time.
unfoldable pub row_restored : Line → ℕ → ℕ → Bool
unfolding targets_of restored
row_restored l n c = leb (row_goal (targets_of l n) (sender_of l c)) (restored l n (sender_of l c))

unfoldable pub replay_right : Line → ℕ → Bool
unfolding entering low_of targets_of row_restored
replay_right l n =
    leb (length (targets_of l n)) target_limit && not (conflict (targets_of l n)) && not (is_empty (targets_of l n)) && not (all_of (row_restored l n) (entering l.plan n))
    && eqb (node_at l n).time (low_of l n) && same_targets (node_at l n).targets (targets_of l n)

-- 2026-07: a kept answer is what Recover would give: the targets are not too many, do not conflict and leave some row incomplete if there are any, and the answer is what is found, the node's own targets beside it.
unfoldable pub answer_right : Line → ℕ → Asked → Bool
unfolding entering targets_of row_restored answer_of
answer_right l n a =
    leb (length (targets_of l n)) target_limit && not (not (is_empty (targets_of l n)) && (conflict (targets_of l n) || all_of (row_restored l n) (entering l.plan n)))
    && (same_answer a (answer_of l n) && same_targets (node_at l n).targets (targets_of l n))

abbrev pub kept_right : Line → ℕ → Option Asked → Bool
kept_right l n none = true
kept_right l n (some a) = answer_right l n a

-- A node but for what its restart asks; what a replay or a kept answer asks; both.
unfoldable pub node_plain : Line → ℕ → Bool
unfolding counts_right log_right held_all_right target_right status_right
node_plain l n =
    let x = node_at l n in
    counts_right x && leb x.time (accepted_steps l) && log_right l n x.log && held_all_right l n x.held && all_of (target_right l n) x.targets && status_right l.plan n x

unfoldable pub restart_right : Line → ℕ → Bool
unfolding replay_right answer_right
restart_right l n = (not (replaying l n) || replay_right l n) && kept_right l n (node_at l n).asked

unfoldable pub node_right : Line → ℕ → Bool
unfolding node_plain restart_right
node_right l n = node_plain l n && restart_right l n

-- A message; its own time is tested in the pass over the queue, which is empty where an end is down. Then the channel.
unfoldable pub message_right : Line → ℕ → Message → Bool
unfolding named_right
message_right l b m = record_right m.what && named_right l (sender_of l b) m.origin

unfoldable pub clock_right : ℕ → Lane → Bool
clock_right steps s = leb s.mark steps && leb s.taken steps && all_of (λ (t : ℕ). leb t steps) s.heard

unfoldable pub queue_right : Line → ℕ → List Message → Bool
unfolding message_right
queue_right l b ms = leb (length ms) queue_limit && all_of (message_right l b) ms && (end_down l b || (leb (lane_at l b).taken (lane_at l b).mark && times_rise (λ (m : Message). m.time) (lane_at l b).taken (lane_at l b).mark ms))

unfoldable pub channel_right : Line → ℕ → Bool
unfolding clock_right queue_right marks_joined channel_holds low_wrong
channel_right l b =
    let s = lane_at l b in
    clock_right (accepted_steps l) s && queue_right l b s.queue && not (marks_joined l b) && not (channel_holds l b) && not (low_wrong s)

-- The line.
unfoldable pub shape_right : Line → Bool
unfolding parents
shape_right l =
    eqb (length l.steps) console_count && eqb (length l.nodes) (node_count l.plan) && eqb (length l.lanes) (channel_count l.plan)
    && all_of (λ (b : ℕ). eqb (length (lane_at l b).heard) (length (parents l.plan (sender_of l b)))) (channel_numbers_of l)
    && all_of (λ (b : ℕ). eqb (length (lane_at l b).low) (suc (length (parents l.plan (sender_of l b))))) (channel_numbers_of l)

-- The steps of each console.
abbrev pub steps_right : List ℕ → Bool
steps_right counts = all_of (λ (k : ℕ). leb k step_limit) counts

unfoldable pub line_right : Line → Bool
unfolding plan_fits shape_right node_right channel_right
line_right l = plan_fits l.plan && shape_right l && steps_right l.steps && all_of (node_right l) (node_numbers l) && all_of (channel_right l) (channel_numbers_of l)
