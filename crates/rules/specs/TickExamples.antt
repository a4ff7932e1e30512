-- A channel that seldom takes a record holds floor times at 0; ticks raise them (2026-05), computed.
use Rattle.std.specs.Prelude.{ℕ, ◌≡◌, refl, true, false, List, [], ◌∷◌, ◌++◌, map, length, replicate}
use Rattle.plan.specs.declared.Record.{Record}
use Rattle.plan.specs.Ticks.{tick}
use Rattle.plan.specs.Plan.{plan_of}
use Rattle.plan.specs.Check.{plan_refusal}
use Rattle.rules.specs.Line.{Line, initial_line, node_at}
use Rattle.rules.specs.Trim.{floor_time}
use Rattle.rules.specs.Plain.{Receipt}
use Rattle.rules.specs.Claim.{Story, start_of, story_from, told, received_by}
use Rattle.rules.specs.Ticks.{FollowedFrames, frames_of, Trace, traced, trace_from, no_trace, last_followed, from_each_source, taken_by_all}
use Rattle.rules.specs.Marked.{feed_frame, frame, moved, replay_plan, replay_begun}
use Rattle.rules.specs.Examples.{chain}
use Rattle.rules.specs.DamagedLines.{piece}

-- Nodes 0 and 1 send to 2, which sends all to 3, and to 4 every fourth piece, if it is of material 3 and mass 7.
unfoldable pub seldom : List ℕ
seldom =
    0 ∷ 65 ∷ 2 ∷ 5 ∷ 4 ∷ (replicate 20 0
    ++ 0 ∷ 2 ∷ 255 ∷ 255 ∷ 1 ∷ 0 ∷ 0 ∷ 0 ∷ 255 ∷ 255 ∷ 1 ∷ 2 ∷ 255 ∷ 255 ∷ 1 ∷ 0 ∷ 0 ∷ 0 ∷ 255 ∷ 255 ∷ 2 ∷ 3 ∷ 255 ∷ 255 ∷ 1 ∷ 0 ∷ 0 ∷ 0 ∷ 255 ∷ 255 ∷ 2 ∷ 4 ∷ 0 ∷ 8 ∷ 4 ∷ 3 ∷ 0 ∷ 7 ∷ 0 ∷ 7 ∷ [])

accepted : plan_refusal seldom ≡ 0
unfolding seldom plan_refusal
accepted = refl

-- Pieces of material 1 from both sources, all moved: node 4 has taken nothing.
unfoldable pub quiet_channel : Story
unfolding seldom plan_of initial_line told
quiet_channel = story_from (start_of (initial_line (plan_of seldom))) (feed_frame 0 1 1 ∷ feed_frame 1 2 1 ∷ (moved 0 ++ (moved 1 ++ (moved 2 ++ moved 2))))

-- A tick from each source, moved on; between them piece 4 comes, which is not moved on.
abbrev tick_frame : ℕ → List ℕ
tick_frame n = feed_frame n 0 255

abbrev unfollowed : List (List ℕ) → FollowedFrames
unfollowed fs = map (λ (f : List ℕ). (false, f)) fs

abbrev ticking_until : List (List ℕ) → FollowedFrames
ticking_until end = (true, tick_frame 0) ∷ (false, feed_frame 0 4 1) ∷ (true, tick_frame 1) ∷ unfollowed (moved 0 ++ (moved 1 ++ (moved 2 ++ (moved 2 ++ (moved 3 ++ frame 2 3 ∷ end)))))

abbrev ticking : FollowedFrames
ticking = ticking_until (frame 3 3 ∷ [])

unfoldable pub ticked : Trace
unfolding quiet_channel traced
ticked = trace_from (no_trace quiet_channel.line) ticking

-- The same without the last Take.
unfoldable pub early : Trace
unfolding quiet_channel traced
early = trace_from (no_trace quiet_channel.line) (ticking_until [])

abbrev receipt : ℕ → Record → ℕ → Receipt
receipt receiver what sender = record { receiver = receiver; what = what; sender = sender }

abbrev nodes : List ℕ
nodes = 0 ∷ 1 ∷ 2 ∷ 3 ∷ 4 ∷ []

-- Before the ticks the floor times of 0, 1 and 2 are 0, for node 4's clock holds nothing of them.
floors_before : map (floor_time quiet_channel.line) nodes ≡ 0 ∷ 0 ∷ 0 ∷ 2 ∷ 0 ∷ []
unfolding quiet_channel floor_time
floors_before = refl

premises : (ticked.crashes ≡ []) × ((from_each_source (plan_of seldom) ticked ≡ true) × (taken_by_all (plan_of seldom) ticked ≡ true))
unfolding ticked from_each_source taken_by_all
premises = (refl, (refl, refl))

not_yet : taken_by_all (plan_of seldom) early ≡ false
unfolding seldom plan_of early taken_by_all
not_yet = refl

floors_after : map (floor_time ticked.line) nodes ≡ 2 ∷ 2 ∷ 4 ∷ 4 ∷ 2 ∷ []
unfolding ticked floor_time
floors_after = refl

last_ones : map (last_followed ticked) nodes ≡ 2 ∷ 2 ∷ 4 ∷ 4 ∷ 2 ∷ []
unfolding ticked
last_ones = refl

-- So a Trim drops what it could not drop before: how long the five logs are before the ticks, Trims of all nodes tried in vain, and after the ticks and the same Trims, where piece 4 alone is left.
abbrev trims : List (List ℕ)
trims = map (frame 6) nodes

abbrev log_lengths : Line → List ℕ
log_lengths l = map (λ (n : ℕ). length (node_at l n).log) nodes

nothing_dropped : log_lengths quiet_channel.line ∷ log_lengths (story_from quiet_channel trims).line ∷ [] ≡ (1 ∷ 1 ∷ 2 ∷ 2 ∷ 0 ∷ []) ∷ (1 ∷ 1 ∷ 2 ∷ 2 ∷ 0 ∷ []) ∷ []
unfolding quiet_channel told
nothing_dropped = refl

all_but_one_dropped : log_lengths ticked.line ∷ log_lengths (story_from (start_of ticked.line) trims).line ∷ [] ≡ (3 ∷ 2 ∷ 4 ∷ 4 ∷ 2 ∷ []) ∷ (1 ∷ 0 ∷ 0 ∷ 0 ∷ 0 ∷ []) ∷ []
unfolding ticked told
all_but_one_dropped = refl

-- "Ticks are received like other records and count in the order.": what nodes 2 and 4 have received at the end.
received_there : map (λ (n : ℕ). received_by n (story_from quiet_channel (frames_of ticking)).receipts) (2 ∷ 4 ∷ []) ≡ (receipt 2 (piece 1 1) 0 ∷ receipt 2 (piece 2 1) 1 ∷ receipt 2 tick 0 ∷ receipt 2 tick 1 ∷ []) ∷ (receipt 4 tick 2 ∷ receipt 4 tick 2 ∷ []) ∷ []
unfolding quiet_channel told
received_there = refl

-- A tick on the chain, all taken; then node 2 crashes and is restored: node 2's clock no longer holds anything for node 0. So "no crash" is wanted.
unfoldable pub crashed_since : Trace
unfolding chain initial_line traced
crashed_since = trace_from (no_trace (initial_line chain)) ((true, tick_frame 0) ∷ unfollowed (moved 0 ++ (moved 1 ++ (moved 2 ++ frame 4 2 ∷ frame 5 2 ∷ []))))

one_crash : crashed_since.crashes ≡ 2 ∷ []
unfolding crashed_since
one_crash = refl

all_the_same : (from_each_source chain crashed_since ≡ true) × (taken_by_all chain crashed_since ≡ true)
unfolding chain crashed_since from_each_source taken_by_all
all_the_same = (refl, refl)

floor_gone : floor_time crashed_since.line 0 ∷ last_followed crashed_since 0 ∷ [] ≡ 0 ∷ 1 ∷ []
unfolding crashed_since floor_time
floor_gone = refl

-- Ticks fed while P9's node 2 replays: its replay ends first, and then it takes them. A crash before the ticks does no harm.
unfoldable pub ticked_in_replay : Trace
unfolding replay_begun traced
ticked_in_replay =
    trace_from (no_trace replay_begun.line) ((true, tick_frame 0) ∷ (true, tick_frame 1)
    ∷ unfollowed (moved 0 ++ (moved 0 ++ (moved 0 ++ (moved 1 ++ (moved 1 ++ (moved 2 ++ (moved 2 ++ (moved 3 ++ (moved 3 ++ (moved 3 ++ (moved 3 ++ moved 3))))))))))))

after_the_replay : (ticked_in_replay.crashes ≡ []) × ((from_each_source replay_plan ticked_in_replay ≡ true) × (taken_by_all replay_plan ticked_in_replay ≡ true))
unfolding ticked_in_replay replay_plan from_each_source taken_by_all
after_the_replay = (refl, (refl, refl))

floors_there : map (floor_time ticked_in_replay.line) nodes ≡ 3 ∷ 2 ∷ 6 ∷ 3 ∷ 5 ∷ []
unfolding ticked_in_replay floor_time
floors_there = refl

last_there : map (last_followed ticked_in_replay) nodes ≡ 3 ∷ 2 ∷ 6 ∷ 3 ∷ 5 ∷ []
unfolding ticked_in_replay
last_there = refl
