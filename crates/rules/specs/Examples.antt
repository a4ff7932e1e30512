-- Document 01's own examples of the numbers 1 to 7, 9 to 19 and 21, and some of ours that tell readings apart, those of 2026-01, 2026-04, 2026-05, 2026-07 and 2026-08 among them, computed. Its examples of 22 to 24 are in the placing's `Marked`, that of 8 in the state's `Examples`; P9 shows that of 20.
use Rattle.std.specs.Prelude.{ℕ, ◌≡◌, refl, List, [], ◌∷◌, ◌++◌, map, length, drop, replicate, eqb}
use Rattle.plan.specs.declared.Rule.TheVariants.{Keep}
use Rattle.plan.specs.Plan.{Plan}
use Rattle.plan.specs.Check.{plan_refusal}
use Rattle.rules.specs.Lists.{keep, joined}
use Rattle.rules.specs.Line.{fed, made, Entry, Node, Lane, Line, node_at, lane_at, with_steps, initial_line, only_count}
use Rattle.rules.specs.Frame.{console, frame_from}
use Rattle.rules.specs.Clock.{raise_heard, taken_from}
use Rattle.rules.specs.Trim.{low_after}
use Rattle.rules.specs.Plain.{Receipt}
use Rattle.rules.specs.Claim.{Story, start_of, story_from, told}
use Rattle.rules.specs.Marked.{channel, feed_frame, frame, moved, replay_plan, replay_begun, replay_after}

pub record Example : Type 0 where
  pub given : List ℕ
  pub expected : List ℕ

-- The plan 0 to 1 with one byte changed.
abbrev small_plan : ℕ → ℕ → ℕ → ℕ → ℕ → List ℕ
small_plan size version nodes kind sender = 0 ∷ size ∷ version ∷ nodes ∷ 1 ∷ kind ∷ 0 ∷ 0 ∷ 0 ∷ 0 ∷ 0 ∷ 0 ∷ 0 ∷ sender ∷ 1 ∷ 255 ∷ 255 ∷ 1 ∷ 0 ∷ []

-- "node 0 sends to 1..5"
abbrev wide_channel : ℕ → List ℕ
wide_channel receiver = 0 ∷ receiver ∷ 0 ∷ 1 ∷ 1 ∷ 0 ∷ []

abbrev wide_plan : List ℕ
wide_plan = 0 ∷ 59 ∷ 1 ∷ 6 ∷ 5 ∷ (replicate 24 0 ++ joined (map wide_channel (1 ∷ 2 ∷ 3 ∷ 4 ∷ 5 ∷ [])))

-- 0 to 1 to 2 to 3.
unfoldable pub chain : Plan
chain = record { version = 1; rules = Keep ∷ Keep ∷ Keep ∷ Keep ∷ []; channels = channel 0 1 65535 ∷ channel 1 2 65535 ∷ channel 2 3 65535 ∷ [] }

-- 0 sends materials 1 and 3 to 1, which sends material 2 to 2 and material 3 to 3.
unfoldable pub narrow : Plan
narrow = record { version = 1; rules = Keep ∷ Keep ∷ Keep ∷ Keep ∷ []; channels = channel 0 1 10 ∷ channel 1 2 4 ∷ channel 1 3 8 ∷ [] }

-- Node 2 has no channel: it is a source and a sink.
unfoldable pub apart : Plan
apart = record { version = 1; rules = Keep ∷ Keep ∷ Keep ∷ []; channels = channel 0 1 65535 ∷ [] }

-- 1 takes materials 1, 3 and 1, and 3 takes what it passes on.
abbrev narrow_frames : List (List ℕ)
narrow_frames = feed_frame 0 1 1 ∷ feed_frame 0 2 3 ∷ feed_frame 0 3 1 ∷ (moved 0 ++ moved 0 ++ moved 0 ++ moved 2)

-- A node's time, and the time and set of each of its entries.
abbrev times_and_sets : Line → ℕ → List ℕ
times_and_sets l n = (node_at l n).time ∷ joined (map (λ (e : Entry). e.time ∷ e.set ∷ []) (node_at l n).log)

-- What a list of frames does on a plan, from a number of steps of each console on; the answers, where console 0 alone has done steps; the same on the chain.
unfoldable pub story_on : Plan → List ℕ → List (List ℕ) → Story
unfolding initial_line told
story_on p counts frames = story_from (start_of (with_steps counts (initial_line p))) frames

unfoldable pub answers_on : Plan → ℕ → List (List ℕ) → List ℕ
unfolding story_on
answers_on p steps frames = (story_on p (only_count steps) frames).numbers

unfoldable pub answers : ℕ → List (List ℕ) → List ℕ
unfolding chain answers_on
answers = answers_on chain

-- The answers on the chain and the counts left, one list behind the other.
unfoldable pub counted_from : List ℕ → List (List ℕ) → List ℕ
unfolding chain story_on
counted_from counts frames =
    let s = story_on chain counts frames in
    s.numbers ++ s.line.steps

-- A Feed of version 2.
abbrev console_feed : ℕ → ℕ → ℕ → ℕ → List ℕ
console_feed c node piece material = 0 ∷ 14 ∷ 2 ∷ 1 ∷ c ∷ node ∷ 0 ∷ 0 ∷ 0 ∷ piece ∷ material ∷ 0 ∷ 0 ∷ 0 ∷ []

-- 0 to 1; 0 to 1 and to 2; 0 to 2 and to 3, 1 to 2.
abbrev pair : Plan
pair = record { version = 1; rules = Keep ∷ Keep ∷ []; channels = channel 0 1 65535 ∷ [] }

abbrev fork : Plan
fork = record { version = 1; rules = Keep ∷ Keep ∷ Keep ∷ []; channels = channel 0 1 65535 ∷ channel 0 2 65535 ∷ [] }

abbrev crossing : Plan
crossing = record { version = 1; rules = Keep ∷ Keep ∷ Keep ∷ Keep ∷ []; channels = channel 0 2 65535 ∷ channel 0 3 65535 ∷ channel 1 2 65535 ∷ [] }

-- The answers on a plan, and how many entries each node's log then has.
unfoldable pub logged_on : Plan → List (List ℕ) → List ℕ
unfolding story_on
logged_on p frames =
    let s = story_on p (only_count 0) frames in
    s.numbers ++ map (λ (x : Node). length x.log) s.line.nodes

-- An entry made from node s's message at a time, which was made from another's.
abbrev made_from : ℕ → ℕ → ℕ → ℕ → Entry
made_from s t q u = record { what = record { piece = 1; material = 1; mass = 0 }; time = 1; origin = made s t; before = made q u; set = 0 }

abbrev clock_numbers : Lane → List ℕ
clock_numbers s = s.mark ∷ s.taken ∷ s.heard

unfoldable pub example_table : List Example
unfolding plan_refusal answers answers_on counted_from logged_on story_on chain narrow apart initial_line taken_from replay_plan replay_begun replay_after told
example_table =
    record { given = map plan_refusal ((0 ∷ 5 ∷ 1 ∷ []) ∷ small_plan 19 0 2 0 0 ∷ small_plan 19 1 13 0 0 ∷ (0 ∷ 18 ∷ 1 ∷ 2 ∷ 1 ∷ replicate 13 0) ∷ small_plan 19 1 2 3 0 ∷ small_plan 19 1 2 0 1 ∷ wide_plan ∷ small_plan 19 1 2 0 0 ∷ []); expected = 1 ∷ 2 ∷ 3 ∷ 4 ∷ 5 ∷ 6 ∷ 7 ∷ 0 ∷ [] }
    -- 9, 10, 11: "`00 05 01 02`", "third byte 0", "Send of 13 bytes"
    ∷ record { given = answers 0 ((0 ∷ 5 ∷ 1 ∷ 2 ∷ []) ∷ (0 ∷ 5 ∷ 0 ∷ 2 ∷ 0 ∷ []) ∷ (0 ∷ 13 ∷ 1 ∷ 2 ∷ 0 ∷ replicate 8 0) ∷ []); expected = 9 ∷ 10 ∷ 11 ∷ [] }
    -- 9: length field 6 of 5 bytes, 5 of 6, a frame of 4 bytes that says so; 9 comes before 10
    ∷ record { given = answers 0 ((0 ∷ 6 ∷ 1 ∷ 2 ∷ 0 ∷ []) ∷ (0 ∷ 5 ∷ 1 ∷ 2 ∷ 0 ∷ 0 ∷ []) ∷ (0 ∷ 4 ∷ 1 ∷ 2 ∷ []) ∷ (0 ∷ 5 ∷ 0 ∷ 2 ∷ []) ∷ []); expected = replicate 4 9 }
    -- 10: version 3; 10 comes before 11
    ∷ record { given = answers 0 ((0 ∷ 5 ∷ 3 ∷ 2 ∷ 0 ∷ []) ∷ (0 ∷ 5 ∷ 0 ∷ 6 ∷ 0 ∷ []) ∷ []); expected = 10 ∷ 10 ∷ [] }
    -- 11: kinds 0 and 9, a Feed of 5 bytes; 11 comes before 12
    ∷ record { given = answers 0 (frame 0 0 ∷ frame 9 0 ∷ frame 1 0 ∷ []) ++ answers 1_000_000 (frame 9 0 ∷ []); expected = replicate 4 11 }
    -- 12: "one more Crash", before all that comes after it
    ∷ record { given = answers 1_000_000 (frame 4 1 ∷ frame 4 99 ∷ []); expected = 12 ∷ 12 ∷ [] }
    -- 13 to 18: "belt 24", "Crash 0", "Crash twice", "parent of a crashed node", "material 16", "empty belt"
    ∷ record { given = answers 0 (frame 2 24 ∷ frame 4 0 ∷ frame 4 2 ∷ frame 4 2 ∷ frame 4 1 ∷ feed_frame 0 1 16 ∷ frame 3 0 ∷ []); expected = 13 ∷ 14 ∷ 0 ∷ 15 ∷ 16 ∷ 17 ∷ 18 ∷ [] }
    -- 13: node 4 of 4, belt 3 of 3, and before 14 and 17; node 3 is there: 14
    ∷ record { given = answers 0 (feed_frame 4 1 1 ∷ frame 2 3 ∷ frame 3 3 ∷ frame 4 4 ∷ frame 5 4 ∷ feed_frame 9 1 16 ∷ feed_frame 3 1 1 ∷ frame 4 3 ∷ frame 5 3 ∷ []); expected = replicate 6 13 ++ replicate 3 14 }
    -- 14 before 15: Recover of an infeed, which is up; before 17: Feed to node 1
    ∷ record { given = answers 0 (frame 5 0 ∷ feed_frame 1 1 16 ∷ []); expected = 14 ∷ 14 ∷ [] }
    -- 15: "Recover of a node not down"; node 1 down: "Send, Take with an end down", the receiver and then the sender; a Feed above it is accepted
    ∷ record { given = answers 0 (frame 5 1 ∷ frame 4 1 ∷ frame 2 0 ∷ frame 3 0 ∷ frame 2 1 ∷ frame 3 1 ∷ feed_frame 0 1 1 ∷ []); expected = 15 ∷ 0 ∷ (replicate 4 15 ++ 0 ∷ []) }
    -- 2026-07: Ask and Commit are refused as Recover is (13, 14, 15), a Commit of a down node that was not asked with 27. Ask may be repeated; a node that has come back is 15; crashed again it keeps no answer: 27.
    ∷ record { given = answers 0 (frame 7 4 ∷ frame 8 4 ∷ frame 7 0 ∷ frame 8 0 ∷ frame 7 3 ∷ frame 8 3 ∷ frame 7 1 ∷ frame 8 1 ∷ frame 4 1 ∷ frame 8 1 ∷ frame 7 1 ∷ frame 7 1 ∷ frame 8 1 ∷ frame 8 1 ∷ []); expected = 13 ∷ 13 ∷ 14 ∷ 14 ∷ 14 ∷ 14 ∷ 15 ∷ 15 ∷ 0 ∷ 27 ∷ 0 ∷ 0 ∷ 0 ∷ 15 ∷ [] }
    -- back by Recover, and by Commit
    ∷ record { given = answers 0 (frame 4 1 ∷ frame 7 1 ∷ frame 5 1 ∷ frame 8 1 ∷ frame 4 1 ∷ frame 8 1 ∷ []); expected = 0 ∷ 0 ∷ 0 ∷ 15 ∷ 0 ∷ 27 ∷ [] }
    ∷ record { given = answers 0 (frame 4 1 ∷ frame 7 1 ∷ frame 8 1 ∷ frame 4 1 ∷ frame 8 1 ∷ []); expected = 0 ∷ 0 ∷ 0 ∷ 0 ∷ 27 ∷ [] }
    -- 2026-08: a Feed that no channel takes is accepted with the log full, and leaves it as it is
    ∷ record { given = answers_on narrow 0 (feed_frame 0 1 2 ∷ (replicate 65 (feed_frame 0 1 1) ++ feed_frame 0 1 2 ∷ [])); expected = replicate 65 0 ++ 21 ∷ 0 ∷ [] }
    ∷ record { given = times_and_sets (story_on narrow (only_count 0) (feed_frame 0 1 2 ∷ feed_frame 0 2 1 ∷ feed_frame 0 3 2 ∷ [])).line 0; expected = 1 ∷ 1 ∷ 1 ∷ [] }
    -- a router's Take of a record that none of its channels takes is logged at the present time with an empty set; an outfeed counts everything, and so does a node without channels
    ∷ record { given = times_and_sets (story_on narrow (only_count 0) narrow_frames).line 1; expected = 1 ∷ 0 ∷ 0 ∷ 1 ∷ 2 ∷ 1 ∷ 0 ∷ [] }
    ∷ record { given = times_and_sets (story_on narrow (only_count 0) narrow_frames).line 3; expected = 1 ∷ 1 ∷ 0 ∷ [] }
    ∷ record { given = times_and_sets (story_on apart (only_count 0) (feed_frame 2 1 1 ∷ [])).line 2; expected = 1 ∷ 1 ∷ 0 ∷ [] }
    ∷ record { given = answers_on apart 0 (replicate 65 (feed_frame 2 1 1)); expected = replicate 64 0 ++ 21 ∷ [] }
    -- 26, of 2026-04: 13 before it; a Trim while a node is down, asked or not, whichever node it names; none is down
    ∷ record { given = answers 0 (frame 6 4 ∷ frame 6 0 ∷ frame 4 1 ∷ frame 6 4 ∷ frame 6 0 ∷ frame 6 1 ∷ frame 7 1 ∷ frame 6 2 ∷ frame 8 1 ∷ frame 6 2 ∷ []); expected = 13 ∷ 0 ∷ 0 ∷ 13 ∷ 26 ∷ 26 ∷ 0 ∷ 26 ∷ 0 ∷ 0 ∷ [] }
    -- 18: a replaying node has nothing to send
    ∷ record { given = (story_from (start_of replay_begun.line) (frame 2 2 ∷ frame 2 3 ∷ [])).numbers; expected = 18 ∷ 18 ∷ [] }
    -- 19: "ninth Send"; a full belt with nothing more to send is 18
    ∷ record { given = answers 0 (replicate 9 (feed_frame 0 1 1) ++ replicate 9 (frame 2 0)); expected = replicate 17 0 ++ 19 ∷ [] }
    ∷ record { given = answers 0 (replicate 8 (feed_frame 0 1 1) ++ replicate 9 (frame 2 0)); expected = replicate 16 0 ++ 18 ∷ [] }
    -- 21: "65th Feed"
    ∷ record { given = answers 0 (replicate 65 (feed_frame 0 1 1)); expected = replicate 64 0 ++ 21 ∷ [] }
    -- 2026-05, 17: a tick is accepted; material 255 with a piece, material 254 without
    ∷ record { given = answers 0 (feed_frame 0 0 255 ∷ feed_frame 0 1 255 ∷ feed_frame 0 0 254 ∷ []); expected = 0 ∷ 17 ∷ 17 ∷ [] }
    -- 17 before 21
    ∷ record { given = answers 0 (replicate 64 (feed_frame 0 1 1) ++ feed_frame 0 1 16 ∷ []); expected = replicate 64 0 ++ 17 ∷ [] }
    -- node 2 has 64 log entries: a Send to it and its Crash need no space, a Take does
    ∷ record { given = answers_on replay_plan 0 (replicate 64 (feed_frame 0 1 3) ++ (joined (replicate 64 (moved 0)) ++ feed_frame 1 1 3 ∷ frame 2 1 ∷ frame 3 1 ∷ frame 4 2 ∷ [])); expected = replicate 194 0 ++ 21 ∷ 0 ∷ [] }
    -- "accepted steps": P9 has 25 answers 0, all of version 1, so of console 0
    ∷ record { given = length (keep (eqb 0) replay_after.numbers) ∷ replay_after.line.steps; expected = 25 ∷ 25 ∷ 0 ∷ 0 ∷ 0 ∷ [] }
    -- 2026-01, 11: a version 2 frame of 5 bytes, a Feed of 13, kind 9; a version 1 frame of 6 bytes, a Feed of 14; 11 comes before 25
    ∷ record {
      given = answers 0 ((0 ∷ 5 ∷ 2 ∷ 2 ∷ 0 ∷ []) ∷ (0 ∷ 13 ∷ 2 ∷ 1 ∷ 0 ∷ replicate 8 0) ∷ frame_from (console 0) 9 0 ∷ (0 ∷ 6 ∷ 1 ∷ 2 ∷ 0 ∷ 0 ∷ []) ∷ (0 ∷ 14 ∷ 1 ∷ 1 ∷ 0 ∷ replicate 9 0) ∷ (0 ∷ 5 ∷ 2 ∷ 2 ∷ 9 ∷ []) ∷ []);
      expected = replicate 6 11;
    }
    -- 25: "a console above 3", before 13 and 17; console 3 gets as far as 13; in version 1 the fifth byte is no console
    ∷ record { given = answers 1_000_000 (frame_from (console 4) 4 1 ∷ frame_from (console 255) 4 99 ∷ console_feed 4 9 1 16 ∷ frame_from (console 3) 4 99 ∷ []) ++ answers 0 (frame 4 99 ∷ []); expected = 25 ∷ 25 ∷ 25 ∷ 13 ∷ 13 ∷ [] }
    -- "refusal 12 looks only at the caller's": console 1's steps are used up, then console 0's, in either version; an accepted step raises the caller's count alone
    ∷ record {
      given = counted_from (999_999 ∷ 1_000_000 ∷ 0 ∷ 7 ∷ []) (frame_from (console 1) 4 2 ∷ console_feed 3 0 1 1 ∷ feed_frame 0 1 1 ∷ feed_frame 0 1 1 ∷ frame_from (console 0) 2 0 ∷ frame_from (console 2) 2 0 ∷ frame_from (console 3) 4 0 ∷ []);
      expected = 12 ∷ 0 ∷ 0 ∷ 12 ∷ 12 ∷ 0 ∷ 14 ∷ 1_000_000 ∷ 1_000_000 ∷ 1 ∷ 8 ∷ [];
    }
    -- a clock entry is raised: the greatest time heard stays
    ∷ record { given = raise_heard (0 ∷ 1 ∷ []) (5 ∷ 2 ∷ []) (made 0 3); expected = 5 ∷ 2 ∷ [] }
    ∷ record { given = raise_heard (0 ∷ 1 ∷ []) (5 ∷ 2 ∷ []) (made 1 3); expected = 5 ∷ 3 ∷ [] }
    -- so is the entry for the sender; a Take leaves the mark
    ∷ record { given = clock_numbers (taken_from [] (record { what = record { piece = 1; material = 1; mass = 0 }; time = 1; origin = fed }) [] (record { mark = 5; taken = 3; heard = []; queue = []; low = [] })); expected = 5 ∷ 3 ∷ [] }
    -- "removes the belt's first message": pieces 1 and 2 go on it, 1 is taken
    ∷ record { given = map (λ (r : Receipt). r.what.piece) (story_from (start_of (initial_line chain)) (feed_frame 0 1 1 ∷ feed_frame 0 2 1 ∷ frame 2 0 ∷ frame 2 0 ∷ frame 3 0 ∷ [])).receipts; expected = 1 ∷ [] }
    -- 2026-04: what every clock has heard of goes, at a source, routers and a sink; a Trim that drops nothing is accepted too
    ∷ record { given = logged_on chain (feed_frame 0 1 1 ∷ moved 0 ++ moved 1 ++ moved 2 ++ map (frame 6) (0 ∷ 1 ∷ 2 ∷ 3 ∷ 3 ∷ [])); expected = replicate 12 0 ++ replicate 4 0 }
    -- node 3 has not heard of it, so the floor times of nodes 1 and 2 are 0
    ∷ record { given = logged_on chain (feed_frame 0 1 1 ∷ moved 0 ++ moved 1 ++ map (frame 6) (0 ∷ 1 ∷ 2 ∷ [])); expected = replicate 8 0 ++ 0 ∷ 1 ∷ 1 ∷ 0 ∷ [] }
    -- node 2 has not taken it, so the floor time of its sender is 0, though its own time is no later than node 1's; then node 2 takes it
    ∷ record { given = logged_on fork (feed_frame 0 1 1 ∷ moved 0 ++ frame 6 1 ∷ []) ++ logged_on fork (feed_frame 0 1 1 ∷ moved 0 ++ moved 1 ++ frame 6 1 ∷ []); expected = replicate 4 0 ++ 1 ∷ 1 ∷ 0 ∷ (replicate 6 0 ++ 1 ∷ 0 ∷ 1 ∷ []) }
    -- "the longest leading run": node 3 lags behind node 0, so node 2's first entry stays, and the second, which node 1 sent, behind it
    ∷ record { given = logged_on crossing (feed_frame 0 1 1 ∷ feed_frame 1 2 1 ∷ moved 0 ++ moved 2 ++ frame 6 2 ∷ []) ++ logged_on crossing (feed_frame 0 1 1 ∷ feed_frame 1 2 1 ∷ moved 0 ++ moved 2 ++ moved 1 ++ frame 6 2 ∷ []); expected = replicate 7 0 ++ 1 ∷ 1 ∷ 2 ∷ 0 ∷ (replicate 9 0 ++ 1 ∷ 1 ∷ 0 ∷ 1 ∷ []) }
    -- 26: node 1 is down, whichever node is named, in either version; 13 comes before it; no other kind is asked; up again
    ∷ record { given = answers 0 (frame 4 1 ∷ map (frame 6) (0 ∷ 1 ∷ 3 ∷ 4 ∷ []) ++ frame_from (console 2) 6 2 ∷ feed_frame 0 1 1 ∷ frame 5 1 ∷ frame 6 1 ∷ []); expected = 0 ∷ 26 ∷ 26 ∷ 26 ∷ 13 ∷ 26 ∷ 0 ∷ 0 ∷ 0 ∷ [] }
    -- 26: a node replays
    ∷ record { given = (story_from (start_of replay_begun.line) (frame 6 0 ∷ frame 6 2 ∷ [])).numbers; expected = 26 ∷ 26 ∷ [] }
    -- "The freed entries are used by later steps": a 65th Feed, and a 65th Take
    ∷ record { given = answers_on pair 0 (joined (replicate 64 (feed_frame 0 1 1 ∷ moved 0)) ++ feed_frame 0 1 1 ∷ frame 6 0 ∷ feed_frame 0 1 1 ∷ moved 0 ++ frame 6 1 ∷ frame 3 0 ∷ []); expected = replicate 192 0 ++ 21 ∷ 0 ∷ 0 ∷ 0 ∷ 21 ∷ 0 ∷ 0 ∷ [] }
    -- "Dropped entries are kept as the node's low clock": what node 2's entry was made from, and what that was made from
    ∷ record { given = (lane_at (story_on chain (only_count 0) (feed_frame 0 1 1 ∷ moved 0 ++ moved 1 ++ moved 2 ++ frame 6 2 ∷ [])).line 1).low; expected = 1 ∷ 1 ∷ [] }
    -- "the greatest time for each parent and, through it, for each of its parents": not the last, and nothing of another sender's
    ∷ record { given = joined (map (λ (s : ℕ). low_after (7 ∷ 8 ∷ []) s (made_from 2 3 8 4 ∷ made_from 2 1 8 2 ∷ made_from 5 9 7 9 ∷ []) (1 ∷ 6 ∷ 0 ∷ [])) (2 ∷ 5 ∷ [])); expected = 3 ∷ 6 ∷ 4 ∷ 9 ∷ 9 ∷ 0 ∷ [] }
    -- "Recover starts the restored entries from the children's low clocks": node 3's log is empty, and node 2 asks for nothing again; "Crash empties it"
    ∷ record { given = joined (map (λ (s : Lane). clock_numbers s ++ s.low) (drop 1 (story_on chain (only_count 0) (feed_frame 0 1 1 ∷ moved 0 ++ moved 1 ++ moved 2 ++ frame 6 2 ∷ frame 6 3 ∷ frame 4 2 ∷ frame 5 2 ∷ [])).line.lanes)); expected = 1 ∷ 1 ∷ 0 ∷ 0 ∷ 0 ∷ 1 ∷ 1 ∷ 1 ∷ 1 ∷ 1 ∷ [] }
    ∷ []

pub examples_hold : map (λ (r : Example). r.given) example_table ≡ map (λ (r : Example). r.expected) example_table
unfolding example_table
examples_hold = refl
