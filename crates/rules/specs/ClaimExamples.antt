-- P9 in the claim's words: a run of the plain line written by hand, beside what the engine's own story of P9 says.
use Rattle.std.specs.Prelude.{ℕ, ◌≡◌, refl, Bool, true, false, List, [], ◌∷◌, ◌++◌, map}
use Rattle.plan.specs.declared.Rule.TheVariants.{Keep, Relabel}
use Rattle.plan.specs.Plan.{Plan}
use Rattle.rules.specs.Line.{Entry, Node, Line, initial_line}
use Rattle.rules.specs.Plain.{Act, feeds, takes_from, Receipt, plain_run, run_feeds, at_rest}
use Rattle.rules.specs.Claim.{Story, start_of, story_from, told, named, received_by, quiet}
use Rattle.rules.specs.Marked.{channel, feed_frame, frame, moved, replay_plan, replay_begun, replay_refused, replay_after}
use Rattle.rules.specs.DamagedLines.{piece}

abbrev receipt : ℕ → ℕ → ℕ → ℕ → Receipt
receipt receiver k material sender = record { receiver = receiver; what = piece k material; sender = sender }

-- "At rest every belt is empty.": no queue; empty ones; one with a record; one behind an empty one, and before one
at_rest_lem : map at_rest ([] ∷ ([] ∷ [] ∷ []) ∷ ((piece 1 1 ∷ []) ∷ []) ∷ ([] ∷ (piece 1 1 ∷ []) ∷ []) ∷ ((piece 1 1 ∷ []) ∷ [] ∷ []) ∷ []) ≡ true ∷ true ∷ false ∷ false ∷ false ∷ []
at_rest_lem = refl

-- "Pieces 1 (material 1) and 2 (material 2) enter at 0, piece 3 (material 2) at 1."
abbrev replay_feeds : List Act
replay_feeds = feeds 0 (piece 1 1) ∷ feeds 0 (piece 2 2) ∷ feeds 1 (piece 3 2) ∷ []

-- Node 2 takes 1, 3, 2; node 3 takes piece 1; node 4 takes all but its last.
abbrev early_takes : List Act
early_takes = takes_from 0 ∷ takes_from 1 ∷ takes_from 0 ∷ takes_from 2 ∷ takes_from 3 ∷ takes_from 3 ∷ []

unfoldable pub early : List Act
early = replay_feeds ++ early_takes

unfoldable pub whole : List Act
unfolding early
whole = early ++ takes_from 3 ∷ []

abbrev rests : List Act → Bool
rests acts = at_rest (plain_run replay_plan acts).queues

-- "A run is any list of feeds and takes, its feeds those Feeds in order."
its_feeds : run_feeds whole ≡ replay_feeds
unfolding whole
its_feeds = refl

-- before the feeds, after them, before the last take, after it
when_it_rests : map rests ([] ∷ replay_feeds ∷ early ∷ whole ∷ []) ≡ true ∷ false ∷ false ∷ true ∷ []
unfolding plain_run replay_plan early whole
when_it_rests = refl

-- "the receiver receives it with the belt's sender": each node, from 0
received_in_the_run : map (λ (n : ℕ). received_by n (plain_run replay_plan whole).received) (0 ∷ 1 ∷ 2 ∷ 3 ∷ 4 ∷ [])
    ≡ [] ∷ [] ∷ (receipt 2 1 1 0 ∷ receipt 2 3 2 1 ∷ receipt 2 2 2 0 ∷ []) ∷ (receipt 3 1 1 2 ∷ []) ∷ (receipt 4 1 1 2 ∷ receipt 4 3 2 2 ∷ receipt 4 2 2 2 ∷ []) ∷ []
unfolding plain_run replay_plan whole
received_in_the_run = refl

-- "A take on an empty belt does nothing."
empty_take : plain_run replay_plan (takes_from 2 ∷ (early ++ takes_from 2 ∷ [])) ≡ plain_run replay_plan early
unfolding plain_run replay_plan early
empty_take = refl

-- The engine's story of P9: its accepted Feeds, and the node that an accepted Crash named (2, not 4). Node 2 received pieces 3, 1, 2 before the crash, 1 in its replay, 3 and 2 after it.
fed_in_it : replay_after.fed_acts ≡ replay_feeds
unfolding replay_after
fed_in_it = refl

crashed_in_it : replay_after.crashes ≡ 2 ∷ []
unfolding replay_after
crashed_in_it = refl

named_in_it : map (λ (n : ℕ). named n replay_after.crashes) (2 ∷ 4 ∷ []) ≡ true ∷ false ∷ []
unfolding replay_after
named_in_it = refl

received_in_it : map (λ (n : ℕ). received_by n replay_after.receipts) (2 ∷ 3 ∷ 4 ∷ [])
    ≡ (receipt 2 3 2 1 ∷ receipt 2 1 1 0 ∷ receipt 2 2 2 0 ∷ receipt 2 1 1 0 ∷ receipt 2 3 2 1 ∷ receipt 2 2 2 0 ∷ []) ∷ (receipt 3 1 1 2 ∷ []) ∷ (receipt 4 1 1 2 ∷ receipt 4 3 2 2 ∷ receipt 4 2 2 2 ∷ []) ∷ []
unfolding replay_after
received_in_it = refl

-- Of the refused nothing is told: a Take that is 20 (node 2's receipts are those of before); a Feed and a Crash that are 14.
refused_take : received_by 2 replay_refused.receipts ≡ receipt 2 3 2 1 ∷ receipt 2 1 1 0 ∷ receipt 2 2 2 0 ∷ []
unfolding replay_refused
refused_take = refl

unfoldable pub refused_story : Story
unfolding replay_begun told
refused_story = story_from replay_begun (feed_frame 2 1 1 ∷ frame 4 0 ∷ [])

refused_feed : refused_story.fed_acts ≡ replay_feeds
unfolding refused_story
refused_feed = refl

refused_crash : refused_story.crashes ≡ 2 ∷ []
unfolding refused_story
refused_crash = refl

-- The line after some frames on P9's plan.
unfoldable pub after : List (List ℕ) → Line
unfolding replay_plan initial_line told
after frames = (story_from (start_of (initial_line replay_plan)) frames).line

-- "no belt has anything to send or take and no node is down or replaying": at first; something to send; to take; logged, but no belt takes it; a node down; P9's replay begun; P9's end
when_quiet : map quiet (after [] ∷ after (feed_frame 0 1 1 ∷ []) ∷ after (feed_frame 0 1 1 ∷ frame 2 0 ∷ []) ∷ after (feed_frame 0 1 3 ∷ moved 0) ∷ after (frame 4 2 ∷ []) ∷ replay_begun.line ∷ replay_after.line ∷ [])
    ≡ true ∷ false ∷ false ∷ true ∷ false ∷ false ∷ true ∷ []
unfolding quiet after replay_begun replay_after
when_quiet = refl

-- 0 makes material 2 of 1, 1 makes 3 of 2: what is fed is as it came, what is received as the sender made it, on the plain line and in the engine.
unfoldable pub relabels : Plan
relabels = record { version = 1; rules = Relabel 1 2 ∷ Relabel 2 3 ∷ Keep ∷ []; channels = channel 0 1 4 ∷ channel 1 2 8 ∷ [] }

unfoldable pub relabel_story : Story
unfolding relabels initial_line told
relabel_story = story_from (start_of (initial_line relabels)) (feed_frame 0 1 1 ∷ (moved 0 ++ moved 1))

fed_before_the_rule : relabel_story.fed_acts ≡ feeds 0 (piece 1 1) ∷ []
unfolding relabel_story
fed_before_the_rule = refl

-- Each entry's set is of the record after the rule: the channel behind it takes that one alone.
sets_after_the_rule : map (λ (x : Node). map (λ (e : Entry). e.set) x.log) relabel_story.line.nodes ≡ (1 ∷ []) ∷ (1 ∷ []) ∷ (0 ∷ []) ∷ []
unfolding relabel_story
sets_after_the_rule = refl

received_after_the_rule : relabel_story.receipts ∷ (plain_run relabels (feeds 0 (piece 1 1) ∷ takes_from 0 ∷ takes_from 1 ∷ [])).received ∷ []
    ≡ (receipt 1 1 2 0 ∷ receipt 2 1 3 1 ∷ []) ∷ (receipt 1 1 2 0 ∷ receipt 2 1 3 1 ∷ []) ∷ []
unfolding relabel_story plain_run relabels
received_after_the_rule = refl
