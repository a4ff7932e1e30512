-- Refusals 21 and 24 of a replay, on undamaged lines that no sheet leads to, a floor that decides, and another placing than the chosen one. Each row has damaged before, the answer, damaged after, and node 2's status, time and logged times.
use Rattle.std.specs.Prelude.{ℕ, zero, suc, ◌+◌, ◌≡◌, refl, Bool, true, false, List, [], ◌∷◌, ◌++◌, map, replicate}
use Rattle.std.proofs.Math.Option as option
use Rattle.plan.specs.declared.Rule.{Rule}
use Rattle.plan.specs.declared.Rule.TheVariants.{Keep, Relabel}
use Rattle.plan.specs.Plan.{Plan}
use Rattle.rules.specs.Lists.{up_to, joined}
use Rattle.rules.specs.Line.{fed, made, Message, Entry, Held, Target, Status, up, down, replay, Node, Lane, Line, node_at, lane_at, initial_line, only_count}
use Rattle.rules.specs.Recover.{sort_targets}
use Rattle.rules.specs.Step.{step}
use Rattle.rules.specs.Damaged.{damaged}
use Rattle.rules.specs.Claim.{Story, start_of, story_from, told}
use Rattle.rules.specs.Proposed.{step_with}
use Rattle.rules.specs.Marked.{channel, feed_frame, frame, moved, log_numbers, replay_plan}
use Rattle.rules.specs.Sheet.{kept_text, decimal}
use Rattle.rules.specs.Line.{parents}
use mathlib.Core.List.{zip_with}
use Rattle.rules.specs.DamagedLines.{piece, target, met, deep_begun}

-- 0 and 1 to 2, which has a rule; 2 sends material 1 to 3, materials 1 and 2 to 4, material 2 to 5
abbrev plan : Rule → Plan
plan r = record { version = 1; rules = Keep ∷ Keep ∷ r ∷ Keep ∷ Keep ∷ Keep ∷ []; channels = channel 0 2 65535 ∷ channel 1 2 65535 ∷ channel 2 3 2 ∷ channel 2 4 6 ∷ channel 2 5 4 ∷ [] }

abbrev lane : ℕ → ℕ → List ℕ → List Message → Lane
lane m t h q = record { mark = m; taken = t; heard = h; queue = q; low = map (λ (k : ℕ). 0) (0 ∷ h) }

abbrev up_node : ℕ → List Entry → Node
up_node t es = record { status = up; crashed = false; time = t; log = es; held = []; targets = []; asked = option.none }

abbrev down_node : Node
down_node = record { status = down; crashed = true; time = 0; log = []; held = []; targets = []; asked = option.none }

abbrev replays : ℕ → List Held → List Target → Node
replays t hs ts = record { status = replay; crashed = true; time = t; log = []; held = hs; targets = ts; asked = option.none }

-- an entry of a child of 2
abbrev entry : ℕ → ℕ → ℕ → ℕ → Entry
entry t b a u = record { what = piece 1 1; time = t; origin = made 2 b; before = made a u; set = 0 }

abbrev line : Rule → List Node → List Lane → Line
line r ns ls = record { plan = plan r; steps = only_count 500; nodes = ns; lanes = ls }

-- sources that are up with nothing logged; node 2; its children
abbrev around : Node → Node → Node → Node → List Node
around b c d e = up_node 0 [] ∷ up_node 0 [] ∷ b ∷ c ∷ d ∷ e ∷ []

abbrev none : Lane
none = lane 0 0 [] []

-- one time two inputs; one input two times; complete at once; complete in one row only
abbrev same_time : Line
same_time = line Keep (around down_node (up_node 2 (entry 1 2 0 1 ∷ entry 2 2 0 2 ∷ [])) (up_node 0 []) (up_node 0 [])) (none ∷ none ∷ lane 0 2 (2 ∷ 0 ∷ []) [] ∷ lane 0 0 (0 ∷ 0 ∷ []) [] ∷ lane 0 0 (0 ∷ 0 ∷ []) [] ∷ [])

abbrev same_input : Line
same_input = line Keep (around down_node (up_node 2 (entry 1 1 0 1 ∷ entry 2 2 0 1 ∷ [])) (up_node 0 []) (up_node 0 [])) (none ∷ none ∷ lane 0 2 (1 ∷ 0 ∷ []) [] ∷ lane 0 0 (0 ∷ 0 ∷ []) [] ∷ lane 0 0 (0 ∷ 0 ∷ []) [] ∷ [])

-- the last two of three: one time two inputs; one input two times
abbrev last_two : ℕ → ℕ → Line
last_two b u = line Keep (around down_node (up_node 3 (entry 1 1 0 1 ∷ entry 2 2 0 2 ∷ entry 3 b 0 u ∷ [])) (up_node 0 []) (up_node 0 [])) (none ∷ none ∷ lane 0 3 (3 ∷ 0 ∷ []) [] ∷ lane 0 0 (0 ∷ 0 ∷ []) [] ∷ lane 0 0 (0 ∷ 0 ∷ []) [] ∷ [])

-- the same time of different parents is no conflict
abbrev two_parents : ℕ → ℕ → Line
two_parents a c = line Keep (around down_node (up_node 2 (entry 1 1 a 1 ∷ entry 2 2 c 1 ∷ [])) (up_node 0 []) (up_node 0 [])) (none ∷ none ∷ lane 0 2 (1 ∷ 1 ∷ []) [] ∷ lane 0 0 (0 ∷ 0 ∷ []) [] ∷ lane 0 0 (0 ∷ 0 ∷ []) [] ∷ [])

abbrev at_once : Line
at_once = line Keep (around down_node (up_node 1 (entry 1 2 0 3 ∷ [])) (up_node 1 (entry 1 1 0 5 ∷ [])) (up_node 0 [])) (none ∷ none ∷ lane 0 2 (3 ∷ 0 ∷ []) [] ∷ lane 0 1 (5 ∷ 0 ∷ []) [] ∷ lane 0 1 (0 ∷ 0 ∷ []) [] ∷ [])

-- a child's entry above low and no target: up at low
abbrev no_target : Line
no_target = line Keep (around down_node (up_node 1 (entry 1 1 0 3 ∷ [])) (up_node 1 (entry 1 1 0 5 ∷ [])) (up_node 0 [])) (none ∷ none ∷ lane 0 7 (3 ∷ 0 ∷ []) [] ∷ lane 0 1 (5 ∷ 0 ∷ []) [] ∷ lane 0 2 (0 ∷ 0 ∷ []) [] ∷ [])

abbrev goals : List Target
goals = target 2 0 1 ∷ []

-- node 2 replays for the target (2, 0, 1); its entry for 1; what it holds, and what comes first on the channel from 0
abbrev waits_at : ℕ → Rule → List Held → Message → Line
waits_at t r hs m = line r (around (replays 0 hs goals) (up_node 1 (entry 1 2 0 1 ∷ [])) (up_node 0 []) (up_node 0 [])) (lane 9 0 [] (m ∷ []) ∷ lane t t [] [] ∷ lane 2 2 (1 ∷ 0 ∷ []) [] ∷ lane 0 0 (0 ∷ 0 ∷ []) [] ∷ lane 0 0 (0 ∷ 0 ∷ []) [] ∷ [])

abbrev waits : Rule → List Held → Message → Line
waits = waits_at 0

abbrev message : ℕ → ℕ → Message
message material t = record { what = piece 1 material; time = t; origin = fed }

-- no placing: time 1 free before time 2 at column 1
abbrev tight : Line
tight = line Keep (around (replays 0 (record { what = piece 5 2; sender = 0; time = 1; before = fed } ∷ []) (target 1 0 2 ∷ [])) (up_node 1 (entry 1 1 0 2 ∷ [])) (up_node 0 []) (up_node 0 [])) (lane 9 1 [] (message 1 2 ∷ []) ∷ none ∷ lane 1 1 (2 ∷ 0 ∷ []) [] ∷ lane 0 0 (0 ∷ 0 ∷ []) [] ∷ lane 0 0 (0 ∷ 0 ∷ []) [] ∷ [])

-- so many targets over children 3 and 4
abbrev entries_from : ℕ → ℕ → ℕ → List Entry
entries_from zero t b = []
entries_from (suc n) t b = entry (suc t) b 0 b ∷ entries_from n (suc t) (suc b)

abbrev many : ℕ → Line
many n = line Keep (around down_node (up_node 40 (entries_from 40 0 1)) (up_node n (entries_from n 0 41)) (up_node 0 [])) (none ∷ none ∷ lane 0 100 (100 ∷ 0 ∷ []) [] ∷ lane 0 100 (100 ∷ 0 ∷ []) [] ∷ lane 0 0 (0 ∷ 0 ∷ []) [] ∷ [])

-- node 2 replaying for them
abbrev many_replaying : ℕ → Line
many_replaying n = line Keep (around (replays 0 [] (map (λ (t : ℕ). target t 0 t) (up_to 1 (40 + n)))) (up_node 40 (entries_from 40 0 1)) (up_node n (entries_from n 0 41)) (up_node 0 [])) (none ∷ none ∷ lane 100 100 (100 ∷ 0 ∷ []) [] ∷ lane 100 100 (100 ∷ 0 ∷ []) [] ∷ lane 0 0 (0 ∷ 0 ∷ []) [] ∷ [])

-- over 64 and in conflict
abbrev many_mixed : Line
many_mixed = line Keep (around down_node (up_node 40 (entries_from 40 0 1)) (up_node 25 (entries_from 24 0 41 ++ entry 25 41 0 7 ∷ [])) (up_node 0 [])) (none ∷ none ∷ lane 0 100 (100 ∷ 0 ∷ []) [] ∷ lane 0 100 (100 ∷ 0 ∷ []) [] ∷ lane 0 0 (0 ∷ 0 ∷ []) [] ∷ [])

-- node 2 holds 64 from node 1, and waits for time 70 from node 0 (and 66 from node 1)
abbrev held_from : ℕ → ℕ → List Held
held_from zero t = []
held_from (suc n) t = record { what = piece 1 1; sender = 1; time = suc t; before = fed } ∷ held_from n (suc t)

abbrev full : Rule → ℕ → Line
full r material = line r (around (replays 0 (held_from 64 0) (target 9 0 70 ∷ target 10 1 66 ∷ [])) (up_node 2 (entry 1 9 0 70 ∷ entry 2 10 1 66 ∷ [])) (up_node 0 []) (up_node 0 [])) (lane 70 0 [] (message material 4 ∷ []) ∷ lane 64 64 [] [] ∷ lane 10 10 (70 ∷ 66 ∷ []) [] ∷ lane 0 0 (0 ∷ 0 ∷ []) [] ∷ lane 0 0 (0 ∷ 0 ∷ []) [] ∷ [])

-- the same, but no target from node 0
abbrev full_other : Line
full_other = line Keep (around (replays 0 (held_from 64 0) (target 10 1 66 ∷ [])) (up_node 1 (entry 1 10 1 66 ∷ [])) (up_node 0 []) (up_node 0 [])) (lane 70 0 [] (message 1 4 ∷ []) ∷ lane 64 64 [] [] ∷ lane 10 10 (0 ∷ 66 ∷ []) [] ∷ lane 0 0 (0 ∷ 0 ∷ []) [] ∷ lane 0 0 (0 ∷ 0 ∷ []) [] ∷ [])

-- an up router with a full log
abbrev own_from : ℕ → ℕ → List Entry
own_from zero t = []
own_from (suc n) t = record { what = piece 1 1; time = suc t; origin = made 0 (suc t); before = fed; set = 3 } ∷ own_from n (suc t)

abbrev full_log : Line
full_log = line Keep (around (up_node 64 (own_from 64 0)) (up_node 0 []) (up_node 0 []) (up_node 0 [])) (lane 65 64 [] (message 3 65 ∷ []) ∷ none ∷ lane 0 0 (0 ∷ 0 ∷ []) [] ∷ lane 0 0 (0 ∷ 0 ∷ []) [] ∷ lane 0 0 (0 ∷ 0 ∷ []) [] ∷ [])

abbrev bit : Bool → ℕ
bit true = 1
bit false = 0

abbrev status_number : Status → ℕ
status_number up = 0
status_number down = 1
status_number replay = 2

unfoldable pub gives : Line → List ℕ → List ℕ
unfolding step damaged
gives l f =
    let a = step l f in
    bit (damaged l) ∷ a.number ∷ bit (damaged a.line) ∷ status_number (node_at a.line 2).status ∷ (node_at a.line 2).time ∷ map (λ (e : Entry). e.time) (node_at a.line 2).log

recover_answers : map (λ (l : Line). gives l (frame 5 2)) (same_time ∷ same_input ∷ last_two 2 3 ∷ last_two 3 2 ∷ two_parents 0 1 ∷ at_once ∷ no_target ∷ many 24 ∷ many 25 ∷ many_mixed ∷ [])
    ≡ (0 ∷ 24 ∷ 0 ∷ 1 ∷ 0 ∷ []) ∷ (0 ∷ 24 ∷ 0 ∷ 1 ∷ 0 ∷ []) ∷ (0 ∷ 24 ∷ 0 ∷ 1 ∷ 0 ∷ []) ∷ (0 ∷ 24 ∷ 0 ∷ 1 ∷ 0 ∷ []) ∷ (0 ∷ 0 ∷ 0 ∷ 2 ∷ 0 ∷ []) ∷ (0 ∷ 24 ∷ 0 ∷ 1 ∷ 0 ∷ []) ∷ (0 ∷ 0 ∷ 0 ∷ 0 ∷ 1 ∷ []) ∷ (0 ∷ 0 ∷ 0 ∷ 2 ∷ 0 ∷ []) ∷ (0 ∷ 21 ∷ 0 ∷ 1 ∷ 0 ∷ []) ∷ (0 ∷ 21 ∷ 0 ∷ 1 ∷ 0 ∷ []) ∷ []
unfolding gives
recover_answers = refl

-- "what Recover would give": of 65 targets 21, and so a line that replays for them is damaged, by their number too
past_the_targets : map met (many_replaying 24 ∷ many_replaying 25 ∷ []) ≡ [] ∷ (4 ∷ 15 ∷ []) ∷ []
unfolding met
past_the_targets = refl

-- targets are stored by B-time, then parent, then the parent's time, each once
stored_by_time : (node_at (step (two_parents 1 0) (frame 5 2)).line 2).targets ≡ target 1 1 1 ∷ target 2 0 1 ∷ []
unfolding step
stored_by_time = refl

stored_order : sort_targets [] (target 2 1 1 ∷ target 2 0 3 ∷ target 3 0 1 ∷ target 2 0 1 ∷ target 1 1 1 ∷ target 2 0 3 ∷ []) ≡ target 1 1 1 ∷ target 2 0 1 ∷ target 2 0 3 ∷ target 2 1 1 ∷ target 3 0 1 ∷ []
stored_order = refl

-- time skipped; target dropped, the same time held of another parent or not; rule keeps it from being dropped (relabel 3 to 1); no placing; held list full: 21; dropped needs no space; both by the record after the rule; 20 before 21; log full
take-answers : map (λ (l : Line). gives l (frame 3 0)) (waits Keep [] (message 1 5) ∷ waits Keep [] (message 3 1) ∷ waits_at 1 Keep (record { what = piece 4 2; sender = 1; time = 1; before = fed } ∷ []) (message 3 1) ∷ waits (Relabel 3 1) [] (message 3 1) ∷ waits (Relabel 1 1) [] (message 1 1) ∷ tight ∷ full Keep 1 ∷ full Keep 3 ∷ full (Relabel 3 1) 3 ∷ full (Relabel 1 3) 1 ∷ full_other ∷ full_log ∷ [])
    ≡ (0 ∷ 24 ∷ 0 ∷ 2 ∷ 0 ∷ []) ∷ (0 ∷ 24 ∷ 0 ∷ 2 ∷ 0 ∷ []) ∷ (0 ∷ 24 ∷ 0 ∷ 2 ∷ 0 ∷ []) ∷ (0 ∷ 0 ∷ 0 ∷ 0 ∷ 2 ∷ 2 ∷ []) ∷ (0 ∷ 0 ∷ 0 ∷ 0 ∷ 2 ∷ 2 ∷ []) ∷ (0 ∷ 24 ∷ 0 ∷ 2 ∷ 0 ∷ []) ∷ (0 ∷ 21 ∷ 0 ∷ 2 ∷ 0 ∷ []) ∷ (0 ∷ 0 ∷ 0 ∷ 2 ∷ 0 ∷ []) ∷ (0 ∷ 21 ∷ 0 ∷ 2 ∷ 0 ∷ []) ∷ (0 ∷ 0 ∷ 0 ∷ 2 ∷ 0 ∷ []) ∷ (0 ∷ 20 ∷ 0 ∷ 2 ∷ 0 ∷ []) ∷ (0 ∷ 21 ∷ 0 ∷ 0 ∷ 64 ∷ up_to 1 64) ∷ []
unfolding gives
take-answers = refl

-- A replay by frames, in which only the right floor gives the right column. Sources 0, 1 and 2 send all to 3, which sends material 1 to 4, materials 1 and 2 to 5, materials 2 and 3 to 6. Node 3 logs pieces 1, 3, 2, 4, 5 at 1 to 5; 4 takes times 3 and 5, 5 takes 1 and 3, 6 none. So pieces 1, 2 and 5 are targets; piece 3, of a row without targets, is not taken again, and column 2 stays empty; piece 4 is free: 5 and 6 take it and 4 does not, its floor is 3, its column 4.
unfoldable pub floor_story : Story
unfolding initial_line told
floor_story =
    story_from (start_of (initial_line (record { version = 1; rules = replicate 7 Keep; channels = channel 0 3 65535 ∷ channel 1 3 65535 ∷ channel 2 3 65535 ∷ channel 3 4 2 ∷ channel 3 5 6 ∷ channel 3 6 12 ∷ [] })))
    (feed_frame 0 1 2 ∷ feed_frame 0 2 1 ∷ feed_frame 2 3 3 ∷ feed_frame 1 4 2 ∷ feed_frame 1 5 1
    ∷ (joined (map moved (0 ∷ 2 ∷ 0 ∷ 1 ∷ 1 ∷ 3 ∷ 3 ∷ 4 ∷ 4 ∷ [])) ++ frame 4 3 ∷ frame 5 3 ∷ joined (map moved (0 ∷ 0 ∷ 1 ∷ 1 ∷ []))))

floor_decides : log_numbers (node_at floor_story.line 3).log ≡ 1 ∷ 1 ∷ 3 ∷ 2 ∷ 4 ∷ 4 ∷ 5 ∷ 5 ∷ []
unfolding floor_story
floor_decides = refl

-- P9's plan, with a free record before a target. Node 2 logs pieces 1, 3, 2 at 1 to 3, and 3 takes piece 2. So low is 0, high 3, and the table has piece 1, free, and piece 2 at 3. Proposed for the Take that ends the replay: the chosen columns 1, 3; 2, 3, which get yes too; 3, 3, which do not; none. What node 2 logs, times and pieces.
unfoldable pub free_story : Story
unfolding replay_plan initial_line told
free_story = story_from (start_of (initial_line replay_plan)) (feed_frame 0 1 2 ∷ feed_frame 0 2 1 ∷ feed_frame 1 3 2 ∷ (joined (map moved (0 ∷ 1 ∷ 0 ∷ 2 ∷ [])) ++ frame 4 2 ∷ frame 5 2 ∷ (moved 0 ++ frame 2 0 ∷ [])))

unfoldable pub logged_with : List ℕ → List ℕ
unfolding free_story step_with
logged_with columns = log_numbers (node_at (step_with columns free_story.line (frame 3 0)).line 2).log

a_yes_is_logged : map logged_with ((1 ∷ 3 ∷ []) ∷ (2 ∷ 3 ∷ []) ∷ (3 ∷ 3 ∷ []) ∷ [] ∷ []) ≡ (1 ∷ 1 ∷ 3 ∷ 2 ∷ []) ∷ (2 ∷ 1 ∷ 3 ∷ 2 ∷ []) ∷ (1 ∷ 1 ∷ 3 ∷ 2 ∷ []) ∷ (1 ∷ 1 ∷ 3 ∷ 2 ∷ []) ∷ []
unfolding logged_with
a_yes_is_logged = refl

-- Node 2 replays the message that 1 made at 1 from 0's at 2: its log entry keeps both.
unfoldable pub kept_story : Story
unfolding deep_begun told
kept_story = story_from deep_begun (moved 1)

before_is_kept : (node_at kept_story.line 2).log ≡ record { what = piece 1 1; time = 1; origin = made 1 1; before = made 0 2; set = 3 } ∷ []
unfolding kept_story
before_is_kept = refl

-- a crash of the replaying node
unfoldable pub again : List ℕ
unfolding step damaged
again =
    let a = step (full Keep 1) (frame 4 2) in
    a.number ∷ bit (damaged a.line) ∷ status_number (node_at a.line 2).status ∷ (node_at a.line 2).time ∷ (lane_at a.line 0).mark ∷ (lane_at a.line 1).taken ∷ (lane_at a.line 2).mark ∷ (lane_at a.line 2).taken ∷ (lane_at a.line 2).heard

replaying_node_crashes : again ≡ 0 ∷ 0 ∷ 1 ∷ 0 ∷ 0 ∷ 0 ∷ 0 ∷ 10 ∷ 70 ∷ 66 ∷ []
unfolding again
replaying_node_crashes = refl

-- P9's line with node 2 down and asked: what the sheet prints of it behind its clock. Low 0, high 2, both parents restored at 0, the target (2, 0, 1).
unfoldable pub asked_story : Story
unfolding replay_plan initial_line told
asked_story = story_from (start_of (initial_line replay_plan)) (feed_frame 0 1 1 ∷ feed_frame 0 2 2 ∷ feed_frame 1 3 2 ∷ (joined (map moved (1 ∷ 0 ∷ 0 ∷ 2 ∷ [])) ++ frame 4 2 ∷ frame 7 2 ∷ []))

asked_answers : asked_story.numbers ≡ replicate 13 0
unfolding asked_story
asked_answers = refl

-- "Q 0 2 0:0 1:0 2[0:1]"
asked_text : kept_text (parents replay_plan 2) (node_at asked_story.line 2).targets (node_at asked_story.line 2).asked ≡ 81 ∷ 32 ∷ 48 ∷ 32 ∷ 50 ∷ 32 ∷ 48 ∷ 58 ∷ 48 ∷ 32 ∷ 49 ∷ 58 ∷ 48 ∷ 32 ∷ 50 ∷ 91 ∷ 48 ∷ 58 ∷ 49 ∷ 93 ∷ 10 ∷ []
unfolding asked_story decimal parents replay_plan zip_with
asked_text = refl

-- Asked again it is accepted; committed it replays, and is neither asked nor committed again: 15. Crashed while it replays it keeps no answer: 27.
after_asked : (story_from (start_of asked_story.line) (frame 7 2 ∷ frame 8 2 ∷ frame 7 2 ∷ frame 8 2 ∷ frame 4 2 ∷ frame 8 2 ∷ [])).numbers ≡ 0 ∷ 0 ∷ 15 ∷ 15 ∷ 0 ∷ 27 ∷ []
unfolding asked_story
after_asked = refl
