-- Lines with one thing wrong, and near misses: which conditions of "Damaged" each meets.
use Rattle.std.specs.Prelude.{ℕ, suc, ◌≡◌, refl, Bool, true, false, not, List, [], ◌∷◌, ◌++◌, map, replicate}
use Rattle.std.proofs.Math.Option.{Option, none, some}
use Rattle.plan.specs.declared.Record.{Record}
use Rattle.plan.specs.declared.Rule.TheVariants.{Keep}
use Rattle.plan.specs.declared.Channel.{Channel}
use Rattle.plan.specs.Ticks.{tick}
use Rattle.rules.specs.Line.{Origin, fed, made, Message, Entry, Held, Target, Asked, Status, replay, Node, Lane, Line, fresh_node, no_lane, node_at, lane_at, with_node, with_lane, with_steps, initial_line, only_count, accepted_steps}
use Rattle.rules.specs.Lists.{is_empty, joined, up_to}
use Rattle.rules.specs.Claim.{Story, start_of, story_from, told}
use Rattle.rules.specs.Marked.{channel, feed_frame, frame, moved as twoSteps, replay_plan, replay_begun, replay_ended}
use Rattle.rules.specs.Examples.{chain}
use Rattle.rules.specs.Damaged.{some_node, some_channel, plan_broken, misshapen, steps_past, node_past_limits, node_wrong_parent, node_time_past, node_time_zero, node_maker_wrong, log_wrong, set_wrong, past_clock, held_wrong, held_not_passed, mark_missing, mark_on_end, replay_wrong, answer_wrong, node_holds, channel_past_limits, channel_wrong_parent, channel_time_past, channel_time_zero, channel_maker_wrong, queue_wrong, marks_joined, channel_holds, low_wrong, damaged}

-- The conditions in the order in which `damaged` has them, but the sets of 2026-06 and the kept answers of 2026-07 last; `met` gives the numbers, from 1, of those that hold.
abbrev numbers_of : ℕ → List Bool → List ℕ
numbers_of k [] = []
numbers_of k (true ∷ bs) = k ∷ numbers_of (suc k) bs
numbers_of k (false ∷ bs) = numbers_of (suc k) bs

abbrev at_node : Line → (ℕ → Node → Bool) → Bool
at_node l f = some_node l (λ (n : ℕ). f n (node_at l n))

abbrev at_channel : Line → (ℕ → Lane → Bool) → Bool
at_channel l f = some_channel l (λ (b : ℕ). f b (lane_at l b))

unfoldable pub met : Line → List ℕ
unfolding plan_broken misshapen steps_past node_past_limits node_wrong_parent node_time_past node_time_zero node_maker_wrong log_wrong past_clock held_wrong held_not_passed mark_missing mark_on_end replay_wrong node_holds channel_past_limits channel_wrong_parent channel_time_past channel_time_zero channel_maker_wrong queue_wrong marks_joined channel_holds low_wrong set_wrong answer_wrong
met l =
    let p = l.plan in
    numbers_of 1 (
    plan_broken l
    ∷ misshapen l
    ∷ steps_past l
    ∷ at_node l (λ n x. node_past_limits x)
    ∷ at_node l (node_wrong_parent p)
    ∷ at_node l (λ n x. node_time_past (accepted_steps l) x)
    ∷ at_node l (λ n x. node_time_zero x)
    ∷ at_node l (node_maker_wrong p)
    ∷ at_node l (λ n x. log_wrong l.plan n x)
    ∷ some_node l (past_clock l)
    ∷ some_node l (held_wrong l)
    ∷ at_node l (held_not_passed p)
    ∷ at_node l (λ n x. mark_missing x)
    ∷ at_node l (mark_on_end p)
    ∷ some_node l (replay_wrong l)
    ∷ at_node l (λ n x. node_holds x)
    ∷ at_channel l (λ b s. channel_past_limits s)
    ∷ at_channel l (channel_wrong_parent p)
    ∷ at_channel l (λ b s. channel_time_past (accepted_steps l) s)
    ∷ at_channel l (λ b s. channel_time_zero s)
    ∷ at_channel l (channel_maker_wrong p)
    ∷ some_channel l (queue_wrong l)
    ∷ some_channel l (marks_joined l)
    ∷ some_channel l (channel_holds l)
    ∷ at_channel l (λ b s. low_wrong s)
    ∷ at_node l (set_wrong p)
    ∷ some_node l (answer_wrong l)
    ∷ [])

unfoldable pub begun : Line
unfolding replay_begun
begun = replay_begun.line

-- P9's replay ended, and a message on the channel 2 to 4; the same, node 2 crashed again instead
unfoldable pub ended : Line
unfolding replay_ended told
ended = (story_from replay_ended (frame 2 3 ∷ [])).line

unfoldable pub fallen : Line
unfolding replay_ended told
fallen = (story_from replay_ended (frame 4 2 ∷ [])).line

-- the same, and asked
unfoldable pub fallen_asked : Line
unfolding replay_ended told
fallen_asked = (story_from replay_ended (frame 4 2 ∷ frame 7 2 ∷ [])).line

-- the same plan, children 3 and 4 at times 2 and 1 of node 2, which has recovered: it replays from time 1
unfoldable pub later : Line
unfolding replay_plan initial_line told
later = (story_from (start_of (initial_line replay_plan)) (feed_frame 0 1 1 ∷ feed_frame 0 2 1 ∷ (joined (map twoSteps (0 ∷ 0 ∷ 2 ∷ 3 ∷ 2 ∷ [])) ++ frame 4 2 ∷ frame 5 2 ∷ []))).line

-- 0 to 1 to 2, 2 to 3 and 4; 0 to 1 takes materials 1 and 3, the others material 1. Node 2 replays for the message that 1 made at 1 from 0's at 2; 0's at 1 has got no time at 1.
unfoldable pub deep_begun : Story
unfolding initial_line told
deep_begun =
    story_from (start_of (initial_line (record { version = 1; rules = Keep ∷ Keep ∷ Keep ∷ Keep ∷ Keep ∷ []; channels = channel 0 1 10 ∷ channel 1 2 2 ∷ channel 2 3 2 ∷ channel 2 4 2 ∷ [] })))
    (feed_frame 0 1 3 ∷ feed_frame 0 1 1 ∷ (joined (map twoSteps (0 ∷ 0 ∷ 1 ∷ 2 ∷ [])) ++ frame 4 2 ∷ frame 5 2 ∷ []))

unfoldable pub deep : Line
unfolding deep_begun
deep = deep_begun.line

-- the chain, node 2 down
unfoldable pub chain_fallen : Line
unfolding chain initial_line told
chain_fallen = (story_from (start_of (initial_line chain)) (frame 4 2 ∷ [])).line

abbrev node : ℕ → (Node → Node) → Line → Line
node n f l = with_node n (f (node_at l n)) l

abbrev lane : ℕ → (Lane → Lane) → Line → Line
lane b f l = with_lane b (f (lane_at l b)) l

abbrev steps : ℕ → Line → Line
steps k l = with_steps (only_count k) l

abbrev pub piece : ℕ → ℕ → Record
piece k m = record { piece = k; material = m; mass = 0 }

abbrev origins : Origin → Lane → Lane
origins o s = record { mark = s.mark; taken = s.taken; heard = s.heard; queue = map (λ (m : Message). record { what = m.what; time = m.time; origin = o }) s.queue; low = s.low }

abbrev asks : ℕ → ℕ → List ℕ → Asked
asks low high entries = record { low = low; high = high; entries = entries }

abbrev logs : (Entry → Entry) → Node → Node
logs f x = record { status = x.status; crashed = x.crashed; time = x.time; log = map f x.log; held = x.held; targets = x.targets; asked = x.asked }

abbrev timed : ℕ → Node → Node
timed t x = record { status = x.status; crashed = x.crashed; time = t; log = x.log; held = x.held; targets = x.targets; asked = x.asked }

abbrev marked : Bool → Node → Node
marked b x = record { status = x.status; crashed = b; time = x.time; log = x.log; held = x.held; targets = x.targets; asked = x.asked }

abbrev holds : List Held → Node → Node
holds hs x = record { status = x.status; crashed = x.crashed; time = x.time; log = x.log; held = hs; targets = x.targets; asked = x.asked }

abbrev aims : List Target → Node → Node
aims ts x = record { status = x.status; crashed = x.crashed; time = x.time; log = x.log; held = x.held; targets = ts; asked = x.asked }

abbrev answers : (Asked → Option Asked) → Node → Node
answers f x = record { status = x.status; crashed = x.crashed; time = x.time; log = x.log; held = x.held; targets = x.targets; asked = elim x.asked [ none ↦ f (asks 0 0 (replicate 4 0)) | some a ↦ f a ] }

abbrev moved : ℕ → ℕ → Lane → Lane
moved m t s = record { mark = m; taken = t; heard = s.heard; queue = s.queue; low = s.low }

abbrev held : ℕ → ℕ → Held
held material time = record { what = piece 1 material; sender = 0; time = time; before = fed }

abbrev before : Origin → Entry → Entry
before o e = record { what = e.what; time = e.time; origin = e.origin; before = o; set = e.set }

abbrev origin : Origin → Entry → Entry
origin o e = record { what = e.what; time = e.time; origin = o; before = e.before; set = e.set }

abbrev leaving_by : ℕ → Entry → Entry
leaving_by k e = record { what = e.what; time = e.time; origin = e.origin; before = e.before; set = k }

abbrev at : ℕ → Entry → Entry
at t e = record { what = e.what; time = t; origin = e.origin; before = e.before; set = e.set }

abbrev of : Record → Entry → Entry
of r e = record { what = r; time = e.time; origin = e.origin; before = e.before; set = e.set }

abbrev with_log : List Entry → Node → Node
with_log es x = record { status = x.status; crashed = x.crashed; time = x.time; log = es; held = x.held; targets = x.targets; asked = x.asked }

abbrev standing : Status → Node → Node
standing s x = record { status = s; crashed = x.crashed; time = x.time; log = x.log; held = x.held; targets = x.targets; asked = x.asked }

abbrev queued : List Message → Lane → Lane
queued ms s = record { mark = s.mark; taken = s.taken; heard = s.heard; queue = ms; low = s.low }

abbrev hears : List ℕ → Lane → Lane
hears hs s = record { mark = s.mark; taken = s.taken; heard = hs; queue = s.queue; low = s.low }

abbrev keeps : List ℕ → Lane → Lane
keeps ks s = record { mark = s.mark; taken = s.taken; heard = s.heard; queue = s.queue; low = ks }

abbrev shaped : List Node → List Lane → Line → Line
shaped ns ls l = record { plan = l.plan; steps = l.steps; nodes = ns; lanes = ls }

abbrev own_entry : ℕ → Origin → Origin → Entry
own_entry t o b = record { what = piece 1 1; time = t; origin = o; before = b; set = 1 }

-- what node 2 took of source 0 and no channel takes of it
abbrev quiet : ℕ → Entry
quiet t = record { what = piece 1 3; time = t; origin = made 0 1; before = fed; set = 0 }

-- what node 0 of `deep` was fed and its channel does not take: no step logs it
abbrev swallowed : ℕ → Entry
swallowed t = record { what = piece 1 4; time = t; origin = fed; before = fed; set = 0 }

abbrev message : ℕ → Origin → Message
message t o = record { what = piece 1 1; time = t; origin = o }

abbrev held_of : ℕ → ℕ → Origin → Held
held_of sender t b = record { what = piece 1 1; sender = sender; time = t; before = b }

abbrev pub target : ℕ → ℕ → ℕ → Target
target t a u = record { time = t; parent = a; parent_time = u }

-- So many entries of source 0, held records of node 2 from it, messages on channel 0, targets of node 2.
abbrev long_log : ℕ → Line
long_log n = steps 1_000_000 (node 0 (timed n) (node 0 (with_log (map (λ (t : ℕ). own_entry t fed fed) (up_to 1 n))) (initial_line replay_plan)))

abbrev long_held : ℕ → Line
long_held n = steps 1_000_000 (node 2 (holds (map (held 1) (up_to 1 n))) (lane 0 (moved n n) begun))

abbrev long_queue : ℕ → Line
long_queue n = steps 1_000_000 (lane 0 (queued (map (λ (t : ℕ). message t fed) (up_to 1 n))) (lane 0 (moved n 0) (initial_line replay_plan)))

abbrev many_targets : ℕ → Line
many_targets n = steps 1_000_000 (node 2 (aims (map (λ (t : ℕ). target t 0 t) (up_to 1 n))) begun)

-- Node 3's entry of another record; node 2 of `deep` holding what it waits for, as made from something.
abbrev entry_of : Record → Line
entry_of r = node 3 (logs (of r)) ended

abbrev deep_held : Origin → Line
deep_held o = node 2 (holds (held_of 1 1 o ∷ [])) (lane 1 (hears (2 ∷ [])) (lane 1 (moved 1 1) deep))

-- A line and the conditions that it meets.
pub record Trial : Type 0 where
  pub line : Line
  pub meets : List ℕ

abbrev trial : Line → List ℕ → Trial
trial l ms = record { line = l; meets = ms }

-- A line with its plan in a version and its channels changed: without a modulus, without the greatest mass.
abbrev replanned : ℕ → (Channel → Channel) → Line → Line
replanned version f l = record { plan = record { version = version; rules = l.plan.rules; channels = map f l.plan.channels }; steps = l.steps; nodes = l.nodes; lanes = l.lanes }

abbrev undivided : Channel → Channel
undivided c = record { sender = c.sender; receiver = c.receiver; mask = c.mask; modulus = 0; remainder = 0; least = c.least; greatest = c.greatest }

abbrev lighter : Channel → Channel
lighter c = record { sender = c.sender; receiver = c.receiver; mask = c.mask; modulus = c.modulus; remainder = c.remainder; least = c.least; greatest = 65_534 }

unfoldable pub trials : List Trial
unfolding replay_plan chain initial_line begun ended fallen fallen_asked with_node with_lane
trials =
    trial begun []
    ∷ trial ended []
    ∷ trial fallen []
    ∷ trial (with_steps (replicate 4 1_000_000) begun) []
    ∷ trial (node 2 (holds (held 1 1 ∷ [])) (lane 0 (moved 1 1) begun)) []
    -- a down node's child keeps its clock
    ∷ trial (lane 2 (moved 0 2) fallen) []
    -- the line
    ∷ trial (replanned 1 undivided begun) (1 ∷ 26 ∷ [])
    -- a version that is none; a window that only version 2 can spell
    ∷ trial (replanned 3 (λ c. c) begun) (1 ∷ [])
    ∷ trial (replanned 2 (λ c. c) begun) []
    ∷ trial (replanned 1 lighter begun) (1 ∷ [])
    ∷ trial (replanned 2 lighter begun) []
    ∷ trial (lane 0 (λ (s : Lane). record { mark = s.mark; taken = s.taken; heard = 0 ∷ s.heard; queue = s.queue; low = s.low }) begun) (2 ∷ [])
    ∷ trial (steps 1_000_001 begun) (3 ∷ [])
    ∷ trial (with_steps (0 ∷ 0 ∷ 0 ∷ 1_000_001 ∷ []) begun) (3 ∷ [])
    -- a node
    ∷ trial (node 3 (logs (of (piece 1 16))) ended) (4 ∷ [])
    ∷ trial (node 3 (logs (before (made 3 1))) ended) (5 ∷ [])
    ∷ trial (node 0 (timed 100) ended) (6 ∷ [])
    ∷ trial (node 3 (logs (before (made 0 0))) ended) (7 ∷ [])
    ∷ trial (node 3 (logs (before fed)) ended) (8 ∷ [])
    ∷ trial (node 0 (timed 1) ended) (9 ∷ [])
    ∷ trial (node 3 (logs (origin (made 2 3))) ended) (10 ∷ [])
    ∷ trial (node 3 (logs (before (made 0 2))) ended) (10 ∷ [])
    ∷ trial (node 2 (holds (held 1 1 ∷ [])) begun) (10 ∷ [])
    ∷ trial (node 2 (holds (held 1 1 ∷ held 1 1 ∷ [])) (lane 0 (moved 1 1) begun)) (11 ∷ [])
    ∷ trial (node 2 (holds (held 3 1 ∷ [])) (lane 0 (moved 1 1) begun)) (12 ∷ [])
    ∷ trial (node 2 (marked false) begun) (13 ∷ [])
    ∷ trial (node 3 (marked true) (initial_line replay_plan)) (14 ∷ [])
    ∷ trial (node 2 (timed 1) begun) (15 ∷ [])
    ∷ trial (node 2 (aims []) begun) (15 ∷ [])
    ∷ trial (node 3 (aims (target 1 2 1 ∷ [])) begun) (16 ∷ [])
    ∷ trial (node 2 (timed 1) fallen) (16 ∷ [])
    -- a channel
    ∷ trial (lane 0 (λ (s : Lane). record { mark = 1; taken = 0; heard = s.heard; queue = record { what = piece 1 16; time = 1; origin = fed } ∷ []; low = s.low }) begun) (17 ∷ [])
    ∷ trial (lane 3 (origins (made 3 1)) ended) (18 ∷ [])
    ∷ trial (lane 0 (moved 100 1) ended) (19 ∷ [])
    ∷ trial (lane 3 (origins (made 0 0)) ended) (20 ∷ [])
    ∷ trial (lane 3 (origins fed) ended) (21 ∷ [])
    ∷ trial (lane 0 (moved 0 1) begun) (22 ∷ [])
    ∷ trial (lane 3 (moved 1 0) ended) (22 ∷ [])
    ∷ trial (node 1 (marked true) (node 2 (marked true) (initial_line chain))) (23 ∷ [])
    ∷ trial (lane 3 (moved 1 0) fallen) (24 ∷ [])
    ∷ trial (lane 0 (moved 0 1) fallen) (24 ∷ [])
    -- a low clock at the clock, and above it, in either layer, and of a node that is down
    ∷ trial (lane 2 (keeps (2 ∷ 1 ∷ 0 ∷ [])) ended) []
    ∷ trial (lane 2 (keeps (3 ∷ 1 ∷ 0 ∷ [])) ended) (25 ∷ [])
    ∷ trial (lane 2 (keeps (2 ∷ 2 ∷ 0 ∷ [])) ended) (25 ∷ [])
    ∷ trial (lane 0 (keeps (1 ∷ [])) fallen) (25 ∷ [])
    -- a set that is not what the plan gives: a source's, a sink's
    ∷ trial (node 0 (logs (leaving_by 1)) ended) []
    ∷ trial (node 0 (logs (leaving_by 0)) ended) (26 ∷ [])
    ∷ trial (node 0 (logs (leaving_by 3)) ended) (26 ∷ [])
    ∷ trial (node 3 (logs (leaving_by 1)) ended) (26 ∷ [])
    -- a kept answer: right, and with another low, high or entry, with too few entries, with a number behind the parents', with other targets; none, with targets; of a node that is up, of one that replays, both right and wrong
    ∷ trial fallen_asked []
    ∷ trial (node 2 (answers (λ (a : Asked). some (asks 1 a.high a.entries))) fallen_asked) (27 ∷ [])
    ∷ trial (node 2 (answers (λ (a : Asked). some (asks a.low 1 a.entries))) fallen_asked) (27 ∷ [])
    ∷ trial (node 2 (answers (λ (a : Asked). some (asks a.low a.high (0 ∷ 1 ∷ 0 ∷ 0 ∷ [])))) fallen_asked) (27 ∷ [])
    ∷ trial (node 2 (answers (λ (a : Asked). some (asks a.low a.high (0 ∷ 0 ∷ [])))) fallen_asked) (27 ∷ [])
    ∷ trial (node 2 (answers (λ (a : Asked). some (asks a.low a.high (0 ∷ 0 ∷ 1 ∷ 0 ∷ [])))) fallen_asked) (27 ∷ [])
    ∷ trial (node 2 (aims []) fallen_asked) (27 ∷ [])
    ∷ trial (node 2 (answers (λ (a : Asked). none)) fallen_asked) (16 ∷ [])
    ∷ trial (node 3 (answers (λ (a : Asked). some a)) fallen_asked) (16 ∷ [])
    ∷ trial (node 3 (answers (λ (a : Asked). some (asks 1 1 a.entries))) fallen_asked) (16 ∷ 27 ∷ [])
    ∷ trial (node 2 (answers (λ (a : Asked). some (asks 0 2 a.entries))) begun) (16 ∷ [])
    ∷ trial (node 2 (answers (λ (a : Asked). some a)) begun) (16 ∷ 27 ∷ [])
    -- times of nodes and channels past the steps; a marked sink beside a marked node
    ∷ trial (steps 1 begun) (6 ∷ 19 ∷ [])
    ∷ trial (node 3 (marked true) begun) (14 ∷ 23 ∷ [])
    ∷ []

-- Each part of a condition.
unfoldable pub parts : List Trial
unfolding replay_plan initial_line begun ended fallen later deep chain_fallen with_node with_lane
parts =
    trial later []
    ∷ trial (deep_held (made 0 2)) []
    ∷ trial chain_fallen []
    -- an entry of the low clock for the sender and each of its parents
    ∷ trial (lane 2 (keeps (0 ∷ 0 ∷ [])) ended) (2 ∷ [])
    -- a count for each console
    ∷ trial (with_steps (2 ∷ 2 ∷ 7 ∷ []) begun) (2 ∷ [])
    -- each console's count
    ∷ trial (with_steps (11 ∷ 1_000_001 ∷ 0 ∷ 0 ∷ []) begun) (3 ∷ [])
    ∷ trial (with_steps (11 ∷ 0 ∷ 1_000_001 ∷ 0 ∷ []) begun) (3 ∷ [])
    -- a node for each rule, a lane for each channel
    ∷ trial (shaped (begun.nodes ++ fresh_node ∷ []) begun.lanes begun) (2 ∷ [])
    ∷ trial (shaped begun.nodes (begun.lanes ++ no_lane ∷ []) begun) (2 ∷ [])
    -- "64 log entries a node, 8 messages on a belt, 64 held records a node, 64 targets a node": as many, and one more. Recover would not give these targets.
    ∷ trial (long_log 64) []
    ∷ trial (long_log 65) (4 ∷ [])
    ∷ trial (long_held 64) []
    ∷ trial (long_held 65) (4 ∷ [])
    ∷ trial (long_queue 8) []
    ∷ trial (long_queue 9) (17 ∷ [])
    ∷ trial (many_targets 64) (15 ∷ [])
    ∷ trial (many_targets 65) (4 ∷ 15 ∷ [])
    -- "a number is outside its limits": piece, material and mass, the greatest and one more; a held record's
    ∷ trial (entry_of (record { piece = 4_294_967_295; material = 15; mass = 65_535 })) []
    ∷ trial (entry_of (record { piece = 4_294_967_296; material = 1; mass = 0 })) (4 ∷ [])
    ∷ trial (entry_of (record { piece = 1; material = 1; mass = 65_536 })) (4 ∷ [])
    -- 2026-05: a tick; material 255 with a piece, with a mass; material 254
    ∷ trial (entry_of tick) []
    ∷ trial (entry_of (record { piece = 1; material = 255; mass = 0 })) (4 ∷ [])
    ∷ trial (entry_of (record { piece = 0; material = 255; mass = 1 })) (4 ∷ [])
    ∷ trial (entry_of (record { piece = 0; material = 254; mass = 0 })) (4 ∷ [])
    ∷ trial (node 2 (holds (record { what = piece 4_294_967_296 1; sender = 0; time = 1; before = fed } ∷ [])) (lane 0 (moved 1 1) begun)) (4 ∷ [])
    -- "or names a node that is not the right parent": an entry's sender, a held record's, what it was made from, a target's (which Recover would not give)
    ∷ trial (node 3 (logs (λ (e : Entry). origin (made 1 1) (before fed e))) ended) (5 ∷ [])
    ∷ trial (node 2 (holds (held_of 4 1 (made 2 1) ∷ [])) begun) (5 ∷ [])
    ∷ trial (deep_held (made 3 1)) (5 ∷ [])
    ∷ trial (node 2 (aims (target 2 3 1 ∷ [])) begun) (5 ∷ 15 ∷ [])
    -- "a time exceeds the accepted steps": an entry's, its sender's and what that was made from, a held record's, a target's; a message's, the clock's with the sender down
    ∷ trial (node 3 (logs (at 100)) ended) (6 ∷ 9 ∷ [])
    ∷ trial (node 3 (logs (origin (made 2 100))) ended) (6 ∷ 10 ∷ [])
    ∷ trial (node 3 (logs (before (made 0 100))) ended) (6 ∷ 10 ∷ [])
    ∷ trial (node 2 (holds (held 1 100 ∷ [])) begun) (6 ∷ 10 ∷ [])
    ∷ trial (node 2 (aims (target 100 0 1 ∷ [])) begun) (6 ∷ 15 ∷ [])
    ∷ trial (node 2 (aims (target 2 0 100 ∷ [])) begun) (6 ∷ 15 ∷ [])
    ∷ trial (lane 3 (queued (message 100 (made 0 1) ∷ [])) ended) (19 ∷ 22 ∷ [])
    ∷ trial (lane 3 (origins (made 0 100)) ended) (19 ∷ [])
    ∷ trial (lane 2 (moved 0 100) fallen) (19 ∷ [])
    ∷ trial (lane 2 (hears (100 ∷ 0 ∷ [])) ended) (19 ∷ [])
    -- "bounded by the sum of the four": 4,000,000 and one more, the sum and one more, whoever did the steps
    ∷ trial (with_steps (replicate 4 1_000_000) (node 0 (timed 4_000_000) ended)) []
    ∷ trial (with_steps (replicate 4 1_000_000) (node 0 (timed 4_000_001) ended)) (6 ∷ [])
    ∷ trial (with_steps (20 ∷ 30 ∷ 10 ∷ 40 ∷ []) (lane 0 (moved 100 1) ended)) []
    ∷ trial (with_steps (20 ∷ 30 ∷ 10 ∷ 39 ∷ []) (lane 0 (moved 100 1) ended)) (19 ∷ [])
    -- "a message's, a held record's or a named sender's time is 0"; a log entry's is where times must rise (2026-08)
    ∷ trial (node 3 (logs (at 0)) ended) (9 ∷ [])
    ∷ trial (node 3 (logs (origin (made 2 0))) ended) (7 ∷ [])
    ∷ trial (node 2 (holds (held 1 0 ∷ [])) begun) (7 ∷ 11 ∷ [])
    ∷ trial (deep_held (made 0 0)) (7 ∷ [])
    ∷ trial (lane 3 (queued (message 0 (made 0 1) ∷ [])) ended) (20 ∷ 22 ∷ [])
    -- "a made-from sender is missing where the maker is no infeed": an entry's, a held record's; "or present where it is one": a source's entry, what that was made from, and what a source's message was
    ∷ trial (node 3 (logs (λ (e : Entry). origin fed (before fed e))) ended) (8 ∷ [])
    ∷ trial (deep_held fed) (8 ∷ [])
    ∷ trial (node 0 (logs (origin (made 1 1))) ended) (5 ∷ 8 ∷ [])
    ∷ trial (node 0 (logs (before (made 1 1))) ended) (8 ∷ [])
    ∷ trial (node 2 (logs (before (made 1 1))) ended) (5 ∷ 8 ∷ [])
    -- "log times don't rise strictly"
    ∷ trial (node 0 (logs (at 1)) ended) (9 ∷ [])
    -- 2026-08: "may therefore repeat, or be 0, at such entries only": 0 and again the one before, at node 2 of a record that no channel takes; below the one before, past the node's time; of a record that a channel takes, of a sink
    ∷ trial (node 2 (with_log (quiet 0 ∷ leaving_by 3 (own_entry 2 (made 0 1) fed) ∷ quiet 2 ∷ [])) ended) []
    ∷ trial (node 2 (with_log (quiet 2 ∷ quiet 1 ∷ [])) ended) (9 ∷ [])
    ∷ trial (node 2 (with_log (quiet 3 ∷ [])) ended) (9 ∷ [])
    ∷ trial (node 2 (with_log (quiet 2 ∷ leaving_by 3 (own_entry 2 (made 0 1) fed) ∷ [])) ended) (9 ∷ [])
    ∷ trial (node 3 (λ (x : Node). with_log (x.log ++ x.log) x) ended) (9 ∷ [])
    ∷ trial (node 2 (with_log (leaving_by 3 (own_entry 0 (made 0 1) fed) ∷ [])) ended) (9 ∷ [])
    -- an empty set in a source's log is not such an entry
    ∷ trial (node 0 (with_log (swallowed 1 ∷ swallowed 2 ∷ [])) deep) []
    ∷ trial (node 0 (with_log (swallowed 0 ∷ [])) deep) (9 ∷ [])
    ∷ trial (node 0 (with_log (swallowed 1 ∷ swallowed 1 ∷ [])) deep) (9 ∷ [])
    -- "an entry's or held record's other times pass the node's clock"
    ∷ trial (deep_held (made 0 3)) (10 ∷ [])
    -- "held times of a row": two rows held in turn
    ∷ trial (node 2 (holds (held_of 0 1 fed ∷ held_of 1 1 fed ∷ held_of 0 2 fed ∷ [])) (lane 0 (moved 2 2) (lane 1 (moved 1 1) begun))) []
    ∷ trial (node 2 (holds (held_of 0 2 fed ∷ held_of 1 1 fed ∷ held_of 0 1 fed ∷ [])) (lane 0 (moved 2 2) (lane 1 (moved 1 1) begun))) (11 ∷ [])
    -- "message times don't rise strictly from above that entry": at the entry, twice one time
    ∷ trial (lane 3 (moved 2 2) ended) (22 ∷ [])
    ∷ trial (lane 3 (queued (message 2 (made 0 1) ∷ message 2 (made 0 1) ∷ [])) ended) (22 ∷ [])
    -- "a down or replaying node lacks a crash mark, an infeed or outfeed bears one"
    ∷ trial (node 2 (marked false) fallen) (13 ∷ [])
    ∷ trial (node 0 (marked true) (initial_line replay_plan)) (14 ∷ [])
    -- "what Recover would give": up; 24, one time with two inputs; fewer targets
    ∷ trial (node 2 (standing replay) (node 2 (marked true) (initial_line replay_plan))) (15 ∷ [])
    ∷ trial (node 2 (aims (target 2 0 1 ∷ target 2 1 1 ∷ [])) (lane 2 (hears (1 ∷ 1 ∷ [])) (node 3 (timed 2) (node 3 (with_log (leaving_by 0 (own_entry 1 (made 2 2) (made 0 1)) ∷ leaving_by 0 (own_entry 2 (made 2 2) (made 1 1)) ∷ [])) begun)))) (15 ∷ [])
    ∷ trial (node 2 (aims (target 2 0 1 ∷ target 3 0 2 ∷ [])) begun) (15 ∷ [])
    -- "a down node's belts or emptied parts": its log, held list and targets; on entering belts mark, message and heard times; on leaving ones a message
    ∷ trial (node 2 (with_log (leaving_by 3 (own_entry 1 (made 0 1) fed) ∷ [])) fallen) (9 ∷ 10 ∷ 16 ∷ [])
    ∷ trial (node 2 (holds (held 1 1 ∷ [])) fallen) (10 ∷ 16 ∷ [])
    ∷ trial (node 2 (aims (target 2 0 1 ∷ [])) fallen) (16 ∷ [])
    ∷ trial (lane 0 (moved 1 0) fallen) (24 ∷ [])
    ∷ trial (lane 0 (queued (message 1 fed ∷ [])) fallen) (24 ∷ [])
    ∷ trial (lane 1 (hears (1 ∷ [])) chain_fallen) (24 ∷ [])
    ∷ trial (lane 3 (queued (message 1 (made 0 1) ∷ [])) fallen) (24 ∷ [])
    -- "an up node's targets or held list"
    ∷ trial (node 2 (holds (held 1 1 ∷ [])) ended) (16 ∷ [])
    -- "a replaying node's log or leaving belts"
    ∷ trial (node 2 (with_log (leaving_by 3 (own_entry 1 (made 0 1) fed) ∷ [])) later) (16 ∷ [])
    ∷ trial (lane 3 (queued (message 2 (made 0 1) ∷ [])) (lane 3 (moved 2 0) begun)) (24 ∷ [])
    ∷ []

each_condition : map (λ (t : Trial). met t.line) trials ≡ map (λ (t : Trial). t.meets) trials
unfolding trials met
each_condition = refl

each_part : map (λ (t : Trial). met t.line) parts ≡ map (λ (t : Trial). t.meets) parts
unfolding parts met
each_part = refl

any_of_them : map (λ (t : Trial). damaged t.line) trials ≡ map (λ (t : Trial). not (is_empty t.meets)) trials
unfolding trials damaged
any_of_them = refl

any_part : map (λ (t : Trial). damaged t.line) parts ≡ map (λ (t : Trial). not (is_empty t.meets)) parts
unfolding parts damaged
any_part = refl
