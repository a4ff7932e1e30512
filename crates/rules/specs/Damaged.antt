-- What makes a line damaged (document 01, "Damaged"; document 02, 2026-04 to 2026-08): conditions of the line, of a node n and of a channel b, each by itself. What a line cannot spell is the layout's matter: unused bytes, counts past their limits, status and crash mark bytes that no node has, and in the stored plan its length and rule bytes that no rule has.
use Rattle.std.specs.Prelude.{ℕ, suc, ◌^◌, Bool, true, false, cond, not, ◌&&◌, ◌||◌, List, [], ◌∷◌, ◌++◌, map, length, leb, ltb, eqb}
use Rattle.std.proofs.Math.Option.{Option, none, some}
use Rattle.plan.specs.declared.Record.{Record}
use Rattle.plan.specs.Record.{known_record}
use Rattle.plan.specs.Plan.{Plan, node_count, channel_count, channel_at, entering, is_source, is_sink}
use Rattle.plan.specs.Check.{plan_fits}
use Rattle.plan.specs.Mask.{set_of}
use Rattle.rules.specs.Lists.{is_empty, all_of, any_of, joined}
use Rattle.rules.specs.Line.{log_limit, queue_limit, held_limit, target_limit, step_limit, console_count, Origin, fed, made, Message, Entry, Held, Target, Status, up, down, replay, Asked, Node, Lane, Line, node_at, lane_at, node_numbers, channel_numbers_of, sender_of, receiver_of, parents, is_up, is_replay, accepted_steps}
use Rattle.rules.specs.Recover.{same_target, answer_of, targets_of}
use Rattle.rules.specs.Replay.{passed_on, held_entry, timed, held_by_row}
use Rattle.rules.specs.Step.{is_nothing, end_down, node_down, replaying, recover_gives}

-- Something holds of a node, or of a channel.
abbrev pub some_node : Line → (ℕ → Bool) → Bool
some_node l f = any_of f (node_numbers l)

abbrev pub some_channel : Line → (ℕ → Bool) → Bool
some_channel l f = any_of f (channel_numbers_of l)

-- "the plan would be refused"
unfoldable pub plan_broken : Line → Bool
unfolding plan_fits
plan_broken l = not (plan_fits l.plan)

-- A count for each console, a node for each rule, a lane for each channel, an entry heard for each parent of its sender; and in the low clock one for the sender and one for each of its parents.
unfoldable pub misshapen : Line → Bool
unfolding parents
misshapen l =
    not (eqb (length l.steps) console_count)
    || not (eqb (length l.nodes) (node_count l.plan))
    || not (eqb (length l.lanes) (channel_count l.plan))
    || some_channel l (λ (b : ℕ). not (eqb (length (lane_at l b).heard) (length (parents l.plan (sender_of l b)))))
    || some_channel l (λ (b : ℕ). not (eqb (length (lane_at l b).low) (suc (length (parents l.plan (sender_of l b))))))

-- What a node has worked on: its log, and its held records as the entries that they are to become.
abbrev pub worked_on : Node → List Entry
worked_on x = x.log ++ map held_entry x.held

-- "a number is outside its limits": the steps of each console, the counts and the records, of which "the state check" lets a tick through (2026-05).
unfoldable pub steps_past : Line → Bool
steps_past l = any_of (ltb step_limit) l.steps

abbrev pub record_past_limits : Record → Bool
record_past_limits r = not (known_record r && ltb r.piece (2 ^ 32) && ltb r.mass (2 ^ 16))

unfoldable pub node_past_limits : Node → Bool
node_past_limits x =
    ltb log_limit (length x.log) || ltb held_limit (length x.held) || ltb target_limit (length x.targets)
    || any_of (λ (e : Entry). record_past_limits e.what) (worked_on x)

unfoldable pub channel_past_limits : Lane → Bool
channel_past_limits s = ltb queue_limit (length s.queue) || any_of (λ (m : Message). record_past_limits m.what) s.queue

-- "or names a node that is not the right parent": of what node n made, and of what its input was made from.
abbrev pub is_parent : Plan → ℕ → ℕ → Bool
is_parent p n s = any_of (λ (q : ℕ). eqb q s) (parents p n)

abbrev pub not_parent : Plan → ℕ → Origin → Bool
not_parent p n fed = false
not_parent p n (made s t) = not (is_parent p n s)

abbrev pub before_not_parent : Plan → Origin → Origin → Bool
before_not_parent p fed before = false
before_not_parent p (made s t) before = not_parent p s before

unfoldable pub node_wrong_parent : Plan → ℕ → Node → Bool
unfolding parents
node_wrong_parent p n x =
    any_of (λ (e : Entry). not_parent p n e.origin || before_not_parent p e.origin e.before) (worked_on x)
    || any_of (λ (t : Target). not (is_parent p n t.parent)) x.targets

unfoldable pub channel_wrong_parent : Plan → ℕ → Lane → Bool
unfolding parents
channel_wrong_parent p b s = any_of (λ (m : Message). not_parent p (channel_at p b).sender m.origin) s.queue

-- The times of messages, held records and named senders, and the others that stand in the state. 2026-08: a log entry's own time is among the others; `log_wrong` says where it may be 0.
abbrev pub origin_times : Origin → List ℕ
origin_times fed = []
origin_times (made s t) = t ∷ []

abbrev pub node_named_times : Node → List ℕ
node_named_times x = joined (map (λ (e : Entry). origin_times e.origin ++ origin_times e.before) (worked_on x))

abbrev pub node_other_times : Node → List ℕ
node_other_times x = x.time ∷ (map (λ (e : Entry). e.time) x.log ++ joined (map (λ (t : Target). t.time ∷ t.parent_time ∷ []) x.targets))

abbrev pub channel_named_times : Lane → List ℕ
channel_named_times s = joined (map (λ (m : Message). m.time ∷ origin_times m.origin) s.queue)

abbrev pub channel_other_times : Lane → List ℕ
channel_other_times s = s.mark ∷ s.taken ∷ s.heard

-- "a time exceeds the accepted steps", of all consoles
unfoldable pub node_time_past : ℕ → Node → Bool
node_time_past steps x = any_of (ltb steps) (node_named_times x ++ node_other_times x)

unfoldable pub channel_time_past : ℕ → Lane → Bool
channel_time_past steps s = any_of (ltb steps) (channel_named_times s ++ channel_other_times s)

-- "a message's, a held record's or a named sender's time is 0"
unfoldable pub node_time_zero : Node → Bool
node_time_zero x = any_of (eqb 0) (node_named_times x)

unfoldable pub channel_time_zero : Lane → Bool
channel_time_zero s = any_of (eqb 0) (channel_named_times s)

-- "a made-from sender is missing where the maker is no infeed, or present where it is one"
abbrev pub origin_wrong : Plan → ℕ → Origin → Bool
origin_wrong p maker fed = not (is_source p maker)
origin_wrong p maker (made s t) = is_source p maker

abbrev pub is_fed : Origin → Bool
is_fed fed = true
is_fed (made s t) = false

abbrev pub before_wrong : Plan → Origin → Origin → Bool
before_wrong p fed before = not (is_fed before)
before_wrong p (made s t) before = origin_wrong p s before

unfoldable pub node_maker_wrong : Plan → ℕ → Node → Bool
unfolding is_source
node_maker_wrong p n x = any_of (λ (e : Entry). origin_wrong p n e.origin || before_wrong p e.origin e.before) (worked_on x)

unfoldable pub channel_maker_wrong : Plan → ℕ → Lane → Bool
unfolding is_source
channel_maker_wrong p b s = any_of (λ (m : Message). origin_wrong p (channel_at p b).sender m.origin) s.queue

-- Numbers that rise strictly from above a bound, and to another.
abbrev pub rises : ℕ → List ℕ → Bool
rises above [] = true
rises above (t ∷ ts) = ltb above t && rises t ts

abbrev pub rises_to : ℕ → ℕ → List ℕ → Bool
rises_to above last ts = rises above ts && all_of (λ (t : ℕ). leb t last) ts

-- 2026-08: "Log times may therefore repeat, or be 0, at such entries only": of a record taken by a node with leaving channels, none of which takes it.
unfoldable pub may_repeat : Plan → ℕ → Record → Bool
unfolding is_source timed
may_repeat p n r = not (is_source p n) && not (timed p n r)

-- "the state check wants such an entry's time not below the one before it, any other's above it"; the first's above 0.
abbrev pub log_rises : Plan → ℕ → ℕ → List Entry → Bool
log_rises p n last [] = true
log_rises p n last (e ∷ es) = cond (may_repeat p n e.what) (leb last e.time) (ltb last e.time) && log_rises p n e.time es

-- "log times don't rise strictly", but there, "or pass the node's time"
unfoldable pub log_wrong : Plan → ℕ → Node → Bool
unfolding may_repeat
log_wrong p n x = not (log_rises p n 0 x.log && all_of (λ (t : ℕ). leb t x.time) (map (λ (e : Entry). e.time) x.log))

-- What an input was made from passes the entry heard for that parent of the sender.
abbrev pub past_heard : List ℕ → List ℕ → Origin → Bool
past_heard ps [] o = false
past_heard [] (h ∷ hs) o = false
past_heard (p ∷ ps) (h ∷ hs) fed = false
past_heard (p ∷ ps) (h ∷ hs) (made q u) = (eqb p q && ltb h u) || past_heard ps hs (made q u)

-- An input that came on channel b passes the receiver's clock, which stands there.
abbrev pub past_lane : Line → ℕ → Origin → Origin → Bool
past_lane l b fed before = false
past_lane l b (made s t) before = eqb (sender_of l b) s && (ltb (lane_at l b).taken t || past_heard (parents l.plan s) (lane_at l b).heard before)

-- "an entry's or held record's other times pass the node's clock"
unfoldable pub past_clock : Line → ℕ → Bool
unfolding entering parents
past_clock l n = any_of (λ (e : Entry). any_of (λ (b : ℕ). past_lane l b e.origin e.before) (entering l.plan n)) (worked_on (node_at l n))

-- 2026-06: "A state whose set differs from what the plan gives is damaged."
unfoldable pub set_wrong : Plan → ℕ → Node → Bool
unfolding set_of
set_wrong p n x = any_of (λ (e : Entry). not (eqb e.set (set_of p n e.what))) x.log

-- "held times of a row don't rise strictly"
unfoldable pub held_wrong : Line → ℕ → Bool
unfolding entering
held_wrong l n = any_of (λ (hs : List Held). not (rises 0 (map (λ (h : Held). h.time) hs))) (held_by_row (node_at l n).held l (entering l.plan n))

-- "a held record is one that no leaving belt takes"
unfoldable pub held_not_passed : Plan → ℕ → Node → Bool
unfolding passed_on
held_not_passed p n x = any_of (λ (h : Held). not (passed_on p n h.what)) x.held

-- "with no end down, a belt's mark is below the receiver's entry, or message times don't rise strictly from above that entry to the mark"
unfoldable pub queue_wrong : Line → ℕ → Bool
queue_wrong l b =
    let s = lane_at l b in
    not (end_down l b) && (ltb s.mark s.taken || not (rises_to s.taken s.mark (map (λ (m : Message). m.time) s.queue)))

-- "a down or replaying node lacks a crash mark"
unfoldable pub mark_missing : Node → Bool
mark_missing x = not (is_up x.status) && not x.crashed

-- "an infeed or outfeed bears one"
unfoldable pub mark_on_end : Plan → ℕ → Node → Bool
unfolding is_source is_sink
mark_on_end p n x = x.crashed && (is_source p n || is_sink p n)

-- "or two joined nodes do"
unfoldable pub marks_joined : Line → ℕ → Bool
marks_joined l b = (node_at l (sender_of l b)).crashed && (node_at l (receiver_of l b)).crashed

abbrev pub same_targets : List Target → List Target → Bool
same_targets [] [] = true
same_targets [] (u ∷ us) = false
same_targets (t ∷ ts) [] = false
same_targets (t ∷ ts) (u ∷ us) = same_target t u && same_targets ts us

-- Whether node n replays in a line that Recover gives, with the time and the targets of a node.
abbrev pub replays_as : ℕ → Node → Option Line → Bool
replays_as n x none = false
replays_as n x (some k) = is_replay (node_at k n).status && eqb x.time (node_at k n).time && same_targets x.targets (node_at k n).targets

-- "a replaying node's time or targets are not what Recover would give"
unfoldable pub replay_wrong : Line → ℕ → Bool
unfolding recover_gives
replay_wrong l n = replaying l n && not (replays_as n (node_at l n) (recover_gives l n))

abbrev pub same_times : List ℕ → List ℕ → Bool
same_times [] [] = true
same_times [] (u ∷ us) = false
same_times (t ∷ ts) [] = false
same_times (t ∷ ts) (u ∷ us) = eqb t u && same_times ts us

abbrev pub same_answer : Asked → Asked → Bool
same_answer a b = eqb a.low b.low && eqb a.high b.high && same_times a.entries b.entries

-- Whether a node's kept answer, if it has one, is what Recover of it gives.
abbrev pub answers_as : Line → ℕ → Option Asked → Bool
answers_as l n none = true
answers_as l n (some a) = not (is_nothing (recover_gives l n)) && same_answer a (answer_of l n) && same_targets (node_at l n).targets (targets_of l n)

-- 2026-07: a kept answer "that Recover would not give now is damaged". A kept time past the steps needs no test of its own: what Recover finds is never past them.
unfoldable pub answer_wrong : Line → ℕ → Bool
unfolding recover_gives answer_of targets_of
answer_wrong l n = not (answers_as l n (node_at l n).asked)

-- "a down node's belts or emptied parts, an up node's targets or held list, a replaying node's log or leaving belts hold anything": what stands at the node, and what on its channels. A down node's clock is on those that enter it. 2026-07: a down node has targets only with a kept answer; a node that is not down keeps none.
abbrev pub holds_by_status : Status → Node → Bool
holds_by_status up x = not (is_empty x.held && is_empty x.targets && is_nothing x.asked)
holds_by_status down x = not (eqb x.time 0 && is_empty x.log && is_empty x.held && (is_empty x.targets || not (is_nothing x.asked)))
holds_by_status replay x = not (is_empty x.log && is_nothing x.asked)

unfoldable pub node_holds : Node → Bool
node_holds x = holds_by_status x.status x

unfoldable pub channel_holds : Line → ℕ → Bool
channel_holds l b =
    let s = lane_at l b in
    (end_down l b && not (eqb s.mark 0 && is_empty s.queue))
    || (node_down l (receiver_of l b) && any_of (ltb 0) (s.taken ∷ s.heard))
    || (replaying l (sender_of l b) && not (is_empty s.queue))

-- 2026-04: "a low clock entry above the node's clock is damaged"
abbrev pub low_past : List ℕ → List ℕ → Bool
low_past [] ts = false
low_past (k ∷ ks) [] = false
low_past (k ∷ ks) (t ∷ ts) = ltb t k || low_past ks ts

unfoldable pub low_wrong : Lane → Bool
low_wrong s = low_past s.low (s.taken ∷ s.heard)

-- All the conditions of a node, and of a channel.
unfoldable pub node_damaged : Line → ℕ → Bool
unfolding node_past_limits node_wrong_parent node_time_past node_time_zero node_maker_wrong log_wrong set_wrong past_clock held_wrong held_not_passed mark_missing mark_on_end replay_wrong answer_wrong node_holds
node_damaged l n =
    let x = node_at l n in
    node_past_limits x || node_wrong_parent l.plan n x || node_time_past (accepted_steps l) x || node_time_zero x || node_maker_wrong l.plan n x || log_wrong l.plan n x || set_wrong l.plan n x || past_clock l n
    || held_wrong l n || held_not_passed l.plan n x || mark_missing x || mark_on_end l.plan n x || replay_wrong l n || answer_wrong l n || node_holds x

unfoldable pub channel_damaged : Line → ℕ → Bool
unfolding channel_past_limits channel_wrong_parent channel_time_past channel_time_zero channel_maker_wrong queue_wrong marks_joined channel_holds low_wrong
channel_damaged l b =
    let s = lane_at l b in
    channel_past_limits s || channel_wrong_parent l.plan b s || channel_time_past (accepted_steps l) s || channel_time_zero s || channel_maker_wrong l.plan b s
    || queue_wrong l b || marks_joined l b || channel_holds l b || low_wrong s

-- Any of them.
unfoldable pub damaged : Line → Bool
unfolding plan_broken misshapen steps_past node_damaged channel_damaged
damaged l = plan_broken l || misshapen l || steps_past l || some_node l (node_damaged l) || some_channel l (channel_damaged l)
