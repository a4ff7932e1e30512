-- A step: the refusals 9 to 21 and 24 to 27 in their order, and the effect of each kind (document 01, "Clocks and steps", "Numbers returned"; document 02, 2026-01, 2026-04, 2026-05, 2026-07 and 2026-08).
use Rattle.std.specs.Prelude.{ℕ, suc, Bool, true, false, cond, not, ◌&&◌, ◌||◌, List, [], ◌∷◌, length, leb, ltb, eqb}
use Rattle.std.proofs.Math.Option.{Option, none, some, map}
use Rattle.plan.specs.declared.Record.{Record}
use Rattle.plan.specs.Record.{record_layout, record_fits}
use Rattle.plan.specs.Rule.{applied}
use Rattle.plan.specs.Channel.{takes}
use Rattle.plan.specs.Plan.{node_count, channel_count, rule_at, channel_at, entering, leaving, is_source, is_sink}
use Rattle.plan.specs.Mask.{set_of}
use Rattle.rules.specs.Lists.{is_empty, any_of}
use Rattle.rules.specs.Line.{node_numbers, is_up, log_limit, queue_limit, held_limit, target_limit, step_limit, fed, made, Message, Entry, Target, Asked, down, Node, Lane, Line, node_at, lane_at, steps_from, sender_of, receiver_of, with_node, with_lane, counted, with_lanes, is_down, is_replay, parents, fresh_lane}
use Rattle.rules.specs.Frame.{Frame, feed, send, take, crash, recover, trim, ask, commit, frame_console, frame_of, frame_refusal}
use Rattle.rules.specs.Clock.{logged, next_to_send, sent_on, taken_from}
use Rattle.rules.specs.Recover.{targets_of, conflict, row_complete, answer_of, committed, recovered}
use Rattle.rules.specs.Trim.{trimmed_line}
use Rattle.rules.specs.Replay.{passed_on, timed, time_for, holding, ended_if_complete}

-- 12: "1,000,000 steps accepted". 2026-01: "refusal 12 looks only at the caller's" count.
unfoldable pub no_steps_left : Line → ℕ → Bool
no_steps_left l c = leb step_limit (steps_from l c)

-- 13: "no such node or belt"
abbrev pub no_such : Line → Frame → Bool
no_such l (feed n r) = leb (node_count l.plan) n
no_such l (send b) = leb (channel_count l.plan) b
no_such l (take b) = leb (channel_count l.plan) b
no_such l (crash n) = leb (node_count l.plan) n
no_such l (recover n) = leb (node_count l.plan) n
no_such l (trim n) = leb (node_count l.plan) n
no_such l (ask n) = leb (node_count l.plan) n
no_such l (commit n) = leb (node_count l.plan) n

-- 26, of 2026-04: "after 13, a Trim while a node is down or replaying"
abbrev pub not_all_up : Line → Bool
not_all_up l = any_of (λ (n : ℕ). not (is_up (node_at l n).status)) (node_numbers l)

abbrev pub some_stopped : Line → Frame → Bool
some_stopped l (feed n r) = false
some_stopped l (send b) = false
some_stopped l (take b) = false
some_stopped l (crash n) = false
some_stopped l (recover n) = false
some_stopped l (trim n) = not_all_up l
some_stopped l (ask n) = false
some_stopped l (commit n) = false

-- 14: "Feed not to an infeed; Crash or Recover of an infeed or outfeed". 2026-07: "Checks 14 and 15 read both as Recover."
abbrev pub wrong_node : Line → Frame → Bool
wrong_node l (feed n r) = not (is_source l.plan n)
wrong_node l (send b) = false
wrong_node l (take b) = false
wrong_node l (crash n) = is_source l.plan n || is_sink l.plan n
wrong_node l (recover n) = is_source l.plan n || is_sink l.plan n
wrong_node l (trim n) = false
wrong_node l (ask n) = is_source l.plan n || is_sink l.plan n
wrong_node l (commit n) = is_source l.plan n || is_sink l.plan n

abbrev pub node_down : Line → ℕ → Bool
node_down l n = is_down (node_at l n).status

abbrev pub end_down : Line → ℕ → Bool
end_down l b = node_down l (sender_of l b) || node_down l (receiver_of l b)

-- 15: "Crash of a down node; Send, Take with an end down; Recover of a node not down". 2026-07: "Checks 14 and 15 read both as Recover."
abbrev pub wrong_status : Line → Frame → Bool
wrong_status l (feed n r) = false
wrong_status l (send b) = end_down l b
wrong_status l (take b) = end_down l b
wrong_status l (crash n) = node_down l n
wrong_status l (recover n) = not (node_down l n)
wrong_status l (trim n) = false
wrong_status l (ask n) = not (node_down l n)
wrong_status l (commit n) = not (node_down l n)

-- 16: "Crash of a node joined by a belt to one crashed earlier in the run"
unfoldable pub neighbour_crashed : Line → ℕ → Bool
unfolding entering leaving
neighbour_crashed l n =
    any_of (λ (b : ℕ). (node_at l (sender_of l b)).crashed) (entering l.plan n)
    || any_of (λ (b : ℕ). (node_at l (receiver_of l b)).crashed) (leaving l.plan n)

abbrev pub beside_crashed : Line → Frame → Bool
beside_crashed l (feed n r) = false
beside_crashed l (send b) = false
beside_crashed l (take b) = false
beside_crashed l (crash n) = neighbour_crashed l n
beside_crashed l (recover n) = false
beside_crashed l (trim n) = false
beside_crashed l (ask n) = false
beside_crashed l (commit n) = false

abbrev pub is_nothing : {A : Type 0} → Option A → Bool
is_nothing none = true
is_nothing (some x) = false

-- 27: "after 16, a Commit without a kept answer"
abbrev pub no_answer : Line → Frame → Bool
no_answer l (feed n r) = false
no_answer l (send b) = false
no_answer l (take b) = false
no_answer l (crash n) = false
no_answer l (recover n) = false
no_answer l (trim n) = false
no_answer l (ask n) = false
no_answer l (commit n) = is_nothing (node_at l n).asked

-- 17: "material over 15, zero byte not 0"; a tick is let through (2026-05).
abbrev pub bad_record : Frame → Bool
bad_record (feed n r) = not (record_fits r)
bad_record (send b) = false
bad_record (take b) = false
bad_record (crash n) = false
bad_record (recover n) = false
bad_record (trim n) = false
bad_record (ask n) = false
bad_record (commit n) = false

-- What a Send would send.
unfoldable pub sendable : Line → ℕ → Option Entry
unfolding takes
sendable l b = next_to_send (channel_at l.plan b) (lane_at l b).mark (node_at l (channel_at l.plan b).sender).log

-- 18: "nothing to send or take"
abbrev pub nothing_there : Line → Frame → Bool
nothing_there l (feed n r) = false
nothing_there l (send b) = is_nothing (sendable l b)
nothing_there l (take b) = is_empty (lane_at l b).queue
nothing_there l (crash n) = false
nothing_there l (recover n) = false
nothing_there l (trim n) = false
nothing_there l (ask n) = false
nothing_there l (commit n) = false

-- 19: "belt holds 8"
abbrev pub queue_full : Line → Frame → Bool
queue_full l (feed n r) = false
queue_full l (send b) = leb queue_limit (length (lane_at l b).queue)
queue_full l (take b) = false
queue_full l (crash n) = false
queue_full l (recover n) = false
queue_full l (trim n) = false
queue_full l (ask n) = false
queue_full l (commit n) = false

abbrev pub replaying : Line → ℕ → Bool
replaying l n = is_replay (node_at l n).status

-- 20: "Take on a complete row while replaying"
abbrev pub row_done : Line → Frame → Bool
row_done l (feed n r) = false
row_done l (send b) = false
row_done l (take b) = replaying l (receiver_of l b) && row_complete l (receiver_of l b) b
row_done l (crash n) = false
row_done l (recover n) = false
row_done l (trim n) = false
row_done l (ask n) = false
row_done l (commit n) = false

-- The record that a node makes of another, by its rule.
abbrev pub made_by : Line → ℕ → Record → Record
made_by l n r = applied (rule_at l.plan n) r

abbrev pub first_record : List Message → Option Record
first_record [] = none
first_record (m ∷ ms) = some m.what

abbrev pub to_hold : Line → ℕ → Option Record → Bool
to_hold l n none = false
to_hold l n (some r) = passed_on l.plan n (made_by l n r)

-- A Take's space: of the log, or in a replay of the held list where the record is to be held.
unfoldable pub take_lacks : Line → ℕ → Bool
unfolding passed_on
take_lacks l b =
    let n = receiver_of l b in
    cond (replaying l n) (to_hold l n (first_record (lane_at l b).queue) && leb held_limit (length (node_at l n).held)) (leb log_limit (length (node_at l n).log))

-- 21: "the step needs space that the log or held list lacks, or over 64 targets"
abbrev pub no_space : Line → Frame → Bool
no_space l (feed n r) = timed l.plan n (made_by l n (record_layout.read r)) && leb log_limit (length (node_at l n).log)
no_space l (send b) = false
no_space l (take b) = take_lacks l b
no_space l (crash n) = false
no_space l (recover n) = ltb target_limit (length (targets_of l n))
no_space l (trim n) = false
no_space l (ask n) = ltb target_limit (length (targets_of l n))
no_space l (commit n) = false

-- Feed: "an infeed applies its rule, its time rises by 1, the message is logged". 2026-08: "On an infeed with leaving belts, a Feed that none of them takes leaves nothing but the step count".
unfoldable pub fed_line : ℕ → List ℕ → Line → Line
unfolding logged with_node record_layout set_of timed
fed_line n r l =
    let what = made_by l n (record_layout.read r) in
    elim (timed l.plan n what) [ true ↦ with_node n (logged (suc (node_at l n).time) (set_of l.plan n what) what fed fed (node_at l n)) l | false ↦ l ]

-- Send: the message "goes on the belt".
abbrev pub sent_line : ℕ → Option Entry → Line → Line
sent_line b none l = l
sent_line b (some e) l = with_lane b (sent_on e (lane_at l b)) l

-- Take, of a node that is up: it "applies its rule, raises its time by 1 and logs". 2026-08: where no leaving channel takes the record, "its log entry stays", and "carries the node's present time".
unfoldable pub taken_up : ℕ → Message → Line → Line
unfolding logged with_node set_of timed
taken_up b m l =
    let n = receiver_of l b in
    let what = made_by l n m.what in
    with_node n (logged (time_for l.plan n what (node_at l n).time) (set_of l.plan n what) what (made (sender_of l b) m.time) m.origin (node_at l n)) l

-- Take, of a node that replays: "raises the clock only; a record that no belt takes is dropped, another is held".
unfoldable pub taken_replaying : ℕ → Message → Line → Line
unfolding passed_on holding with_node
taken_replaying b m l =
    let n = receiver_of l b in
    let r = made_by l n m.what in
    elim (passed_on l.plan n r) [
      | true ↦ with_node n (holding (record { what = r; sender = sender_of l b; time = m.time; before = m.origin }) (node_at l n)) l
      | false ↦ l
    ]

-- The clock raised and the message gone from the channel.
unfoldable pub taken_lane : ℕ → Message → List Message → Line → Line
unfolding taken_from with_lane parents
taken_lane b m rest l = with_lane b (taken_from (parents l.plan (sender_of l b)) m rest (lane_at l b)) l

abbrev pub taken_first : ℕ → List Message → Line → Option Line
taken_first b [] l = some l
taken_first b (m ∷ rest) l =
    elim (replaying l (receiver_of l b)) [
      | true ↦ ended_if_complete (receiver_of l b) (taken_replaying b m (taken_lane b m rest l))
      | false ↦ some (taken_up b m (taken_lane b m rest l))
    ]

unfoldable pub taken_line : ℕ → Line → Option Line
unfolding taken_lane taken_replaying taken_up ended_if_complete
taken_line b l = taken_first b (lane_at l b).queue l

-- Crash: "the node is down and crash-marked for good; its log, clock, time, targets and held records, and its belts' messages and marks, are emptied to 0". The clock is `taken` and `heard` of its entering channels; those of its leaving channels are its children's. So the low clock is `low` of its entering channels; 2026-04: "Crash empties it".
unfoldable pub crashed_line : ℕ → Line → Line
unfolding entering leaving fresh_lane with_node with_lane
crashed_line n l =
    let left : ℕ → Lane → Lane = λ b s. record { mark = 0; taken = s.taken; heard = s.heard; queue = []; low = s.low } in
    let entered : ℕ → Lane → Lane = λ b s. fresh_lane l.plan (channel_at l.plan b) 0 in
    with_lanes entered (entering l.plan n)
    (with_lanes left (leaving l.plan n)
    (with_node n (record { status = down; crashed = true; time = 0; log = []; held = []; targets = []; asked = none }) l))

-- Recover: restored, refused where targets conflict, and where it replays ended if its rows are complete.
unfoldable pub recovered_line : ℕ → Line → Option Line
unfolding targets_of recovered ended_if_complete
recovered_line n l =
    elim (conflict (targets_of l n)) [
      | true ↦ none
      | false ↦ elim (is_empty (targets_of l n)) [ true ↦ some (recovered n l) | false ↦ ended_if_complete n (recovered n l) ]
    ]

-- Ask: "works out what Recover would and keeps it with the down node".
unfoldable pub asking : Asked → List Target → Node → Node
asking a ts x = record { status = x.status; crashed = x.crashed; time = x.time; log = x.log; held = x.held; targets = ts; asked = some a }

unfoldable pub asked_line : ℕ → Line → Line
unfolding asking answer_of targets_of with_node
asked_line n l = with_node n (asking (answer_of l n) (targets_of l n) (node_at l n)) l

-- Commit: "applies it".
abbrev pub committed_by : ℕ → Option Asked → Line → Line
committed_by n none l = l
committed_by n (some a) l = committed n a l

unfoldable pub committed_line : ℕ → Line → Line
unfolding committed
committed_line n l = committed_by n (node_at l n).asked l

-- What Recover of a node would give, were it down, 12 to 20 aside: nothing where 21 or 24 applies.
unfoldable pub recover_gives : Line → ℕ → Option Line
unfolding targets_of recovered_line
recover_gives l n = elim (no_space l (recover n)) [ true ↦ none | false ↦ recovered_line n l ]

-- The line that a frame leads to, steps not counted; nothing where 24 applies.
unfoldable pub effect : Line → Frame → Option Line
unfolding fed_line sent_on with_lane sendable taken_line crashed_line recovered_line trimmed_line asked_line committed_line
effect l (feed n r) = some (fed_line n r l)
effect l (send b) = some (sent_line b (sendable l b) l)
effect l (take b) = taken_line b l
effect l (crash n) = some (crashed_line n l)
effect l (recover n) = recovered_line n l
effect l (trim n) = some (trimmed_line n l)
effect l (ask n) = map (λ (k : Line). asked_line n l) (recovered_line n l)
effect l (commit n) = some (committed_line n l)

-- 24: "no placing exists; targets give one time two inputs or one input two times; a target not held when rows are complete"
unfoldable pub no_placing : Line → Frame → Bool
unfolding effect
no_placing l f = is_nothing (effect l f)

-- What the line itself refuses, whoever sent the frame: the first of 13, 26, 14 to 16, 27, 17 to 21 and 24 that applies, 0 if none does.
unfoldable pub line_refusal : Line → Frame → ℕ
unfolding is_source is_sink neighbour_crashed record_fits record_layout sendable row_complete timed take_lacks targets_of no_placing
line_refusal l f =
    elim (no_such l f) [
      | true ↦ 13
      | false ↦ elim (some_stopped l f) [
        | true ↦ 26
        | false ↦ elim (wrong_node l f) [
          | true ↦ 14
          | false ↦ elim (wrong_status l f) [
            | true ↦ 15
            | false ↦ elim (beside_crashed l f) [
              | true ↦ 16
              | false ↦ elim (no_answer l f) [
                | true ↦ 27
                | false ↦ elim (bad_record f) [
                  | true ↦ 17
                  | false ↦ elim (nothing_there l f) [
                    | true ↦ 18
                    | false ↦ elim (queue_full l f) [
                      | true ↦ 19
                      | false ↦ elim (row_done l f) [
                        | true ↦ 20
                        | false ↦ elim (no_space l f) [
                          | true ↦ 21
                          | false ↦ elim (no_placing l f) [ true ↦ 24 | false ↦ 0 ]
                        ]
                      ]
                    ]
                  ]
                ]
              ]
            ]
          ]
        ]
      ]
    ]

-- "Step 8 to 21 and then 24", "each in rising order, and the first that applies is returned"; 25 comes "after 11", 26 "after 13", 27 "after 16". 8 is of the state's bytes.
unfoldable pub refusal : Line → List ℕ → ℕ
unfolding frame_refusal no_steps_left frame_console frame_of line_refusal
refusal l f =
    let n = frame_refusal f in
    elim (eqb n 0) [
      | true ↦ elim (no_steps_left l (frame_console f)) [ true ↦ 12 | false ↦ line_refusal l (frame_of f) ]
      | false ↦ n
    ]

pub record Answer : Type 0 where
  pub number : ℕ
  pub line : Line

abbrev pub accepted : ℕ → Line → Option Line → Line
accepted c l none = l
accepted c l (some k) = counted c k

-- A step: refused, the line as it was; accepted, the effect and one more step of the caller's.
unfoldable pub step : Line → List ℕ → Answer
unfolding refusal frame_console frame_of effect counted
step l f =
    let n = refusal l f in
    elim (eqb n 0) [ true ↦ record { number = 0; line = accepted (frame_console f) l (effect l (frame_of f)) } | false ↦ record { number = n; line = l } ]
