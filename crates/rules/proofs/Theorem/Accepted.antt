-- What an accepted frame says of the line: for each kind of frame, what its step goes by.
use Prim.Native.Nat.{ℕ, suc, ◌<◌}
use mathlib.Core.Path.{◌≡◌, refl, sym, ap, ◌∙◌}
use mathlib.Core.Logic.{◌≢◌}
use mathlib.Core.Bool.{Bool, true, false, not, ◌&&◌, true≢false}
use mathlib.Core.List.{List, [], ◌∷◌}
use mathlib.Core.Option.{none, some}
use native.Mathlib.Omega.{arith}
use lib.Dec.{eqb}
use borrow.Author.Tests.{leb-false, eq-eqb, ne_eqb, not-false}
use Rattle.basics.specs.Bools.{neither_true}
use Rattle.plan.specs.Plan.{node_count, channel_count, channel_at, is_source, is_sink, entering, leaving}
use Rattle.rules.specs.Lists.{any_of}
use Rattle.rules.specs.Line.{step_limit, console_count, steps_from, Message, Entry, Status, up, down, replay, Line, node_at, lane_at, is_up, is_down, is_replay}
use Rattle.rules.specs.Frame.{Frame, feed, send, take, crash, recover, trim, ask, commit, frame_console, frame_of, bad_frame_length, bad_frame_version, bad_kind, bad_console}
use Rattle.rules.specs.Recover.{row_goal, row_complete}
use Rattle.rules.specs.Step.{is_nothing, no_steps_left, no_such, some_stopped, wrong_node, node_down, end_down, wrong_status, neighbour_crashed, beside_crashed, no_answer, bad_record, sendable, nothing_there, queue_full, row_done, no_space, recovered_line, asked_line, effect, no_placing, line_refusal, refusal, accepted, step}
use Rattle.rules.proofs.Lists.ListLaws.{some_first}
use Rattle.rules.proofs.Lists.Members.{none_any, in_up_to}
use Rattle.rules.proofs.Lists.Options.{nothing_none, something_there, mapped_some}
use Rattle.rules.proofs.Invariant.Inv.{Enters, Leaves}
use Rattle.rules.proofs.Line.Joins.{in_entering, in_leaving}

-- The first refusal of some that applies, else another number.
abbrev pub first_of : List (Bool × ℕ) → ℕ → ℕ
first_of [] n = n
first_of ((t, k) ∷ ts) n = elim t [ true ↦ suc k | false ↦ first_of ts n ]

abbrev NoneOf : List (Bool × ℕ) → Type 0
NoneOf [] = Unit
NoneOf ((t, k) ∷ ts) = (t ≡ false) × NoneOf ts

-- No refusal of some is a number.
abbrev pub NoneIs : ℕ → List (Bool × ℕ) → Type 0
NoneIs v [] = Unit
NoneIs v ((t, k) ∷ ts) = (suc k ≢ v) × NoneIs v ts

only_last : (v : ℕ) (ts : List (Bool × ℕ)) (n : ℕ) → NoneIs v ts → first_of ts n ≡ v → NoneOf ts × (n ≡ v)
only_last v [] n d e = (tt, e)
only_last v ((true, k) ∷ ts) n d e = absurd (d.0 e)
only_last v ((false, k) ∷ ts) n d e = let (rest, last) = only_last v ts n d.1 e in ((refl, rest), last)

none_of : (ts : List (Bool × ℕ)) (n : ℕ) → first_of ts n ≡ 0 → NoneOf ts × (n ≡ 0)
none_of ts n e = only_last 0 ts n (never_zero ts) e
  where
    never_zero : (ts : List (Bool × ℕ)) → NoneIs 0 ts
    never_zero [] = tt
    never_zero ((t, k) ∷ ts) = (λ z. omega arith, never_zero ts)

-- The refusals in their order, before the line's own.
abbrev pub first_tests : Line → List ℕ → List (Bool × ℕ)
first_tests l f = (bad_frame_length f, 8) ∷ (bad_frame_version f, 9) ∷ (bad_kind f, 10) ∷ (bad_console f, 24) ∷ (no_steps_left l (frame_console f), 11) ∷ []

pub refusal_first : (l : Line) (f : List ℕ) → refusal l f ≡ first_of (first_tests l f) (line_refusal l (frame_of f))
unfolding refusal
refusal_first l f = go (bad_frame_length f) (bad_frame_version f) (bad_kind f) (bad_console f)
  where
    go : (a b c d : Bool)
        → (let n : ℕ = elim a [ true ↦ 9 | false ↦ elim b [ true ↦ 10 | false ↦ elim c [ true ↦ 11 | false ↦ elim d [ true ↦ 25 | false ↦ 0 ] ] ] ] in
        elim (eqb n 0) [ true ↦ elim (no_steps_left l (frame_console f)) [ true ↦ 12 | false ↦ line_refusal l (frame_of f) ] | false ↦ n ])
        ≡ first_of ((a, 8) ∷ (b, 9) ∷ (c, 10) ∷ (d, 24) ∷ (no_steps_left l (frame_console f), 11) ∷ []) (line_refusal l (frame_of f))
    go true b c d = refl
    go false true c d = refl
    go false false true d = refl
    go false false false true = refl
    go false false false false = refl

-- A frame that gets as far as the line: it is well formed, and its console has steps left.
pub record Admitted (l : Line) (f : List ℕ) (number : ℕ) : Type 0 where
  pub console : frame_console f < console_count
  pub steps_left : steps_from l (frame_console f) < step_limit
  pub answer : line_refusal l (frame_of f) ≡ number

pub admitted : (l : Line) (f : List ℕ) (number : ℕ) → NoneIs number (first_tests l f) → refusal l f ≡ number → Admitted l f number
unfolding bad_console no_steps_left
admitted l f number apart e =
    let ((_, (_, (_, (console, (steps, _))))), last) = only_last number (first_tests l f) (line_refusal l (frame_of f)) apart (sym (refusal_first l f) ∙ e) in
    record { console = leb-false console_count (frame_console f) console; steps_left = leb-false step_limit (steps_from l (frame_console f)) steps; answer = last }

-- A frame of console c that is not refused: steps are left, no number from 13 on, 26 and 27 among them, applies, and it leads to a line.
pub record Passed (l : Line) (c : ℕ) (f : Frame) : Type 0 where
  pub console : c < console_count
  pub steps_left : steps_from l c < step_limit
  pub is_there : no_such l f ≡ false
  pub none_stopped : some_stopped l f ≡ false
  pub right_node : wrong_node l f ≡ false
  pub right_status : wrong_status l f ≡ false
  pub apart : beside_crashed l f ≡ false
  pub answered : no_answer l f ≡ false
  pub record_good : bad_record f ≡ false
  pub something : nothing_there l f ≡ false
  pub room : queue_full l f ≡ false
  pub row_open : row_done l f ≡ false
  pub space : no_space l f ≡ false
  pub next : Line
  pub leads : effect l f ≡ some next

pub passed : (l : Line) (frame : List ℕ) → refusal l frame ≡ 0 → Passed l (frame_console frame) (frame_of frame)
unfolding line_refusal no_placing
passed l frame e =
    let f = frame_of frame in
    let h = admitted l frame 0 (λ z. omega arith, (λ z. omega arith, (λ z. omega arith, (λ z. omega arith, (λ z. omega arith, tt))))) e in
    let tests : List (Bool × ℕ) =
    (no_such l f, 12) ∷ (some_stopped l f, 25) ∷ (wrong_node l f, 13) ∷ (wrong_status l f, 14) ∷ (beside_crashed l f, 15) ∷ (no_answer l f, 26) ∷ (bad_record f, 16) ∷ (nothing_there l f, 17) ∷ (queue_full l f, 18) ∷ (row_done l f, 19) ∷ (no_space l f, 20)
    ∷ (no_placing l f, 23) ∷ [] in
    let (number, (stopped, (node, (status, (beside, (answer, (good, (offer, (room, (row, (space, (placed, last)))))))))))) = (none_of tests 0 h.answer).0 in
    let (k, q) = something_there (effect l f) placed in
    record {
      console = h.console;
      steps_left = h.steps_left;
      is_there = number;
      none_stopped = stopped;
      right_node = node;
      right_status = status;
      apart = beside;
      answered = answer;
      record_good = good;
      something = offer;
      room = room;
      row_open = row;
      space = space;
      next = k;
      leads = q;
    }

-- A frame of console c that gets as far as 24: steps are left, no number from 13 to 21, not 26 and not 27 applies, and it leads nowhere.
pub record Unplaced (l : Line) (c : ℕ) (f : Frame) : Type 0 where
  pub console : c < console_count
  pub steps_left : steps_from l c < step_limit
  pub is_there : no_such l f ≡ false
  pub right_node : wrong_node l f ≡ false
  pub right_status : wrong_status l f ≡ false
  pub something : nothing_there l f ≡ false
  pub row_open : row_done l f ≡ false
  pub nowhere : effect l f ≡ none

pub unplaced : (l : Line) (frame : List ℕ) → refusal l frame ≡ 24 → Unplaced l (frame_console frame) (frame_of frame)
unfolding line_refusal no_placing
unplaced l frame e =
    let f = frame_of frame in
    let h = admitted l frame 24 (λ z. omega arith, (λ z. omega arith, (λ z. omega arith, (λ z. omega arith, (λ z. omega arith, tt))))) e in
    let tests : List (Bool × ℕ) =
    (no_such l f, 12) ∷ (some_stopped l f, 25) ∷ (wrong_node l f, 13) ∷ (wrong_status l f, 14) ∷ (beside_crashed l f, 15) ∷ (no_answer l f, 26) ∷ (bad_record f, 16) ∷ (nothing_there l f, 17) ∷ (queue_full l f, 18) ∷ (row_done l f, 19) ∷ (no_space l f, 20) ∷ [] in
    let apart : NoneIs 24 tests =
    (λ z. omega arith, (λ z. omega arith, (λ z. omega arith, (λ z. omega arith, (λ z. omega arith, (λ z. omega arith, (λ z. omega arith, (λ z. omega arith, (λ z. omega arith, (λ z. omega arith, (λ z. omega arith, tt))))))))))) in
    let ((number, (_, (node, (status, (beside, (answer, (good, (offer, (room, (row, (space, _))))))))))), last) = only_last 24 tests (elim (no_placing l f) [ true ↦ 24 | false ↦ 0 ]) apart h.answer in
    record {
      console = h.console;
      steps_left = h.steps_left;
      is_there = number;
      right_node = node;
      right_status = status;
      something = offer;
      row_open = row;
      nowhere = nowhere (no_placing l f) refl last;
    }
  where
    nowhere : (t : Bool) → is_nothing (effect l (frame_of frame)) ≡ t → ◌≡◌ {A = ℕ} (elim t [ true ↦ 24 | false ↦ 0 ]) 24 → effect l (frame_of frame) ≡ none
    nowhere true q z = nothing_none (effect l (frame_of frame)) q
    nowhere false q z = let no : ⊥ = omega arith in absurd no

-- A frame that is answered 21 needs space that is not there.
pub lacking : (l : Line) (frame : List ℕ) → refusal l frame ≡ 21 → no_space l (frame_of frame) ≡ true
unfolding line_refusal no_placing
lacking l frame e =
    let f = frame_of frame in
    let h = admitted l frame 21 (λ z. omega arith, (λ z. omega arith, (λ z. omega arith, (λ z. omega arith, (λ z. omega arith, tt))))) e in
    let tests : List (Bool × ℕ) = (no_such l f, 12) ∷ (some_stopped l f, 25) ∷ (wrong_node l f, 13) ∷ (wrong_status l f, 14) ∷ (beside_crashed l f, 15) ∷ (no_answer l f, 26) ∷ (bad_record f, 16) ∷ (nothing_there l f, 17) ∷ (queue_full l f, 18) ∷ (row_done l f, 19) ∷ [] in
    let apart : NoneIs 21 tests = (λ z. omega arith, (λ z. omega arith, (λ z. omega arith, (λ z. omega arith, (λ z. omega arith, (λ z. omega arith, (λ z. omega arith, (λ z. omega arith, (λ z. omega arith, (λ z. omega arith, tt)))))))))) in
    one (no_space l f) (no_placing l f) (only_last 21 tests (elim (no_space l f) [ true ↦ 21 | false ↦ elim (no_placing l f) [ true ↦ 24 | false ↦ 0 ] ]) apart h.answer).1
  where
    one : (a b : Bool) → ◌≡◌ {A = ℕ} (elim a [ true ↦ 21 | false ↦ elim b [ true ↦ 24 | false ↦ 0 ] ]) 21 → a ≡ true
    one true b z = refl
    one false true z = let no : ⊥ = omega arith in absurd no
    one false false z = let no : ⊥ = omega arith in absurd no

not_down : (s : Status) → is_down s ≡ false → s ≢ down
not_down s e q = true≢false (sym (ap is_down q) ∙ e)

pub is_down_lem : (s : Status) → is_down s ≡ true → s ≡ down
is_down_lem up e = absurd (true≢false (sym e))
is_down_lem down e = refl
is_down_lem replay e = absurd (true≢false (sym e))

-- Both ends of a channel are not down.
module _ (l : Line) (b : ℕ) (e : end_down l b ≡ false) where
  ends-apart : ((node_at l (channel_at l.plan b).sender).status ≢ down) × ((node_at l (channel_at l.plan b).receiver).status ≢ down)
  ends-apart =
      let (s, r) = neither_true (node_down l (channel_at l.plan b).sender) (node_down l (channel_at l.plan b).receiver) e in
      (not_down (node_at l (channel_at l.plan b).sender).status s, not_down (node_at l (channel_at l.plan b).receiver).status r)

pub record CanFeed (l : Line) (n : ℕ) : Type 0 where
  pub here : n < node_count l.plan
  pub source : is_source l.plan n ≡ true

pub can_feed : {l : Line} {c n : ℕ} {r : List ℕ} → Passed l c (feed n r) → CanFeed l n
can_feed {l} {c} {n} p = record { here = leb-false (node_count l.plan) n p.is_there; source = not-false (is_source l.plan n) p.right_node }

pub record CanSend (l : Line) (b : ℕ) : Type 0 where
  pub here : b < channel_count l.plan
  pub sender : (node_at l (channel_at l.plan b).sender).status ≢ down
  pub receiver : (node_at l (channel_at l.plan b).receiver).status ≢ down
  pub entry : Entry
  pub first : sendable l b ≡ some entry

pub can_send : {l : Line} {c b : ℕ} → Passed l c (send b) → CanSend l b
can_send {l} {c} {b} p =
    let (s, r) = ends-apart l b p.right_status in
    let (e, q) = something_there (sendable l b) p.something in
    record { here = leb-false (channel_count l.plan) b p.is_there; sender = s; receiver = r; entry = e; first = q }

pub record CanTake (l : Line) (b : ℕ) : Type 0 where
  pub here : b < channel_count l.plan
  pub sender : (node_at l (channel_at l.plan b).sender).status ≢ down
  pub receiver : (node_at l (channel_at l.plan b).receiver).status ≢ down
  pub message : Message
  pub rest : List Message
  pub first : (lane_at l b).queue ≡ message ∷ rest
  pub below_goal : (node_at l (channel_at l.plan b).receiver).status ≡ replay → (lane_at l b).taken < row_goal (node_at l (channel_at l.plan b).receiver).targets (channel_at l.plan b).sender

row_below : (l : Line) (b : ℕ) → row_done l (take b) ≡ false → (node_at l (channel_at l.plan b).receiver).status ≡ replay
    → (lane_at l b).taken < row_goal (node_at l (channel_at l.plan b).receiver).targets (channel_at l.plan b).sender
unfolding row_complete
row_below l b e q =
    let n = (channel_at l.plan b).receiver in
    leb-false (row_goal (node_at l n).targets (channel_at l.plan b).sender) (lane_at l b).taken (sym (ap (λ (s : Status). is_replay s && row_complete l n b) q) ∙ e)

pub may_take : (l : Line) (b : ℕ) → no_such l (take b) ≡ false → wrong_status l (take b) ≡ false → nothing_there l (take b) ≡ false → row_done l (take b) ≡ false → CanTake l b
may_take l b is_there right_status something row_open =
    let (s, r) = ends-apart l b right_status in
    let (m, rest, q) = some_first (lane_at l b).queue something in
    record { here = leb-false (channel_count l.plan) b is_there; sender = s; receiver = r; message = m; rest = rest; first = q; below_goal = row_below l b row_open }

pub can_take : {l : Line} {c b : ℕ} → Passed l c (take b) → CanTake l b
can_take {l} {c} {b} p = may_take l b p.is_there p.right_status p.something p.row_open

pub record CanCrash (l : Line) (n : ℕ) : Type 0 where
  pub here : n < node_count l.plan
  pub no_source : is_source l.plan n ≡ false
  pub no_sink : is_sink l.plan n ≡ false
  pub not_yet : (node_at l n).status ≢ down
  pub parents : (c : ℕ) → Enters l.plan n c → (node_at l (channel_at l.plan c).sender).crashed ≡ false
  pub children : (c : ℕ) → Leaves l.plan n c → (node_at l (channel_at l.plan c).receiver).crashed ≡ false

neighbours_apart : (l : Line) (n : ℕ) → neighbour_crashed l n ≡ false
    → ((c : ℕ) → Enters l.plan n c → (node_at l (channel_at l.plan c).sender).crashed ≡ false) × ((c : ℕ) → Leaves l.plan n c → (node_at l (channel_at l.plan c).receiver).crashed ≡ false)
unfolding neighbour_crashed
neighbours_apart l n e =
    let parent : ℕ → Bool = λ c. (node_at l (channel_at l.plan c).sender).crashed in
    let child : ℕ → Bool = λ c. (node_at l (channel_at l.plan c).receiver).crashed in
    let (a, b) = neither_true (any_of parent (entering l.plan n)) (any_of child (leaving l.plan n)) e in
    (λ c h. none_any parent a (in_entering l.plan n c h.0 h.1), λ c h. none_any child b (in_leaving l.plan n c h.0 h.1))

pub can_crash : {l : Line} {c n : ℕ} → Passed l c (crash n) → CanCrash l n
can_crash {l} {c} {n} p =
    let (source, sink) = neither_true (is_source l.plan n) (is_sink l.plan n) p.right_node in
    let (parents, children) = neighbours_apart l n p.apart in
    record {
      here = leb-false (node_count l.plan) n p.is_there;
      no_source = source;
      no_sink = sink;
      not_yet = not_down (node_at l n).status p.right_status;
      parents = parents;
      children = children;
    }

pub record CanRecover (l : Line) (n : ℕ) : Type 0 where
  pub here : n < node_count l.plan
  pub no_source : is_source l.plan n ≡ false
  pub no_sink : is_sink l.plan n ≡ false
  pub stopped : (node_at l n).status ≡ down

pub may_recover : (l : Line) (n : ℕ) → no_such l (recover n) ≡ false → wrong_node l (recover n) ≡ false → wrong_status l (recover n) ≡ false → CanRecover l n
may_recover l n is_there right_node right_status =
    let (source, sink) = neither_true (is_source l.plan n) (is_sink l.plan n) right_node in
    record { here = leb-false (node_count l.plan) n is_there; no_source = source; no_sink = sink; stopped = is_down_lem (node_at l n).status (not-false (node_down l n) right_status) }

pub can_recover : {l : Line} {c n : ℕ} → Passed l c (recover n) → CanRecover l n
can_recover {l} {c} {n} p = may_recover l n p.is_there p.right_node p.right_status

pub can_ask : {l : Line} {c n : ℕ} → Passed l c (ask n) → CanRecover l n
can_ask {l} {c} {n} p = may_recover l n p.is_there p.right_node p.right_status

pub can_commit : {l : Line} {c n : ℕ} → Passed l c (commit n) → CanRecover l n
can_commit {l} {c} {n} p = may_recover l n p.is_there p.right_node p.right_status

-- An Ask that leads to a line, where Recover would lead to one too.
pub ask_leads : (l : Line) (n : ℕ) {k : Line} → effect l (ask n) ≡ some k → ((j : Line) × (recovered_line n l ≡ some j)) × (asked_line n l ≡ k)
unfolding effect
ask_leads l n e = let (j, q, is) = mapped_some (λ (j : Line). asked_line n l) (recovered_line n l) e in ((j, q), is)

pub record CanTrim (l : Line) (n : ℕ) : Type 0 where
  pub here : n < node_count l.plan
  pub all_up : (m : ℕ) → m < node_count l.plan → (node_at l m).status ≡ up

status_up : (s : Status) → not (is_up s) ≡ false → s ≡ up
status_up up e = refl
status_up down e = absurd (true≢false e)
status_up replay e = absurd (true≢false e)

pub can_trim : {l : Line} {c n : ℕ} → Passed l c (trim n) → CanTrim l n
can_trim {l} {c} {n} p =
    record {
      here = leb-false (node_count l.plan) n p.is_there;
      all_up = λ m h. status_up (node_at l m).status (none_any (λ (k : ℕ). not (is_up (node_at l k).status)) p.none_stopped (in_up_to 0 (node_count l.plan) m (omega arith) (omega arith)));
    }

-- A step's answer: with number 0 the effect and one more step, else the line as it was.
module _ (l : Line) (f : List ℕ) where
  pub step-accepted : refusal l f ≡ 0 → ((step l f).number ≡ 0) × ((step l f).line ≡ accepted (frame_console f) l (effect l (frame_of f)))
  unfolding step
  step-accepted e = rw (eq-eqb (refusal l f) 0 e, step) (refl, refl)

  pub step_refused : refusal l f ≢ 0 → ((step l f).number ≢ 0) × ((step l f).line ≡ l)
  unfolding step
  step_refused d = rw (ne_eqb (refusal l f) 0 d, step) (d, refl)
