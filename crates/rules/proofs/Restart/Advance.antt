-- While a node replays, some step on a channel that enters it is accepted and leaves less to do, or brings it up.
use Prim.Native.Nat.{ℕ, max, ◌<◌}
use mathlib.Core.Path.{◌≡◌, refl, sym, ap, subst, ◌∙◌}
use mathlib.Core.Logic.{◌≢◌, ◌⊎◌, inl, inr}
use mathlib.Core.Bool.{Bool, true, false}
use mathlib.Core.List.{List, [], ◌∷◌}
use mathlib.Core.Option.{Option, none, some}
use native.Mathlib.Omega.{arith}
use native.Mathlib.Decide.{dec_le}
use lib.ListN.{length, get_or}
use lib.Dec.{leb, ltb}
use borrow.Author.Tests.{leb-false, lt-leb, le-leb, lt-ltb, ltb-true, eq-eqb}
use Rattle.plan.specs.Plan.{Plan, channel_at, channel_count, entering}
use Rattle.rules.specs.Lists.{is_empty}
use Rattle.rules.specs.Line.{step_limit, console_count, steps_from, queue_limit, Message, Entry, up, down, replay, Lane, Line, no_lane, node_at, lane_at, with_lane, one_more, counted, sender_of, receiver_of, parents}
use Rattle.rules.specs.Frame.{send, take, Caller, console_of}
use Rattle.rules.specs.Clock.{message_of, sent_on, raise_heard}
use Rattle.rules.specs.Recover.{row_goal, row_complete, rows_complete}
use Rattle.rules.specs.Replay.{ended_if_complete}
use Rattle.rules.specs.Step.{no_steps_left, sendable, is_nothing, sent_line, taken_lane, taken_replaying, effect, accepted, refusal, step}
use Rattle.rules.specs.Claim.{named}
use Rattle.rules.specs.Restart.{send_frame, take_frame, unless_used_up, OnEntering, send_next, take_next}
use Rattle.rules.proofs.Lists.ListLaws.{empty_none}
use Rattle.rules.proofs.Lists.Rising.{until, past}
use Rattle.rules.proofs.Lists.Members.{In, here, in_none, in_keep, keep_in}
use Rattle.rules.proofs.Lists.Counts.{in_long}
use Rattle.rules.proofs.Lists.Options.{some_same, something_there}
use Rattle.rules.proofs.Line.Joins.{in_entering, entering_in}
use Rattle.rules.proofs.Line.LineLaws.{lane_there, lane_else}
use Rattle.rules.proofs.Line.Consoles.{counts_left}
use Rattle.rules.proofs.Histories.Ghost.{put, log_put}
use Rattle.rules.proofs.Invariant.Inv.{time_of, SenderUp}
use Rattle.rules.proofs.Invariant.InvLaws.{replay_not_down, replay_marked}
use Rattle.rules.proofs.Invariant.MarkedLaws.{parent_up, goal_message, sender_other}
use Rattle.rules.proofs.Invariant.Stays.{moved}
use Rattle.rules.proofs.Steps.SendInv.{First, sendable_first}
use Rattle.rules.proofs.Steps.HoldInv.{next}
use Rattle.rules.specs.Frame.{frame_of}
use Rattle.rules.proofs.Undamaged.StepSound.{FedBytes}
use Rattle.rules.proofs.Undamaged.Restored.{ended_up}
use Rattle.rules.proofs.Undamaged.TestLaws.{any_by}
use Rattle.rules.proofs.Theorem.Accepted.{CanTake}
use Rattle.rules.proofs.Theorem.StepInv.{sender_gives, again_is}
use Rattle.rules.proofs.Ending.ReplayTakeInv.{Again}
use Rattle.rules.proofs.Restart.Known.{Known}
use Rattle.rules.proofs.Restart.Frames.{send_formed, take_formed, formed_line}
use Rattle.rules.proofs.Restart.NeverUnplaced.{again_here, take_goes}
use Rattle.rules.proofs.Restart.Answers.{answered, ends_there, can, replays}
use Rattle.rules.proofs.Restart.RowsLeft.{total_less, left_by, row_left, rows_left, log_same, less_left, taken_less, sent_less}

-- A caller's frame on a channel that enters node n, accepted, after which the node is up or replays with less left.
pub record Advances (l : Line) (w : Caller) (n : ℕ) : Type 0 where
  pub frame : List ℕ
  pub plain : FedBytes (frame_of frame)
  pub shape : {frames : List (List ℕ)} → OnEntering l.plan w n frames → OnEntering l.plan w n (frame ∷ frames)
  pub accepted : refusal l frame ≡ 0
  pub after : ((node_at (step l frame).line n).status ≡ up) ⊎ (((node_at (step l frame).line n).status ≡ replay) × (rows_left (step l frame).line n < rows_left l n) × ((step l frame).line.steps ≡ one_more (console_of w) l.steps))

pub left_zero : (l : Line) (w : Caller) → steps_from l (console_of w) < step_limit → unless_used_up l w ≡ 0
unfolding unless_used_up no_steps_left
left_zero l w h = rw (lt-leb step_limit (steps_from l (console_of w)) h, unless_used_up)

pub is_named : (p : Plan) (n b : ℕ) → In b (entering p n) → named b (entering p n) ≡ true
is_named p n b i = any_by _ i (eq-eqb b b refl)

module _ (l : Line) (known : Known l) (b : ℕ) (inside : b < channel_count l.plan) (again : (node_at l (receiver_of l b)).status ≡ replay) (open_row : row_complete l (receiver_of l b) b ≡ false) where
  open known use {ghost, cut, base, fed, receipts, crashes, inv, steady, rows}

  abbrev n : ℕ
  n = (channel_at l.plan b).receiver

  marked : (node_at l n).crashed ≡ true
  marked = replay_marked inv.marks n again

  mine : In b (entering l.plan n)
  mine = in_entering l.plan n b inside refl

  sent : SenderUp (node_at l (channel_at l.plan b).sender).time (lane_at l b) (log_put l b) (put l.plan ghost b) (cut b) ((node_at l n).status ≢ down)
  sent = (inv.channels b inside).sender_up (parent_up inv n marked b (inside, refl))

  queue_is : (lane_at l b).queue ≡ until time_of (lane_at l b).mark (past time_of (lane_at l b).taken (log_put l b))
  queue_is = (sent.queue (λ z. replay_not_down (sym again ∙ z))).2

  was_left : left_by false (lane_at l b).taken (lane_at l b).mark (log_put l b) ≡ row_left l n b
  was_left = ap (λ (t : Bool). left_by t (lane_at l b).taken (lane_at l b).mark (log_put l b)) (sym open_row)

  -- What the row still wants is in the sender's log.
  wants : (y : Message) × In y (log_put l b) × ((lane_at l b).taken < y.time)
  unfolding row_complete
  wants =
      let goal = row_goal (node_at l n).targets (channel_at l.plan b).sender in
      let short : (lane_at l b).taken < goal = leb-false goal (lane_at l b).taken open_row in
      let (y, i, _, time) = goal_message inv n again b (inside, refl) (λ z. omega (arith, short)) in
      let late : (lane_at l b).taken < y.time = omega (arith, short, time) in
      let after : Message → Bool = λ x. ltb (lane_at l b).taken x.time in
      let there = subst (λ (x : List Message). In y x) (sym (sent.to_come (λ z. replay_not_down (sym again ∙ z)))) (in_keep after i (lt-ltb (lane_at l b).taken y.time late)) in
      (y, (keep_in after (log_put l b) there).0, late)

  pub some_left : 0 < rows_left l (receiver_of l b)
  some_left =
      let (y, i, late) = wants in
      let one = in_long (in_keep (λ (x : Message). ltb (lane_at l b).taken x.time) i (lt-ltb (lane_at l b).taken y.time late)) in
      omega (arith, total_less (λ c. 0) (row_left l n) (λ c j. omega arith) mine (omega (arith, was_left, one)))

  module _ (w : Caller) (listed : console_of w < console_count) (left : steps_from l (console_of w) < step_limit) where
    -- A message waits: it is taken.
    module _ (queued : is_empty (lane_at l b).queue ≡ false) where
      c : CanTake l b
      c = can l known b again open_row queued

      abbrev m : Message
      m = c.message

      abbrev r : Line
      r = taken_replaying b c.message (taken_lane b c.message c.rest l)

      above : (lane_at l b).taken < m.time
      above = (next l ghost cut base fed receipts crashes inv b inside m c.rest [] c.first (parent_up inv n marked b (inside, refl)) again (c.below_goal again)).2

      in_log : In m (log_put l b)
      in_log =
          (keep_in (λ (x : Message). ltb (lane_at l b).taken x.time) (log_put l b)
          (keep_in (λ (x : Message). leb x.time (lane_at l b).mark) (past time_of (lane_at l b).taken (log_put l b)) (subst (λ (x : List Message). In m x) (sym c.first ∙ queue_is) here)).0).0

      take-accepted : refusal l (take_frame w b) ≡ 0
      take-accepted = replays l known b again open_row queued w listed ∙ left_zero l w left

      goes : (k : Line) × (effect l (take b) ≡ some k)
      goes = take_goes l known b c (counts_left steady.limits.counts listed left)

      line_is : (step l (take_frame w b)).line ≡ counted (console_of w) goes.0
      line_is = formed_line l (take_formed w listed b) take-accepted ∙ ap (accepted (console_of w) l) goes.1

      a : Again l ghost cut base fed receipts crashes inv b c.here c.message c.rest c.first (sender_gives l ghost cut base fed receipts crashes inv b c.message c.rest c.here c.first) again (c.below_goal again) r
      a = again_here l known b c again

      ended : ended_if_complete n r ≡ some goes.0
      ended = sym (again_is l ghost cut base fed receipts crashes inv b c again) ∙ goes.1

      -- The line where the replay goes on.
      abbrev on : Line
      on = moved l (one_more (console_of w) r.steps) r.nodes r.lanes

      on_is : counted (console_of w) r ≡ on
      unfolding counted
      on_is = λ i. record { plan = a.plan i; steps = one_more (console_of w) r.steps; nodes = r.nodes; lanes = r.lanes }

      abbrev lane : Lane
      lane = record { mark = (lane_at l b).mark; taken = max (lane_at l b).taken m.time; heard = raise_heard (parents l.plan (sender_of l b)) (lane_at l b).heard m.origin; queue = c.rest; low = (lane_at l b).low }

      lane_now : lane_at on b ≡ lane
      lane_now = ap (λ (ls : List Lane). get_or ls b no_lane) a.lanes ∙ lane_there b lane l (rw inv.shape.lanes_long inside)

      lane_other : (d : ℕ) → d ≢ b → lane_at on d ≡ lane_at l d
      lane_other d q = ap (λ (ls : List Lane). get_or ls d no_lane) a.lanes ∙ lane_else b lane l d q

      sender_same : (d : ℕ) → In d (entering l.plan n) → node_at on (channel_at l.plan d).sender ≡ node_at l (channel_at l.plan d).sender
      sender_same d i = a.others (channel_at l.plan d).sender (sender_other inv n d (entering_in l.plan n d i))

      row_less : row_left on n b < row_left l n b
      row_less =
          let done = row_complete on n b in
          let taken : (lane_at on b).taken ≡ m.time = ap (λ (x : Lane). x.taken) lane_now ∙ higher above in
          let mark : (lane_at on b).mark ≡ (lane_at l b).mark = ap (λ (x : Lane). x.mark) lane_now in
          let log : log_put on b ≡ log_put l b = log_same l (one_more (console_of w) r.steps) r.nodes r.lanes n a.targets b (sender_same b mine) in
          let now : row_left on n b ≡ left_by done m.time (lane_at l b).mark (log_put l b) = λ i. left_by done (taken i) (mark i) (log i) in
          omega (arith, now, was_left, taken_less m (lane_at l b).taken (lane_at l b).mark (log_put l b) in_log done above)
        where
          higher : (lane_at l b).taken < m.time → max (lane_at l b).taken m.time ≡ m.time
          higher h = omega arith

      abbrev After : Line → Type 0
      After k = ((node_at k n).status ≡ up) ⊎ (((node_at k n).status ≡ replay) × (rows_left k n < rows_left l n) × (k.steps ≡ one_more (console_of w) l.steps))

      after-take : After (counted (console_of w) goes.0)
      unfolding counted ended_if_complete
      after-take = go (rows_complete r n) refl
        where
          go : (t : Bool) → rows_complete r n ≡ t → After (counted (console_of w) goes.0)
          go true e = inl (ended_up r n (rw (a.kept.shape.nodes_long, a.plan) (inv.ordered.inside b inside)) goes.0 (sym (rw (e, ended_if_complete)) ∙ ended))
          go false e =
              let same : r ≡ goes.0 = some_same (sym (rw (e, ended_if_complete)) ∙ ended) in
              subst (λ (x : Line). After (counted (console_of w) x)) same
              (subst After (sym on_is) (inr (a.status, less_left l (one_more (console_of w) r.steps) r.nodes r.lanes n a.targets mine sender_same (λ d i q. lane_other d q) row_less, ap (one_more (console_of w)) a.steps)))

      take_advances : Advances l w n
      take_advances = record { frame = take_frame w b; plain = subst FedBytes (sym (take_formed w listed b).asks) tt; shape = λ s. take_next b (is_named l.plan n b mine) s; accepted = take-accepted; after = rw line_is after-take }

    -- Nothing waits: what the row still wants is in the sender's log, past the mark, and is sent.
    module _ (empty : is_empty (lane_at l b).queue ≡ true) where
      wanted : (y : Message) × In y (log_put l b) × ((lane_at l b).mark < y.time)
      wanted =
          let (y, on, late) = wants in (
            y,
            on,
            elim (dec_le y.time (lane_at l b).mark) [
              | no z ↦ omega arith
              | yes z ↦ absurd (in_none (subst (λ (x : List Message). In y x) (sym queue_is ∙ empty_none (lane_at l b).queue empty)
                  (in_keep (λ (x : Message). leb x.time (lane_at l b).mark) (in_keep (λ (x : Message). ltb (lane_at l b).taken x.time) on (lt-ltb (lane_at l b).taken y.time late)) (le-leb y.time (lane_at l b).mark z))))
            ],
          )

      sendable_there : is_nothing (sendable l b) ≡ false
      sendable_there = go (sendable l b) refl
        where
          go : (o : Option Entry) → sendable l b ≡ o → is_nothing o ≡ false
          go (some e) q = refl
          go none q =
              let (y, i, late) = wanted in
              absurd (in_none (subst (λ (x : List Message). In y x) (subst (λ (x : Option Entry). First x (past time_of (lane_at l b).mark (log_put l b))) q (sendable_first l b)) (in_keep (λ (x : Message). ltb (lane_at l b).mark x.time) i (lt-ltb (lane_at l b).mark y.time late))))

      send_goes : effect l (send b) ≡ some (sent_line b (sendable l b) l)
      unfolding effect
      send_goes = refl

      send_accepted : refusal l (send_frame w b) ≡ 0
      send_accepted =
          answered l w (send_formed w listed b)
          (record {
            is_there = lt-leb (channel_count l.plan) b inside;
            none_stopped = refl;
            right_node = refl;
            right_status = ends_there l known b inside again;
            apart = refl;
            answered = refl;
            record_good = refl;
            something = sendable_there;
            room = ap (λ (q : List Message). leb queue_limit (length q)) (empty_none (lane_at l b).queue empty);
            row_open = refl;
            space = refl;
          })
          (λ h. (_, send_goes))
          ∙ left_zero l w left

      entry : (e : Entry) × (sendable l b ≡ some e)
      entry = something_there (sendable l b) sendable_there

      abbrev e : Entry
      e = entry.0

      abbrev sent_to : Line
      sent_to = with_lane b (sent_on entry.0 (lane_at l b)) l

      sent-line : (step l (send_frame w b)).line ≡ counted (console_of w) sent_to
      unfolding effect
      sent-line = formed_line l (send_formed w listed b) send_accepted ∙ ap (λ (o : Option Entry). counted (console_of w) (sent_line b o l)) entry.1

      first_sent : In (message_of e) (log_put l b) × (ltb (lane_at l b).mark e.time ≡ true)
      first_sent =
          let (rest, q) = subst (λ (x : Option Entry). First x (past time_of (lane_at l b).mark (log_put l b))) entry.1 (sendable_first l b) in
          keep_in (λ (x : Message). ltb (lane_at l b).mark x.time) (log_put l b) (subst (λ (x : List Message). In (message_of e) x) (sym q) here)

      send_less : rows_left (counted (console_of w) sent_to) n < rows_left l n
      unfolding counted with_lane sent_on
      send_less =
          let x = sent_on e (lane_at l b) in
          let k = moved l (one_more (console_of w) l.steps) l.nodes sent_to.lanes in
          let lane_now : lane_at k b ≡ x = lane_there b x l (rw inv.shape.lanes_long inside) in
          let done = row_complete k n b in
          let taken : (lane_at k b).taken ≡ (lane_at l b).taken = ap (λ (y : Lane). y.taken) lane_now in
          let mark : (lane_at k b).mark ≡ e.time = ap (λ (y : Lane). y.mark) lane_now in
          let log : log_put k b ≡ log_put l b = log_same l (one_more (console_of w) l.steps) l.nodes sent_to.lanes n refl b refl in
          let now : row_left k n b ≡ left_by done (lane_at l b).taken e.time (log_put l b) = λ i. left_by done (taken i) (mark i) (log i) in
          let (i, late) = first_sent in
          less_left l (one_more (console_of w) l.steps) l.nodes sent_to.lanes n refl mine (λ d j. refl) (λ d j q. lane_else b x l d q)
          (omega (arith, now, was_left, sent_less (message_of e) (lane_at l b).taken (lane_at l b).mark (log_put l b) i done (ltb-true (lane_at l b).mark e.time late)))

      send_advances : Advances l w n
      unfolding counted with_lane
      send_advances = record { frame = send_frame w b; plain = subst FedBytes (sym (send_formed w listed b).asks) tt; shape = λ s. send_next b (is_named l.plan n b mine) s; accepted = send_accepted; after = rw sent-line (inr (again, send_less, refl)) }

    pub advance_at : Advances l w (receiver_of l b)
    advance_at = go (is_empty (lane_at l b).queue) refl
      where
        go : (t : Bool) → is_empty (lane_at l b).queue ≡ t → Advances l w n
        go false q = take_advances q
        go true q = send_advances q
