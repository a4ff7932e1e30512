-- Every accepted frame keeps the limits, and ends a replay whose rows are complete.
use Prim.Native.Nat.{ℕ, suc, max, ◌+◌, ◌<◌, ◌≤◌}
use mathlib.Core.Path.{◌≡◌, refl, sym, ap, subst, ◌∙◌}
use mathlib.Core.Logic.{◌≢◌, inl, inr}
use mathlib.Core.Bool.{Bool, true, false, cond, ◌&&◌}
use mathlib.Core.List.{List, []}
use mathlib.Core.Option.{Option, none, some}
use native.Mathlib.Omega.{arith}
use native.Mathlib.Decide.{ℕ_discrete}
use lib.ListN.{length-append, length, length-set}
use lib.Dec.{leb}
use borrow.Author.Tests.{leb-false}
use Rattle.plan.specs.declared.Record.{Record}
use Rattle.plan.specs.Record.{record_layout}
use Rattle.plan.specs.Plan.{channel_at, channel_count, entering}
use Rattle.plan.specs.Mask.{set_of}
use Rattle.placing.specs.Table.{most_items}
use Rattle.placing.specs.Rules.{KeepsRules}
use Rattle.rules.specs.Lists.{joined, is_empty}
use Rattle.rules.specs.Line.{log_limit, held_limit, fed, made, Origin, Message, Entry, Held, Status, up, replay, Node, Lane, Line, node_at, lane_at, accepted_steps, with_node, with_lane, fresh_lane, parents, is_replay, sender_of}
use Rattle.rules.specs.Frame.{Frame, feed, send, take, crash, recover, trim, ask, commit, frame_console, frame_of}
use Rattle.rules.specs.Clock.{logged, sent_on, taken_from, raise_heard}
use Rattle.rules.specs.Recover.{high_of, targets_of, conflict, rows_complete, recovered, status_of, answer_of}
use Rattle.rules.specs.Replay.{passed_on, timed, time_for, held_by_row, items_by_row, node_placed, holding, ended_if_complete}
use Rattle.rules.specs.Step.{take_lacks, made_by, to_hold, first_record, fed_line, sent_line, taken_up, taken_lane, taken_replaying, recovered_line, asking, asked_line, effect, refusal, accepted, step}
use Rattle.rules.specs.Plain.{Act, Receipt}
use Rattle.rules.proofs.Lists.ListLaws.{empty_none}
use Rattle.rules.proofs.Lists.Options.{some_same, none_some}
use Rattle.rules.proofs.Line.LineLaws.{node_there, node_else, lane_there, lane_else}
use Rattle.rules.proofs.Histories.Ghost.{Ghost}
use Rattle.rules.proofs.Invariant.Inv.{Inv, is_up}
use Rattle.rules.proofs.Invariant.InvLaws.{up_not_replay, up_not_down, replay_not_down, source_up, replay_marked, marked_unless_up}
use Rattle.rules.proofs.Invariant.MarkedLaws.{at-ends, parent_up}
use Rattle.rules.proofs.Invariant.Grow.{sender_taken, sender_cut}
use Rattle.rules.proofs.Lists.Counts.{length_snoc}
use Rattle.rules.proofs.Invariant.Limits.{Limits, OpenAt, Steady, counted_steady, high_within, open_stays, limits_by}
use Rattle.rules.proofs.Ending.Ends.{EndsAs, goes_on_lem, ends_at, ended_as}
use Rattle.rules.proofs.Ending.Targets.{low_high}
use Rattle.rules.proofs.Undamaged.PlacedLog.{log_placed}
use Rattle.rules.proofs.Undamaged.Restored.{restored_node, restored_line, recovered_is, restored-node, restored_else, restored_shape, restored_enters, restored_leaves, restored-beside}
use Rattle.rules.proofs.Undamaged.Crashed.{crashed_after, crashed_is, crashed_node, crashed_else, crashed_enters, crashed_leaves, crashed_beside}
use Rattle.rules.proofs.Steps.CrashInv as CrashInv
use Rattle.rules.proofs.Ending.RecoverInv as RecoverInv
use Rattle.rules.proofs.Theorem.StepInv.{up_or_replay, sender_gives, taken_is, again_is, Answered}
use Rattle.rules.proofs.Theorem.Unmoved.{effect-steps}
use Rattle.rules.specs.Trim.{droppable, low_raised}
use Rattle.rules.proofs.Invariant.Trimmed.{leading-behind, run, rest, trimmed, trimmed_is, trimmed_node, trimmed_else, node_same, lane_same}
use Rattle.rules.proofs.Theorem.Accepted.{can_trim, Passed, passed, step-accepted, CanFeed, can_feed, can_send, CanTake, can_take, can_crash, CanRecover, can_recover, can_ask, can_commit, ask_leads}
use Rattle.rules.proofs.Undamaged.Committed.{commit_is, recover_leads, as_recover}
use Rattle.rules.proofs.Histories.Passing.{time_near}

-- The same with a step to spare.
limits_later : {l : Line} → Limits 0 l → Limits 1 l
limits_later s = record { counts = s.counts; logs = s.logs; times = λ n. omega (arith, s.times n); entries = λ b h. omega (arith, s.entries b h) }

-- A replay that may end: the other replays have an open row.
module _ (n : ℕ) (l : Line) (inside : n < length l.nodes) (s : Limits 1 l) (others : (m : ℕ) → m ≢ n → OpenAt l m) where
  abbrev rows : List (List Held)
  rows = held_by_row (node_at l n).held l (entering l.plan n)

  placed_steady : (columns : List ℕ) → KeepsRules (node_at l n).time (high_of l n) (items_by_row l n 0 rows) columns → length (items_by_row l n 0 rows) ≤ most_items → Steady 1 (with_node n (node_placed l n (joined rows) columns) l)
  unfolding with_node node_placed
  placed_steady columns keeps few =
      let x = node_placed l n (joined rows) columns in
      let k = with_node n x l in
      let now : node_at k n ≡ x = node_there n x l inside in
      record {
        limits = limits_by l k.nodes l.lanes n (node_else n x l) (rw now (log_placed (set_of l.plan n) l n rows (node_at l n).time (high_of l n) columns keeps few).few) (rw now (high_within s n)) s.entries (omega arith) s;
        open_rows = λ m. elim (ℕ_discrete m n) [
          | yes q ↦ λ z. absurd (up_not_replay (sym (ap (λ (y : Node). y.status) now) ∙ ap (λ (y : ℕ). (node_at k y).status) (sym q) ∙ z))
          | no d ↦ (let same = node_else n x l m d in open_stays l l.steps k.nodes l.lanes m (ap (λ (y : Node). y.status) same) (ap (λ (y : Node). y.targets) same) (λ b h. refl) (others m d))
        ];
      }

  pub ended_steady : {k : Line} → EndsAs n l k → Steady 1 k
  ended_steady (goes_on_lem c) = record { limits = s; open_rows = λ m. elim (ℕ_discrete m n) [ yes q ↦ λ z. ap (rows_complete l) q ∙ c | no d ↦ others m d ] }
  ended_steady (ends_at c h columns keeps few) = placed_steady columns keeps few

-- A node that is up logs.
module _ (l : Line) (s : Steady 0 l) (n : ℕ) (inside : n < length l.nodes) (alive : is_up l n) (space : length (node_at l n).log < log_limit) (at : ℕ) (not-far : at ≤ suc (node_at l n).time) (chosen : ℕ) (what : Record) (origin before : Origin) where
  abbrev x : Node
  x = logged at chosen what origin before (node_at l n)

  log_steady : Steady 1 (with_node n (logged at chosen what origin before (node_at l n)) l)
  unfolding with_node logged
  log_steady =
      let now : node_at (with_node n x l) n ≡ x = node_there n x l inside in
      let limits = s.limits in
      record {
        limits = limits_by l (with_node n x l).nodes l.lanes n (node_else n x l) (rw now (omega (arith, length_snoc (node_at l n).log (record { what = what; time = at; origin = origin; before = before; set = chosen })))) (rw now (omega (arith, limits.times n)))
            (λ b h. omega (arith, limits.entries b h)) (omega arith) limits;
        open_rows = λ m. elim (ℕ_discrete m n) [
          | yes q ↦ λ z. absurd (up_not_replay (sym (ap (λ (y : Node). y.status) now ∙ alive) ∙ ap (λ (y : ℕ). (node_at (with_node n x l) y).status) (sym q) ∙ z))
          | no d ↦ (let same = node_else n x l m d in open_stays l l.steps (with_node n x l).nodes l.lanes m (ap (λ (y : Node). y.status) same) (ap (λ (y : Node). y.targets) same) (λ b h. refl) (s.open_rows m))
        ];
      }

module _ (l : Line) (g : Ghost) (cut base : ℕ → ℕ) (acts : List Act) (receipts : List Receipt) (crashes : List ℕ) (inv : Inv l g cut base acts receipts crashes) (s : Steady 0 l) where
  feed_steady : (n : ℕ) (r : List ℕ) → {c : ℕ} → Passed l c (feed n r) → (k : Line) → effect l (feed n r) ≡ some k → Steady 1 k
  unfolding effect fed_line
  feed_steady n r p k e = subst (Steady 1) (some_same e) (one (timed l.plan n (made_by l n (record_layout.read r))) refl)
    where
      can : CanFeed l n
      can = can_feed p

      one : (t : Bool) → timed l.plan n (made_by l n (record_layout.read r)) ≡ t → Steady 1 (elim t [ true ↦ with_node n (logged (suc (node_at l n).time) (set_of l.plan n (made_by l n (record_layout.read r))) (made_by l n (record_layout.read r)) fed fed (node_at l n)) l | false ↦ l ])
      one true q =
          log_steady l s n (rw inv.shape.nodes_long can.here) (source_up inv.marks n can.source)
          (leb-false log_limit (length (node_at l n).log) (ap (λ (t : Bool). t && leb log_limit (length (node_at l n).log)) (sym q) ∙ p.space)) (suc (node_at l n).time) (omega arith) (set_of l.plan n (made_by l n (record_layout.read r))) (made_by l n (record_layout.read r)) fed fed
      one false q = (let limits = s.limits in record { limits = record { counts = limits.counts; logs = limits.logs; times = λ m. omega (arith, limits.times m); entries = λ b h. omega (arith, limits.entries b h) }; open_rows = s.open_rows })

  send_steady : (b : ℕ) → {c : ℕ} → Passed l c (send b) → (k : Line) → effect l (send b) ≡ some k → Steady 1 k
  unfolding effect with_lane sent_on
  send_steady b p k e =
      let can = can_send p in
      let x = sent_on can.entry (lane_at l b) in
      let same : (c : ℕ) → (lane_at (with_lane b x l) c).taken ≡ (lane_at l c).taken =
      λ c. elim (ℕ_discrete c b) [
        | yes q ↦ ap (λ (y : ℕ). (lane_at (with_lane b x l) y).taken) q ∙ ap (λ (y : Lane). y.taken) (lane_there b x l (rw inv.shape.lanes_long can.here)) ∙ ap (λ (y : ℕ). (lane_at l y).taken) (sym q)
        | no d ↦ ap (λ (y : Lane). y.taken) (lane_else b x l c d)
      ] in
      let limits = s.limits in
      subst (Steady 1) (ap (λ (o : Option Entry). sent_line b o l) (sym can.first) ∙ some_same e)
      (record {
        limits = record { counts = limits.counts; logs = limits.logs; times = λ n. omega (arith, limits.times n); entries = λ c h. omega (arith, limits.entries c h, same c) };
        open_rows = λ m. open_stays l l.steps l.nodes (with_lane b x l).lanes m refl refl (λ c h. same c) (s.open_rows m);
      })

  -- The channel of a Take: its entry is the message's time, not past the sender's.
  module _ (b : ℕ) (can : CanTake l b) where
    abbrev m : Message
    m = can.message

    abbrev n : ℕ
    n = (channel_at l.plan b).receiver

    abbrev lane : Lane
    lane = record { mark = (lane_at l b).mark; taken = max (lane_at l b).taken m.time; heard = raise_heard (parents l.plan (sender_of l b)) (lane_at l b).heard m.origin; queue = can.rest; low = (lane_at l b).low }

    abbrev beside : Line
    beside = with_lane b lane l

    message-within : m.time ≤ (node_at l (channel_at l.plan b).sender).time
    message-within =
        let c = inv.channels b can.here in
        let sent = c.sender_up (sender_gives l g cut base acts receipts crashes inv b m can.rest can.here can.first) in
        (sender_taken m can.rest [] can.receiver c.rises can.first refl (sender_cut sent.taken_within sent)).0.taken_within

    beside_entries : (c : ℕ) → c < channel_count l.plan → (lane_at beside c).taken ≤ accepted_steps l + 0
    beside_entries c h =
        elim (ℕ_discrete c b) [
          | yes q ↦ subst (λ (y : ℕ). (lane_at beside y).taken ≤ accepted_steps l + 0) (sym q)
              (omega (arith, ap (λ (y : Lane). y.taken) (lane_there b lane l (rw inv.shape.lanes_long can.here)), message-within, s.limits.times (channel_at l.plan b).sender, s.limits.entries b can.here))
          | no d ↦ omega (arith, ap (λ (y : Lane). y.taken) (lane_else b lane l c d), s.limits.entries c h)
        ]

    beside_limits : Limits 0 beside
    unfolding with_lane
    beside_limits = record { counts = s.limits.counts; logs = s.limits.logs; times = s.limits.times; entries = beside_entries }

    beside_open : (k : ℕ) → k ≢ n → OpenAt beside k
    unfolding with_lane
    beside_open k d =
        open_stays l l.steps l.nodes beside.lanes k refl refl (λ c h. ap (λ (y : Lane). y.taken) (lane_else b lane l c (λ q. d (sym h.1 ∙ ap (λ (y : ℕ). (channel_at l.plan y).receiver) q)))) (s.open_rows k)

    inside : n < length l.nodes
    inside = rw inv.shape.nodes_long (inv.ordered.inside b can.here)

    take_up_steady : {c : ℕ} → Passed l c (take b) → is_up l n → (k : Line) → effect l (take b) ≡ some k → Steady 1 k
    unfolding taken_lane taken_up taken_from with_lane take_lacks
    take_up_steady p alive k e =
        let steady : Steady 0 beside = record { limits = beside_limits; open_rows = λ k. elim (ℕ_discrete k n) [ yes q ↦ λ z. absurd (up_not_replay (sym alive ∙ ap (λ (y : ℕ). (node_at l y).status) (sym q) ∙ z)) | no d ↦ beside_open k d ] } in
        let space : leb log_limit (length (node_at l n).log) ≡ false = sym (ap (λ (t : Status). cond (is_replay t) (to_hold l n (first_record (lane_at l b).queue) && leb held_limit (length (node_at l n).held)) (leb log_limit (length (node_at l n).log))) alive) ∙ p.space in
        subst (Steady 1) (some_same (sym (taken_is l g cut base acts receipts crashes inv b can alive) ∙ e))
        (log_steady beside steady n inside alive (leb-false log_limit (length (node_at l n).log) space) (time_for l.plan n (made_by l n m.what) (node_at l n).time) (time_near l.plan n (made_by l n m.what) (node_at l n).time) (set_of l.plan n (made_by l n m.what)) (made_by l n m.what) (made (sender_of l b) m.time) m.origin)

    -- Held or dropped, the node's log and time are as they were.
    abbrev pub Fair : Line → Type 0
    Fair k = Limits 1 k × ((m : ℕ) → m ≢ n → OpenAt k m) × (n < length k.nodes)

    held_fair : (h : Held) → Fair (with_node n (holding h (node_at beside n)) beside)
    unfolding with_node with_lane holding
    held_fair h =
        let x = holding h (node_at beside n) in
        let k = with_node n x beside in
        let now : node_at k n ≡ x = node_there n x beside inside in (
          limits_by beside k.nodes beside.lanes n (node_else n x beside) (rw now (s.limits.logs n)) (rw now (omega (arith, s.limits.times n))) (λ c i. omega (arith, beside_entries c i)) (omega arith) beside_limits,
          λ j d. (let same = node_else n x beside j d in open_stays beside l.steps k.nodes beside.lanes j (ap (λ (y : Node). y.status) same) (ap (λ (y : Node). y.targets) same) (λ c i. refl) (beside_open j d)),
          omega (arith, inside, length-set l.nodes n x),
        )

    pub again_fair : Fair (taken_replaying b m (taken_lane b m can.rest l))
    unfolding taken_replaying taken_lane taken_from with_lane
    again_fair = go (passed_on l.plan n (made_by l n m.what)) refl
      where
        go : (t : Bool) → passed_on l.plan n (made_by l n m.what) ≡ t → Fair (taken_replaying b m (taken_lane b m can.rest l))
        go true t = rw (t, taken_replaying) (held_fair _)
        go false t = rw (t, taken_replaying) (limits_later beside_limits, beside_open, inside)

    pub take_again_steady : {k : Line} → EndsAs n (taken_replaying b can.message (taken_lane b can.message can.rest l)) k → Steady 1 k
    take_again_steady e =
        let (limits, others, long) = again_fair in
        ended_steady n (taken_replaying b m (taken_lane b m can.rest l)) long limits others e

  take_steady : (b : ℕ) → {c : ℕ} → Passed l c (take b) → (k : Line) → effect l (take b) ≡ some k → Steady 1 k
  take_steady b p k e =
      let can = can_take p in
      elim (up_or_replay (node_at l (channel_at l.plan b).receiver).status can.receiver) [
        | inl alive ↦ take_up_steady b can p alive k e
        | inr again ↦ take_again_steady b can (ended_as _ _ k (sym (again_is l g cut base acts receipts crashes inv b can again) ∙ e))
      ]

  crash_steady : (n : ℕ) → {c : ℕ} → Passed l c (crash n) → (k : Line) → effect l (crash n) ≡ some k → Steady 1 k
  unfolding effect fresh_lane
  crash_steady n p k e =
      let can = can_crash p in
      let x = crashed_after l n in
      let now = crashed_node l n inv.ordered inv.shape can.here in
      let other = crashed_else l n inv.ordered inv.shape in
      let steps = l.steps in
      let entries : (c : ℕ) → c < channel_count l.plan → (lane_at x c).taken ≤ accepted_steps l + 1 =
      λ c h. at-ends l.plan n c h (λ i. omega (arith, ap (λ (y : Lane). y.taken) (crashed_enters l n inv.ordered inv.shape c i)))
      (λ i. omega (arith, ap (λ (y : Lane). y.taken) (crashed_leaves l n inv.ordered inv.shape c i), s.limits.entries c h))
      (λ d q. omega (arith, ap (λ (y : Lane). y.taken) (crashed_beside l n inv.ordered inv.shape c d q), s.limits.entries c h)) in
      subst (Steady 1) (sym (crashed_is l n inv.ordered inv.shape) ∙ some_same e)
      (record {
        limits = limits_by l x.nodes x.lanes n other (rw now (omega arith)) (rw now (omega arith)) entries (omega arith) s.limits;
        open_rows = λ m z. elim (ℕ_discrete m n) [
          | yes q ↦ absurd (replay_not_down (sym z ∙ ap (λ (y : ℕ). (node_at x y).status) q ∙ ap (λ (y : Node). y.status) now))
          | no d ↦
              (let same = other m d in
              let was : (node_at l m).status ≡ replay = ap (λ (y : Node). y.status) (sym same) ∙ z in
              open_stays l l.steps x.nodes x.lanes m (ap (λ (y : Node). y.status) same) (ap (λ (y : Node). y.targets) same)
              (λ b h. ap (λ (y : Lane). y.taken) (CrashInv.lane-into l g cut base acts receipts crashes inv n can.here can.no_source can.no_sink can.parents can.children (s.limits.logs n) m d (replay_marked inv.marks m was) b h)) (s.open_rows m) z)
        ];
      })

  recover_steady : (n : ℕ) → {c : ℕ} → Passed l c (recover n) → (k : Line) → effect l (recover n) ≡ some k → Steady 1 k
  unfolding effect recovered_line fresh_lane
  recover_steady n p k e = go (conflict (targets_of l n)) (is_empty (targets_of l n)) refl e
    where
      can : CanRecover l n
      can = can_recover p

      x : Line
      x = restored_line l n

      now : node_at (restored_line l n) n ≡ restored_node l n
      now = restored-node l n inv.ordered inv.shape can.here

      other : (m : ℕ) → m ≢ n → node_at (restored_line l n) m ≡ node_at l m
      other = restored_else l n inv.ordered inv.shape

      marked : (node_at l n).crashed ≡ true
      marked = marked_unless_up inv.marks n (λ z. up_not_down (sym z ∙ can.stopped))

      entries : (c : ℕ) → c < channel_count l.plan → (lane_at (restored_line l n) c).taken ≤ accepted_steps l + 1
      entries c h =
          at-ends l.plan n c h
          (λ i. omega (
            arith,
            ap (λ (y : Lane). y.taken) (restored_enters l n inv.ordered inv.shape c i),
            RecoverInv.restored_got l g cut base acts receipts crashes inv n can.here can.stopped c i,
            ((inv.channels c h).sender_up (parent_up inv n marked c i)).cut_within,
            s.limits.times (channel_at l.plan c).sender,
          ))
          (λ i. omega (arith, ap (λ (y : Lane). y.taken) (restored_leaves l n inv.ordered inv.shape c i), s.limits.entries c h))
          (λ d q. omega (arith, ap (λ (y : Lane). y.taken) (restored-beside l n inv.ordered inv.shape c d q), s.limits.entries c h))

      limits : Limits 1 (recovered n l)
      limits = rw (recovered_is l n inv.ordered inv.shape) (limits_by l x.nodes x.lanes n other (rw now (omega arith)) (rw now (omega (arith, low_high l n, high_within s.limits n))) entries (omega arith) s.limits)

      others : (m : ℕ) → m ≢ n → OpenAt (recovered n l) m
      others m d =
          rw (recovered_is l n inv.ordered inv.shape)
          (λ z.
          (let same = other m d in
          let was : (node_at l m).status ≡ replay = ap (λ (y : Node). y.status) (sym same) ∙ z in
          open_stays l l.steps x.nodes x.lanes m (ap (λ (y : Node). y.status) same) (ap (λ (y : Node). y.targets) same)
          (λ b h. ap (λ (y : Lane). y.taken) (RecoverInv.lane-into l g cut base acts receipts crashes inv n can.here can.stopped m d (replay_marked inv.marks m was) b h)) (s.open_rows m) z))

      up_now : is_empty (targets_of l n) ≡ true → (node_at (recovered n l) n).status ≡ up
      up_now q = ap (λ (y : Line). (node_at y n).status) (recovered_is l n inv.ordered inv.shape) ∙ ap (λ (y : Node). y.status) now ∙ ap status_of (empty_none (targets_of l n) q)

      go : (clash empty : Bool) → is_empty (targets_of l n) ≡ empty → (elim clash [ true ↦ none | false ↦ elim empty [ true ↦ some (recovered n l) | false ↦ ended_if_complete n (recovered n l) ] ]) ≡ some k → Steady 1 k
      go true empty q z = none_some z
      go false true q z =
          subst (Steady 1) (some_same z)
          (record { limits = limits; open_rows = λ m. elim (ℕ_discrete m n) [ yes r ↦ λ y. absurd (up_not_replay (sym (up_now q) ∙ ap (λ (i : ℕ). (node_at (recovered n l) i).status) (sym r) ∙ y)) | no d ↦ others m d ] })
      go false false q z = ended_steady n (recovered n l) long limits others (ended_as n (recovered n l) k z)
        where
          long : n < length (recovered n l).nodes
          long = rw (recovered_is l n inv.ordered inv.shape, (restored_shape l n inv.ordered inv.shape).nodes_long) can.here

  -- A log only gets shorter.
  trim_steady : (n : ℕ) → {c : ℕ} → Passed l c (trim n) → (k : Line) → effect l (trim n) ≡ some k → Steady 1 k
  unfolding effect low_raised
  trim_steady n p k e =
      let can = can_trim p in
      let x = trimmed l n in
      let now = trimmed_node l n (rw inv.shape.nodes_long can.here) in
      let long = ap length (leading-behind (droppable l n) (node_at l n).log) ∙ length-append (run l n) (rest l n) in
      let takens = lane_same l n inv.shape can.here (λ (y : Lane). y.taken) (λ c y. refl) in
      subst (Steady 1) (sym (trimmed_is l n) ∙ some_same e)
      (record {
        limits = limits_by l x.nodes x.lanes n (trimmed_else l n) (rw now (omega (arith, long, s.limits.logs n))) (rw now (omega (arith, s.limits.times n))) (λ b h. omega (arith, takens b h, s.limits.entries b h)) (omega arith) s.limits;
        open_rows = λ m. open_stays l l.steps x.nodes x.lanes m (node_same l n inv.shape can.here (λ (y : Node). y.status) refl m) (node_same l n inv.shape can.here (λ (y : Node). y.targets) refl m) (λ b h. takens b h.0) (s.open_rows m);
      })

  ask_steady : (n : ℕ) → {c : ℕ} → Passed l c (ask n) → (k : Line) → effect l (ask n) ≡ some k → Steady 1 k
  unfolding with_node asked_line asking
  ask_steady n p k e =
      let can = can_ask p in
      let x = asking (answer_of l n) (targets_of l n) (node_at l n) in
      let now : node_at (with_node n x l) n ≡ x = node_there n x l (rw inv.shape.nodes_long can.here) in
      let limits = s.limits in
      subst (Steady 1) (ask_leads l n e).1
      (record {
        limits = limits_by l (with_node n x l).nodes l.lanes n (node_else n x l) (rw now (limits.logs n)) (rw now (omega (arith, limits.times n))) (λ b h. omega (arith, limits.entries b h)) (omega arith) limits;
        open_rows = λ m. elim (ℕ_discrete m n) [
          | yes q ↦ λ z. absurd (replay_not_down (sym z ∙ ap (λ (y : ℕ). (node_at (with_node n x l) y).status) q ∙ ap (λ (y : Node). y.status) now ∙ can.stopped))
          | no d ↦ (let same = node_else n x l m d in open_stays l l.steps (with_node n x l).nodes l.lanes m (ap (λ (y : Node). y.status) same) (ap (λ (y : Node). y.targets) same) (λ b h. refl) (s.open_rows m))
        ];
      })

  pub effect_steady : Answered l → {c : ℕ} (f : Frame) → Passed l c f → (k : Line) → effect l f ≡ some k → Steady 1 k
  effect_steady right (feed n r) p k e = feed_steady n r p k e
  effect_steady right (send b) p k e = send_steady b p k e
  effect_steady right (take b) p k e = take_steady b p k e
  effect_steady right (crash n) p k e = crash_steady n p k e
  effect_steady right (recover n) p k e = recover_steady n p k e
  effect_steady right (trim n) p k e = trim_steady n p k e
  effect_steady right (ask n) p k e = ask_steady n p k e
  effect_steady right (commit n) p k e =
      let can = can_commit p in
      let q = as_recover l n p (right n) inv.ordered inv.shape can.here in
      recover_steady n q k (recover_leads l n p (right n) inv.ordered inv.shape can.here ∙ sym (commit_is l n p (right n)) ∙ e)

  pub step_steady : Answered l → (f : List ℕ) → refusal l f ≡ 0 → Steady 0 (step l f).line
  step_steady right f e =
      let p = passed l f e in
      subst (Steady 0) (sym ((step-accepted l f e).1 ∙ ap (accepted (frame_console f) l) p.leads)) (counted_steady (frame_console f) p.console (rw (effect-steps l (frame_of f) p.leads) p.steps_left) (effect_steady right (frame_of f) p p.next p.leads))
