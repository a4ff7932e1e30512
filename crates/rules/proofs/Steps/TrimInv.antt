-- Trim keeps the invariant: histories do not move, and what is gone from the log is up to the floor times.
use Prim.Native.Nat.{ℕ, ◌<◌, ◌≤◌}
use mathlib.Core.Path.{◌≡◌, refl, sym, ap, subst, ◌∙◌}
use mathlib.Core.Logic.{◌≢◌, ◌⊎◌, inl, inr}
use mathlib.Core.Bool.{Bool, true, false}
use mathlib.Core.List.{List, ◌++◌, map, append_assoc}
use native.Mathlib.Omega.{arith}
use native.Mathlib.Decide.{ℕ_discrete}
use lib.ListN.{length, drop}
use lib.Dec.{leb, ltb}
use borrow.Author.Tests.{leb-true}
use Rattle.basics.specs.Bools.{both_true}
use Rattle.plan.specs.Plan.{channel_at, node_count, channel_count, is_source, is_sink}
use Rattle.rules.specs.Lists.{keep}
use Rattle.rules.specs.Line.{made, Message, Entry, Target, up, replay, Node, Lane, Line, node_at, lane_at, parents, sender_of}
use Rattle.rules.specs.Clock.{message_of, entry_for}
use Rattle.rules.specs.Recover.{low_of, child_triples, low_through, restored}
use Rattle.rules.specs.Replay.{passed_on}
use Rattle.rules.specs.Trim.{floor_time, sender_below, droppable, leading, behind, low_after, low_raised, trimmed_line}
use Rattle.rules.specs.Plain.{Act, Receipt}
use Rattle.rules.proofs.Lists.ListLaws.{keep_append, map-append}
use Rattle.rules.proofs.Lists.Rising.{until, past, Within, past_none, past_past}
use Rattle.rules.proofs.Lists.Members.{In, keep_in, in_map, map_in, in_left, in_right, append_in, within_by}
use Rattle.rules.proofs.Histories.Ghost.{Event, took_at, Ghost, entry_of, takes_message, put, log_put}
use Rattle.rules.proofs.Histories.Passing.{passing, has_entry}
use Rattle.rules.proofs.Histories.Carried.{taken_event}
use Rattle.rules.proofs.Line.Joins.{no_source}
use Rattle.rules.proofs.Ending.Targets.{in_triples_at, triples_at_in, low_below, low_above, low_same, low_restored}
use Rattle.rules.proofs.Ending.Children.{made_parts, triples_from, is_parent}
use Rattle.rules.proofs.Invariant.Inv.{time_of, Enters, Leaves, UnmarkedChildren, low_on, Logged, Nodes, Events, Channels, Ends, Room, log_passing, HasRoom, Inv}
use Rattle.rules.proofs.Invariant.InvLaws.{up_not_replay, not_up_inside}
use Rattle.rules.proofs.Invariant.Stays.{heard_same, marks_stay}
use Rattle.rules.proofs.Invariant.Logs.{restored-rises}
use Rattle.rules.proofs.Invariant.Trimmed.{leading-behind, leading_true, leading-map, behind-map, run, rest, trimmed, trimmed_is, trimmed_shape, trimmed_node, trimmed_else, trimmed_enters, trimmed_beside, node_same, lane_same}
use Rattle.rules.proofs.Invariant.Lows.{after_long, after_above, after_holds, after_from}
use Rattle.rules.proofs.Steps.Floors.{floor_entry, own_took, children_of, restored_floor}

module _ (l : Line) (g : Ghost) (cut base : ℕ → ℕ) (fed : List Act) (receipts : List Receipt) (crashes : List ℕ) (inv : Inv l g cut base fed receipts crashes)
    (n : ℕ) (inside : n < node_count l.plan) (all_up : (m : ℕ) → m < node_count l.plan → (node_at l m).status ≡ up) where
  abbrev k : Line
  k = trimmed l n

  pub statuses : (m : ℕ) → (node_at (trimmed l n) m).status ≡ (node_at l m).status
  statuses = node_same l n inv.shape inside (λ (x : Node). x.status) refl

  pub marks : (m : ℕ) → (node_at (trimmed l n) m).crashed ≡ (node_at l m).crashed
  marks = node_same l n inv.shape inside (λ (x : Node). x.crashed) refl

  times : (m : ℕ) → (node_at (trimmed l n) m).time ≡ (node_at l m).time
  times = node_same l n inv.shape inside (λ (x : Node). x.time) refl

  pub takens : (c : ℕ) → c < channel_count l.plan → (lane_at (trimmed l n) c).taken ≡ (lane_at l c).taken
  unfolding low_raised
  takens = lane_same l n inv.shape inside (λ (x : Lane). x.taken) (λ c x. refl)

  mark_same : (c : ℕ) → c < channel_count l.plan → (lane_at (trimmed l n) c).mark ≡ (lane_at l c).mark
  unfolding low_raised
  mark_same = lane_same l n inv.shape inside (λ (x : Lane). x.mark) (λ c x. refl)

  heards : (c : ℕ) → c < channel_count l.plan → (lane_at (trimmed l n) c).heard ≡ (lane_at l c).heard
  unfolding low_raised
  heards = lane_same l n inv.shape inside (λ (x : Lane). x.heard) (λ c x. refl)

  queues : (c : ℕ) → c < channel_count l.plan → (lane_at (trimmed l n) c).queue ≡ (lane_at l c).queue
  unfolding low_raised
  queues = lane_same l n inv.shape inside (λ (x : Lane). x.queue) (λ c x. refl)

  -- The node's log, and the low clock on a channel that enters it.
  pub log_now : (node_at (trimmed l n) n).log ≡ rest l n
  log_now = ap (λ (x : Node). x.log) (trimmed_node l n (rw inv.shape.nodes_long inside))

  pub low_now : (b : ℕ) → Enters l.plan n b → (lane_at (trimmed l n) b).low ≡ low_after (parents l.plan (sender_of l b)) (sender_of l b) (run l n) (lane_at l b).low
  unfolding low_raised
  low_now b h = ap (λ (x : Lane). x.low) (trimmed_enters l n b h (rw inv.shape.lanes_long h.0))

  pub low_else : (b : ℕ) → (channel_at l.plan b).receiver ≢ n → (lane_at (trimmed l n) b).low ≡ (lane_at l b).low
  low_else b d = ap (λ (x : Lane). x.low) (trimmed_beside l n b d)

  -- An entry of the run is up to the floor times.
  pub run_own : (d : Entry) → In d (run l n) → d.time ≤ floor_time l n
  unfolding droppable
  run_own d i = leb-true d.time (floor_time l n) (both_true (leb d.time (floor_time l n)) (sender_below l d.origin) (leading_true (droppable l n) (node_at l n).log i)).0

  pub run_sender : (d : Entry) → In d (run l n) → (s t : ℕ) → d.origin ≡ made s t → t ≤ floor_time l s
  unfolding droppable
  run_sender d i s t q = leb-true t (floor_time l s) (ap (sender_below l) (sym q) ∙ (both_true (leb d.time (floor_time l n)) (sender_below l d.origin) (leading_true (droppable l n) (node_at l n).log i)).1)

  -- Past a child's entry the log is as it was.
  log_past : (c : ℕ) → c < channel_count l.plan → past time_of (lane_at l c).taken (log_put (trimmed l n) c) ≡ past time_of (lane_at l c).taken (log_put l c)
  unfolding log_put
  log_past c h =
      elim (ℕ_discrete (channel_at l.plan c).sender n) [
        | no d ↦ ap (λ (x : Node). past time_of (lane_at l c).taken (keep (takes_message l.plan c) (map message_of x.log))) (trimmed_else l n (channel_at l.plan c).sender d)
        | yes q ↦
            (let fits = takes_message l.plan c in
            let t = (lane_at l c).taken in
            let late : Message → Bool = λ m. ltb (lane_at l c).taken m.time in
            let gone = keep fits (map message_of (run l n)) in
            let left = keep fits (map message_of (rest l n)) in
            let was : keep fits (map message_of (node_at l n).log) ≡ gone ++ left =
            ap (λ (x : List Entry). keep fits (map message_of x)) (leading-behind (droppable l n) (node_at l n).log) ∙ ap (keep fits) (map-append message_of (run l n) (rest l n)) ∙ keep_append fits (map message_of (run l n)) (map message_of (rest l n)) in
            let early : Within time_of t gone = within_by time_of gone
            (λ x i. (let (j, _) = keep_in fits (map message_of (run l n)) i in let (d, w, e) = map_in message_of (run l n) j in
            subst (λ (y : Message). y.time ≤ t) (sym e) (let a = run_own d w in let b = floor_entry l n c (h, q) in omega arith))) in
            ap (λ (x : ℕ). past time_of t (keep fits (map message_of (node_at k x).log))) q ∙ ap (λ (x : List Entry). past time_of t (keep fits (map message_of x))) log_now
            ∙ sym (ap (λ (x : ℕ). past time_of t (keep fits (map message_of (node_at l x).log))) q ∙ ap (past time_of t) was ∙ keep_append late gone left ∙ ap (λ (x : List Message). x ++ past time_of t left) (past_none time_of early)))
      ]

  -- No restored entry falls.
  module _ (m b : ℕ) (out : Leaves l.plan m b) (some : is_sink l.plan (channel_at l.plan b).receiver ≡ false) (unmarked : UnmarkedChildren l (channel_at l.plan b).receiver) (a : ℕ) where
    abbrev C : ℕ
    C = (channel_at l.plan b).receiver

    -- The low clock of a child.
    low_higher : (c : ℕ) → Leaves l.plan (channel_at l.plan b).receiver c
        → low_through l (channel_at l.plan b).receiver a c ≤ low_through (trimmed l n) (channel_at l.plan b).receiver a c
    low_higher c (h, s) =
        elim (ℕ_discrete (channel_at l.plan c).receiver n) [
          | no d ↦ omega (arith, ap (λ (x : List ℕ). entry_for a (parents l.plan C) (drop 1 x)) (low_else c d))
          | yes q ↦
              subst (λ (x : ℕ). low_through l x a c ≤ low_through k x a c) s
              (subst (λ (x : List ℕ). low_on l c a ≤ entry_for a (parents l.plan (channel_at l.plan c).sender) (drop 1 x)) (sym (low_now c (h, q))) (after_above (parents l.plan (sender_of l c)) (sender_of l c) a (run l n) (lane_at l c).low))
        ]

    found : (u : Target) → In u (child_triples l (channel_at l.plan b).receiver) → u.parent ≡ a → u.time ≤ low_of l (channel_at l.plan b).receiver
        → In u (child_triples (trimmed l n) (channel_at l.plan b).receiver) ⊎ (u.parent_time ≤ restored (trimmed l n) (channel_at l.plan b).receiver a)
    found u i parent upto =
        let at = triples_at_in l C u i in
        let c = at.channel in
        let D = (channel_at l.plan c).receiver in
        let again : In at.entry (node_at k D).log → In u (child_triples k C) = λ j.
        in_triples_at k C u (record { channel = at.channel; on_plan = at.on_plan; leaves = at.leaves; entry = at.entry; is_logged = j; origin_is = at.origin_is; before_is = at.before_is }) in
        elim (ℕ_discrete D n) [
          | no d ↦ inl (again (subst (λ (x : Node). In at.entry x.log) (sym (trimmed_else l n D d)) at.is_logged))
          | yes q ↦ elim (append_in (run l n) (subst (λ (x : List Entry). In at.entry x) (leading-behind (droppable l n) (node_at l n).log) (subst (λ (x : ℕ). In at.entry (node_at l x).log) q at.is_logged))) [
            | inr j ↦ inl (again (subst (λ (x : ℕ). In at.entry (node_at k x).log) (sym q) (subst (λ (x : List Entry). In at.entry x) (sym log_now) j)))
            | inl j ↦
                (let (b', m', t', event, is, _) = triples_from l g C inv.ordered (own_took inv m b out some unmarked) (children_of inv m b out some unmarked) u i in
                let among : In u.parent (parents l.plan C) = subst (λ (x : ℕ). In x (parents l.plan C)) (sym (ap (λ (v : Target). v.parent) is)) (is_parent l g C inv.ordered (own_took inv m b out some unmarked) (children_of inv m b out some unmarked) b' m' t' event) in
                let logs = inv.logs n (ap (λ (x : ℕ). (node_at l x).crashed) (sym q) ∙ unmarked c (at.on_plan, at.leaves)) in
                let low : u.parent_time ≤ entry_for u.parent (parents l.plan (channel_at l.plan c).sender) (drop 1 (low_after (parents l.plan (sender_of l c)) (sender_of l c) (run l n) (lane_at l c).low)) =
                after_holds (parents l.plan (sender_of l c)) (sender_of l c) u.parent u.parent_time u.time (run l n) (lane_at l c).low j (at.origin_is ∙ ap (λ (x : ℕ). made x u.time) (sym at.leaves)) at.before_is
                (subst (λ (x : ℕ). In u.parent (parents l.plan x)) (sym at.leaves) among) (logs.low_long c (at.on_plan, q)) in
                let held : u.parent_time ≤ low_through k C a c =
                subst (λ (x : ℕ). u.parent_time ≤ low_through k C x c) parent
                (subst (λ (x : ℕ). u.parent_time ≤ low_through k x u.parent c) at.leaves
                (subst (λ (x : List ℕ). u.parent_time ≤ entry_for u.parent (parents l.plan (channel_at l.plan c).sender) (drop 1 x)) (sym (low_now c (at.on_plan, q))) low)) in
                inr (omega (arith, held, low_restored k C a c at.on_plan at.leaves)))
          ]
        ]

    pub restored_kept : restored l (channel_at l.plan b).receiver a ≤ restored (trimmed l n) (channel_at l.plan b).receiver a
    restored_kept =
        restored-rises l l.steps (trimmed l n).nodes (trimmed l n).lanes C a (omega (arith, low_same l (trimmed l n) C refl (λ c h s. takens c h))) low_higher found

  children_were : (m : ℕ) → UnmarkedChildren (trimmed l n) m → UnmarkedChildren l m
  children_were m f c h = sym (marks (channel_at l.plan c).receiver) ∙ f c h

  -- The logs: of the node itself, and of another.
  own_log : (node_at l n).crashed ≡ false → Logged (trimmed l n) g n
  own_log unmarked =
      record {
        gone = was.gone ++ dropped;
        kept = left;
        split = was.split ∙ ap (λ (x : List Event). was.gone ++ x) (leading-behind goes was.kept) ∙ sym (append_assoc was.gone dropped left);
        log_is = log_now ∙ ap (behind (droppable l n)) was.log_is ∙ behind-map (entry_of l.plan n) (droppable l n) was.kept;
        reached = λ e i c h x.
            (let same = takens c h.0 in
            elim (append_in was.gone i) [
              | inl j ↦ (let old = was.reached e j c h (sym (marks (channel_at l.plan c).receiver) ∙ x) in omega arith)
              | inr j ↦ (let a = run_own (entry_of l.plan n e) (in_run e j) in let b = floor_entry l n c h in omega arith)
            ]);
        restored_past = λ e i c h some free.
            (let unmarked-there = children_were (channel_at l.plan c).receiver free in
            let up = restored_kept n c h some unmarked-there n in
            elim (append_in was.gone i) [
              | inl j ↦ (let old = was.restored_past e j c h some unmarked-there in omega arith)
              | inr j ↦ (let a = run_own (entry_of l.plan n e) (in_run e j) in let b = restored_floor inv n c h some unmarked-there in omega arith)
            ]);
        input_reached = λ b m t i c h x.
            (let same = takens c h.0 in
            elim (append_in was.gone i) [
              | inl j ↦ (let old = was.input_reached b m t j c h (sym (marks (channel_at l.plan c).receiver) ∙ x) in omega arith)
              | inr j ↦ (let a = run_sender (entry_of l.plan n (took_at b m t)) (in_run (took_at b m t) j) (channel_at l.plan b).sender m.time refl in let d = floor_entry l (channel_at l.plan b).sender c h in omega arith)
            ]);
        low_long = λ b h. ap length (low_now b h) ∙ after_long (parents l.plan (sender_of l b)) (sender_of l b) (run l n) (lane_at l b).low ∙ was.low_long b h;
        low_from = λ b h a. rw (low_now b h) (from b h a);
        low_of_lem = λ b h m t i a u j q. rw (low_now b h)
            (elim (append_in was.gone i) [
              | inl x ↦ (let old = was.low_of_lem b h m t x a u j q in omega (arith, after_above (parents l.plan (sender_of l b)) (sender_of l b) a (run l n) (lane_at l b).low))
              | inr x ↦ after_holds (parents l.plan (sender_of l b)) (sender_of l b) a u m.time (run l n) (lane_at l b).low (in_run (took_at b m t) x) refl q j (was.low_long b h)
            ]);
      }
    where
      was : Logged l g n
      was = inv.logs n unmarked

      goes : Event → Bool
      goes e = droppable l n (entry_of l.plan n e)

      dropped : List Event
      dropped = leading goes was.kept

      left : List Event
      left = behind goes was.kept

      run_is : run l n ≡ map (entry_of l.plan n) dropped
      run_is = ap (leading (droppable l n)) was.log_is ∙ leading-map (entry_of l.plan n) (droppable l n) was.kept

      in_run : (e : Event) → In e dropped → In (entry_of l.plan n e) (run l n)
      in_run e i = subst (λ (x : List Entry). In (entry_of l.plan n e) x) (sym run_is) (in_map (entry_of l.plan n) i)

      dropped_event : {e : Event} → In e dropped → In e (g n)
      dropped_event {e} i = (keep_in (has_entry l.plan n) (g n) (subst (λ (es : List Event). In e es) (sym was.split) (in_right was.gone (subst (λ (es : List Event). In e es) (sym (leading-behind goes was.kept)) (in_left left i))))).0

      from : (b : ℕ) → Enters l.plan n b → (a : ℕ)
          → (entry_for a (parents l.plan (channel_at l.plan b).sender) (drop 1 (low_after (parents l.plan (sender_of l b)) (sender_of l b) (run l n) (lane_at l b).low)) ≡ 0)
          ⊎ ((m : Message) × (t : ℕ) × In (took_at b m t) (was.gone ++ dropped) × (m.origin ≡ made a (entry_for a (parents l.plan (channel_at l.plan b).sender) (drop 1 (low_after (parents l.plan (sender_of l b)) (sender_of l b) (run l n) (lane_at l b).low)))))
      from b h a =
          elim (after_from (parents l.plan (sender_of l b)) (sender_of l b) a (run l n) (lane_at l b).low) [
            | inl q ↦ elim (was.low_from b h a) [ inl z ↦ inl (q ∙ z) | inr (m, t, i, o) ↦ inr (m, t, in_left dropped i, o ∙ ap (made a) (sym q)) ]
            | inr (d, t, i, o, before) ↦
                (let (e, j, q) = map_in (entry_of l.plan n) dropped (subst (λ (x : List Entry). In d x) run_is i) in
                let took = (inv.nodes.others n (subst (λ (x : ℕ). is_source l.plan x ≡ false) h.1 (no_source l.plan b h.0))).1 in
                let ev = taken_event l.plan n (g n) took (dropped_event j) in
                let is : d ≡ entry_of l.plan n (took_at ev.channel ev.message ev.time) = q ∙ ap (entry_of l.plan n) ev.is in
                let (sender, _) = made_parts (sym (ap (λ (x : Entry). x.origin) is) ∙ o) in
                let same : ev.channel ≡ b = inv.ordered.alone ev.channel b ev.on_plan h.0 sender (ev.enters ∙ sym h.1) in
                inr (ev.message, ev.time, subst (λ (x : ℕ). In (took_at x ev.message ev.time) (was.gone ++ dropped)) same (in_right was.gone (subst (λ (x : Event). In x dropped) ev.is j)), sym (ap (λ (x : Entry). x.before) is) ∙ before))
          ]

  other_log : (m : ℕ) → m ≢ n → (node_at l m).crashed ≡ false → Logged (trimmed l n) g m
  other_log m d unmarked =
      let was = inv.logs m unmarked in
      let lows : (b : ℕ) → Enters l.plan m b → (lane_at k b).low ≡ (lane_at l b).low = λ b h. low_else b (λ q. d (sym h.1 ∙ q)) in
      record {
        gone = was.gone;
        kept = was.kept;
        split = was.split;
        log_is = ap (λ (x : Node). x.log) (trimmed_else l n m d) ∙ was.log_is;
        reached = λ e i c h x. (let same = takens c h.0 in let old = was.reached e i c h (sym (marks (channel_at l.plan c).receiver) ∙ x) in omega arith);
        restored_past = λ e i c h some free.
            (let unmarked-there = children_were (channel_at l.plan c).receiver free in
            let up = restored_kept m c h some unmarked-there m in
            let old = was.restored_past e i c h some unmarked-there in
            omega arith);
        input_reached = λ b y t i c h x. (let same = takens c h.0 in let old = was.input_reached b y t i c h (sym (marks (channel_at l.plan c).receiver) ∙ x) in omega arith);
        low_long = λ b h. ap length (lows b h) ∙ was.low_long b h;
        low_from = λ b h a. rw (lows b h) (was.low_from b h a);
        low_of_lem = λ b h y t i a u j q. rw (lows b h) (was.low_of_lem b h y t i a u j q);
      }

  trim_logs : (m : ℕ) → (node_at (trimmed l n) m).crashed ≡ false → Logged (trimmed l n) g m
  trim_logs m e =
      let unmarked : (node_at l m).crashed ≡ false = sym (marks m) ∙ e in
      elim (ℕ_discrete m n) [
        | yes q ↦ subst (Logged k g) (sym q) (own_log (ap (λ (x : ℕ). (node_at l x).crashed) (sym q) ∙ unmarked))
        | no d ↦ other_log m d unmarked
      ]

  trim_channel : (c : ℕ) → c < channel_count l.plan → Channels (trimmed l n) g cut c
  trim_channel c h =
      let old = inv.channels c h in
      let same = takens c h in
      let time = times (channel_at l.plan c).sender in
      let puts = put l.plan g c in
      record {
        rises = old.rises;
        cut_is = old.cut_is;
        cut_up = λ e. old.cut_up (sym (statuses (channel_at l.plan c).receiver) ∙ e) ∙ sym same;
        sender_up = λ e.
            (let s = old.sender_up (sym (statuses (channel_at l.plan c).sender) ∙ e) in
            let logs : past time_of (lane_at k c).taken (log_put k c) ≡ past time_of (lane_at l c).taken (log_put l c) = ap (λ (t : ℕ). past time_of t (log_put k c)) same ∙ log_past c h in
            record {
              within = subst (λ (t : ℕ). Within time_of t puts) (sym time) s.within;
              cut_within = omega (arith, time, s.cut_within);
              taken_within = omega (arith, time, same, s.taken_within);
              to_come = λ r. logs ∙ s.to_come (λ z. r (statuses (channel_at l.plan c).receiver ∙ z)) ∙ ap (λ (t : ℕ). past time_of t puts) (sym same);
              queue = λ r.
                  (let (low, high, is) = s.queue (λ z. r (statuses (channel_at l.plan c).receiver ∙ z)) in (
                    omega (arith, same, mark_same c h),
                    omega (arith, time, mark_same c h),
                    queues c h ∙ is ∙ ap (until time_of (lane_at l c).mark) (sym logs) ∙ ap (λ (t : ℕ). until time_of t (past time_of (lane_at k c).taken (log_put k c))) (sym (mark_same c h)),
                  ));
            });
      }

  trim_ends : (c : ℕ) → c < channel_count l.plan → Ends (trimmed l n) g c
  trim_ends c h =
      let old = inv.ends c h in
      record {
        exact = λ e. takens c h ∙ old.exact (sym (marks (channel_at l.plan c).receiver) ∙ e);
        through = λ e a. heard_same (old.through (sym (marks (channel_at l.plan c).receiver) ∙ e) a) (ap (entry_for a (parents l.plan (channel_at l.plan c).sender)) (sym (heards c h))) refl;
        stopped = λ e. queues c h ∙ old.stopped (λ z. e (statuses (channel_at l.plan c).sender ∙ z));
        waiting = λ e. mark_same c h ∙ old.waiting (sym (statuses (channel_at l.plan c).sender) ∙ e) ∙ sym (takens c h);
      }

  up_everywhere : (m : ℕ) → (node_at (trimmed l n) m).status ≡ replay → ⊥
  up_everywhere m e =
      let was : (node_at l m).status ≡ replay = sym (statuses m) ∙ e in
      let h = not_up_inside inv.shape m (λ z. up_not_replay (sym z ∙ was)) in
      up_not_replay (sym (all_up m h) ∙ was)

  -- A crashed node's log: past the least of its children's entries it holds what it held.
  own_room : (node_at l n).crashed ≡ true → Room (trimmed l n) g n
  own_room marked =
      record {
        least = low;
        below = λ c h. omega (arith, low_below l n c h.0 h.1, takens c h.0);
        few = rw (statuses n ∙ alive, log_now) held;
        held_few = λ e. absurd (up_everywhere n e);
      }
    where
      alive : (node_at l n).status ≡ up
      alive = all_up n inside

      low : ℕ
      low = low_of l n

      r : Room l g n
      r = inv.rooms n marked

      sink : is_sink l.plan n ≡ false
      sink = (inv.marks.between n marked).1

      above : r.least ≤ low_of l n
      above = low_above l n sink (λ c h q. r.below c (h, q))

      was : past time_of r.least (passing l.plan n (g n)) ≡ past time_of r.least (log_passing l.plan n (node_at l n).log)
      was = rw alive at r.few

      goes : Message → Bool
      goes m = passed_on l.plan n m.what

      early : Within time_of low (log_passing l.plan n (run l n))
      early = within_by time_of (log_passing l.plan n (run l n))
          (λ x i. (let (j, _) = keep_in goes (map message_of (run l n)) i in let (d, w, e) = map_in message_of (run l n) j in
          subst (λ (y : Message). y.time ≤ low) (sym e) (let a = run_own d w in low_above l n sink (λ c h q. (let b = floor_entry l n c (h, q) in omega arith)))))

      held : past time_of low (passing l.plan n (g n)) ≡ past time_of low (log_passing l.plan n (rest l n))
      held =
          sym (past_past time_of r.least low above (passing l.plan n (g n))) ∙ ap (past time_of low) was ∙ past_past time_of r.least low above (log_passing l.plan n (node_at l n).log)
          ∙ ap (λ (x : List Entry). past time_of low (log_passing l.plan n x)) (leading-behind (droppable l n) (node_at l n).log)
          ∙ ap (λ (x : List Message). past time_of low (keep goes x)) (map-append message_of (run l n) (rest l n)) ∙ ap (past time_of low) (keep_append goes (map message_of (run l n)) (map message_of (rest l n)))
          ∙ keep_append (λ (m : Message). ltb low m.time) (log_passing l.plan n (run l n)) (log_passing l.plan n (rest l n)) ∙ ap (λ (x : List Message). x ++ past time_of low (log_passing l.plan n (rest l n))) (past_none time_of early)

  trim_rooms : (m : ℕ) → (node_at (trimmed l n) m).crashed ≡ true → Room (trimmed l n) g m
  trim_rooms m e =
      let marked : (node_at l m).crashed ≡ true = sym (marks m) ∙ e in
      elim (ℕ_discrete m n) [
        | yes q ↦ subst (Room k g) (sym q) (own_room (ap (λ (x : ℕ). (node_at l x).crashed) (sym q) ∙ marked))
        | no d ↦
            (let r = inv.rooms m marked in
            record { least = r.least; below = λ c h. omega (arith, r.below c h, takens c h.0); few = subst (λ (x : Node). HasRoom l.plan m r.least (passing l.plan m (g m)) x.log x.status) (sym (trimmed_else l n m d)) r.few; held_few = λ z. absurd (up_everywhere m z) })
      ]

  trim_nodes : Nodes (trimmed l n) g fed receipts
  trim_nodes =
      let was = inv.nodes in
      record { only_feeds = was.only_feeds; sources = was.sources; others = was.others; beyond = was.beyond; received = λ m e. was.received m (sym (marks m) ∙ e) }

  trim_events : (m : ℕ) → Events (trimmed l n) g m
  trim_events m = record { rise = (inv.events m).rise; within = λ e. subst (λ (t : ℕ). Within time_of t (passing l.plan m (g m))) (sym (times m)) ((inv.events m).within (sym (statuses m) ∙ e)) }

  pub trim_inv : Inv (trimmed_line n l) g cut base fed receipts crashes
  trim_inv =
      subst (λ (x : Line). Inv x g cut base fed receipts crashes) (sym (trimmed_is l n))
      (record {
        shape = trimmed_shape l n inv.shape;
        ordered = inv.ordered;
        marks = marks_stay l l.steps (trimmed l n).nodes (trimmed l n).lanes crashes statuses marks inv.marks;
        nodes = trim_nodes;
        logs = trim_logs;
        events = trim_events;
        channels = trim_channel;
        ends = trim_ends;
        replays = λ m e. absurd (up_everywhere m e);
        rooms = trim_rooms;
      })
