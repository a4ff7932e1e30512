-- Crash keeps the invariant: histories do not move, and what the node and its channels held is gone.
use Prim.Native.Nat.{ℕ, ◌<◌, ◌≤◌}
use mathlib.Core.Path.{◌≡◌, refl, sym, ap, subst, ◌∙◌}
use mathlib.Core.Logic.{◌≢◌, ◌⊎◌, inl, inr}
use mathlib.Core.Bool.{true, false, true≢false}
use mathlib.Core.List.{List, [], ◌∷◌, ◌++◌, map}
use native.Mathlib.Omega.{arith}
use native.Mathlib.Decide.{ℕ_discrete}
use lib.ListN.{length, length-map}
use lib.Dec.{eqb, ltb}
use borrow.Author.Tests.{eq-eqb}
use Rattle.plan.specs.Plan.{channel_at, node_count, is_source, is_sink}
use Rattle.basics.specs.Bools.{neither_true}
use Rattle.rules.specs.Line.{log_limit, Message, up, down, replay, Node, Lane, Line, node_at, lane_at, fresh_lane}
use Rattle.rules.specs.Line.{parents as parentsOf}
use Rattle.rules.specs.Clock.{entry_for}
use Rattle.rules.specs.Recover.{low_of}
use Rattle.rules.specs.Replay.{passed_on}
use Rattle.rules.specs.Step.{crashed_line}
use Rattle.rules.specs.Plain.{Act, Receipt}
use Rattle.rules.proofs.Lists.Rising.{past, Within, past_none}
use Rattle.rules.proofs.Lists.ListLaws.{keep_append}
use Rattle.rules.proofs.Lists.Members.{In, keep_in, map_in, within_by}
use Rattle.rules.proofs.Histories.Ghost.{Event, Ghost, entry_of, sent_of, put, log_put}
use Rattle.rules.proofs.Histories.Passing.{passing, passing_append, taken_recorded}
use Rattle.rules.proofs.Ending.Targets.{low_below, low_above}
use Rattle.rules.proofs.Invariant.Inv.{Inv, is_up, named, time_of, Enters, Leaves, Marks, Channels, Ends, Replays, Room}
use Rattle.rules.proofs.Invariant.InvLaws.{up_not_down, replay_not_down, if_marked, replay_marked, marked_took, ends_up}
use Rattle.rules.proofs.Invariant.MarkedLaws.{at-ends, sender_other, receiver_other}
use Rattle.rules.proofs.Invariant.Stays.{heard_same, unmarked_other, nodes_stay, channels_beside, ends-beside, events_stay, replays_stay}
use Rattle.rules.proofs.Invariant.Logs.{Grows, logged_stays}
use Rattle.rules.proofs.Invariant.Rooms.{room_stays, room_most, passing_short}
use Rattle.rules.proofs.Undamaged.Crashed.{crashed_after, crashed_is, crashed_node, crashed_else, crashed_shape, crashed_enters, crashed_leaves, crashed_beside}

-- Names joined to a list.
named_left : (n : ℕ) (ns ms : List ℕ) → named n (ns ++ ms) ≡ false → (named n ns ≡ false) × (named n ms ≡ false)
named_left n [] ms e = (refl, e)
named_left n (k ∷ ns) ms e = let (a, b) = neither_true (eqb n k) (named n (ns ++ ms)) e in let (c, d) = named_left n ns ms b in (rw a c, d)

module _ (l : Line) (g : Ghost) (cut base : ℕ → ℕ) (fed : List Act) (receipts : List Receipt) (crashes : List ℕ) (inv : Inv l g cut base fed receipts crashes) (n : ℕ) (here : n < node_count l.plan)
    (no_source : is_source l.plan n ≡ false) (no_sink : is_sink l.plan n ≡ false)
    (parents : (c : ℕ) → Enters l.plan n c → (node_at l (channel_at l.plan c).sender).crashed ≡ false) (children : (c : ℕ) → Leaves l.plan n c → (node_at l (channel_at l.plan c).receiver).crashed ≡ false)
    (log_few : length (node_at l n).log ≤ log_limit) where
  parent_up : (c : ℕ) → Enters l.plan n c → is_up l (channel_at l.plan c).sender
  parent_up c h = inv.marks.stopped (channel_at l.plan c).sender (parents c h)

  down_not_up : (node_at (crashed_after l n) n).status ≢ up
  down_not_up e = up_not_down (sym e ∙ ap (λ (x : Node). x.status) (crashed_node l n inv.ordered inv.shape here))

  channel_enters : (c : ℕ) → Enters l.plan n c → Channels (crashed_after l n) g cut c
  unfolding fresh_lane log_put
  channel_enters c (h, q) =
      let old = inv.channels c h in
      let s = old.sender_up (parent_up c (h, q)) in
      let d = sender_other inv n c (h, q) in
      let node = (crashed_else l n inv.ordered inv.shape) (channel_at l.plan c).sender d in
      let gone : (node_at (crashed_after l n) (channel_at l.plan c).receiver).status ≡ down = ap (λ (x : ℕ). (node_at (crashed_after l n) x).status) q ∙ ap (λ (x : Node). x.status) (crashed_node l n inv.ordered inv.shape here) in
      let empty = ap (λ (x : Lane). x.taken) ((crashed_enters l n inv.ordered inv.shape) c (h, q)) in
      record {
        rises = old.rises;
        cut_is = old.cut_is;
        cut_up = λ e. absurd (up_not_down (sym e ∙ gone));
        sender_up = λ e.
            record {
              within = subst (λ (x : Node). Within time_of x.time (put l.plan g c)) (sym node) s.within;
              cut_within = rw node s.cut_within;
              taken_within = omega (arith, empty);
              to_come = λ r. absurd (r gone);
              queue = λ r. absurd (r gone);
            };
      }

  channel_leaves : (c : ℕ) → Leaves l.plan n c → Channels (crashed_after l n) g cut c
  channel_leaves c (h, q) =
      let old = inv.channels c h in
      let node = (crashed_else l n inv.ordered inv.shape) (channel_at l.plan c).receiver (receiver_other inv n c (h, q)) in
      record {
        rises = old.rises;
        cut_is = old.cut_is;
        cut_up = λ e. old.cut_up (ap (λ (x : Node). x.status) (sym node) ∙ e) ∙ ap (λ (x : Lane). x.taken) (sym ((crashed_leaves l n inv.ordered inv.shape) c (h, q)));
        sender_up = λ e. absurd (down_not_up (ap (λ (x : ℕ). (node_at (crashed_after l n) x).status) (sym q) ∙ e));
      }

  ends_leaves : (c : ℕ) → Leaves l.plan n c → Ends (crashed_after l n) g c
  ends_leaves c (h, q) =
      let lane = (crashed_leaves l n inv.ordered inv.shape) c (h, q) in
      let node = (crashed_else l n inv.ordered inv.shape) (channel_at l.plan c).receiver (receiver_other inv n c (h, q)) in
      let gone : (node_at (crashed_after l n) (channel_at l.plan c).sender).status ≡ down = ap (λ (x : ℕ). (node_at (crashed_after l n) x).status) q ∙ ap (λ (x : Node). x.status) (crashed_node l n inv.ordered inv.shape here) in
      record {
        exact = λ e. ap (λ (x : Lane). x.taken) lane ∙ (inv.ends c h).exact (ap (λ (x : Node). x.crashed) (sym node) ∙ e);
        through = λ e a. heard_same ((inv.ends c h).through (ap (λ (x : Node). x.crashed) (sym node) ∙ e) a) (ap (λ (x : Lane). entry_for a (parentsOf l.plan (channel_at l.plan c).sender) x.heard) (sym lane)) refl;
        stopped = λ e. ap (λ (x : Lane). x.queue) lane;
        waiting = λ e. absurd (replay_not_down (sym e ∙ gone));
      }

  marked_now : (m : ℕ) → (node_at (crashed_after l n) m).crashed ≡ true → ((m ≢ n) × ((node_at l m).crashed ≡ true)) ⊎ (m ≡ n)
  marked_now m e = elim (ℕ_discrete m n) [ yes q ↦ inr q | no d ↦ inl (d, ap (λ (x : Node). x.crashed) (sym ((crashed_else l n inv.ordered inv.shape) m d)) ∙ e) ]

  other_unmarked : (m : ℕ) → (node_at (crashed_after l n) m).crashed ≡ false → m ≢ n
  other_unmarked = unmarked_other l l.steps (crashed_after l n).nodes (crashed_after l n).lanes n (ap (λ (x : Node). x.crashed) (crashed_node l n inv.ordered inv.shape here)) (crashed_else l n inv.ordered inv.shape)

  unmarked_old : (m : ℕ) → (node_at (crashed_after l n) m).crashed ≡ false → node_at (crashed_after l n) m ≡ node_at l m
  unmarked_old m e = (crashed_else l n inv.ordered inv.shape) m (other_unmarked m e)

  ends_enters : (c : ℕ) → Enters l.plan n c → Ends (crashed_after l n) g c
  ends_enters c (h, q) = ends_up (ap (λ (x : Node). x.status) ((crashed_else l n inv.ordered inv.shape) (channel_at l.plan c).sender (sender_other inv n c (h, q))) ∙ parent_up c (h, q)) (λ e. absurd (other_unmarked (channel_at l.plan c).receiver e q)) (λ e. absurd (other_unmarked (channel_at l.plan c).receiver e q))

  pub crash_grows : Grows l (crashed_after l n)
  crash_grows =
      record {
        marks = λ m e. ap (λ (x : Node). x.crashed) (sym (unmarked_old m e)) ∙ e;
        entries = λ c h e. at-ends l.plan n c h (λ z. absurd (other_unmarked (channel_at l.plan c).receiver e z.1)) (λ z. omega (arith, ap (λ (x : Lane). x.taken) (crashed_leaves l n inv.ordered inv.shape c z))) (λ d s. omega (arith, ap (λ (x : Lane). x.taken) (crashed_beside l n inv.ordered inv.shape c d s)));
        lows = λ c h e. at-ends l.plan n c h (λ z. absurd (other_unmarked (channel_at l.plan c).receiver e z.1)) (λ z. ap (λ (x : Lane). x.low) (crashed_leaves l n inv.ordered inv.shape c z)) (λ d s. ap (λ (x : Lane). x.low) (crashed_beside l n inv.ordered inv.shape c d s));
        entered = λ m e d i. subst (λ (x : Node). In d x.log) (sym (unmarked_old m e)) i;
      }

  crash_marks : Marks (crashed_after l n) (crashes ++ n ∷ [])
  crash_marks =
      record {
        were_named = λ m e.
            (let (old, new) = named_left m crashes (n ∷ []) e in
            ap (λ (x : Node). x.crashed) ((crashed_else l n inv.ordered inv.shape) m (λ q. true≢false (sym (eq-eqb m n q) ∙ (neither_true (eqb m n) false new).0))) ∙ inv.marks.were_named m old);
        not_joined = λ b h e. elim (marked_now (channel_at l.plan b).sender e) [
          | inr q ↦ ap (λ (x : Node). x.crashed) ((crashed_else l n inv.ordered inv.shape) (channel_at l.plan b).receiver (receiver_other inv n b (h, q))) ∙ children b (h, q)
          | inl old ↦ ap (λ (x : Node). x.crashed) ((crashed_else l n inv.ordered inv.shape) (channel_at l.plan b).receiver (λ q. true≢false (sym old.1 ∙ parents b (h, q)))) ∙ inv.marks.not_joined b h old.1
        ];
        between = λ m e. elim (marked_now m e) [
          | inr q ↦ (ap (is_source l.plan) q ∙ no_source, ap (is_sink l.plan) q ∙ no_sink)
          | inl old ↦ inv.marks.between m old.1
        ];
        stopped = λ m e. ap (λ (x : Node). x.status) (unmarked_old m e) ∙ inv.marks.stopped m (ap (λ (x : Node). x.crashed) (sym (unmarked_old m e)) ∙ e);
      }

  -- A node that crashed before is not joined to this one: its channels are as they were.
  module _ (m : ℕ) (d : m ≢ n) (mark : (node_at l m).crashed ≡ true) where
    pub lane-into : (c : ℕ) → Enters l.plan m c → lane_at (crashed_after l n) c ≡ lane_at l c
    lane-into c h = (crashed_beside l n inv.ordered inv.shape) c (λ q. d (sym h.1 ∙ q)) (λ q. true≢false (sym (ap (λ (x : ℕ). (node_at l x).crashed) h.1 ∙ mark) ∙ children c (h.0, q)))

    lane-out : (c : ℕ) → Leaves l.plan m c → lane_at (crashed_after l n) c ≡ lane_at l c
    lane-out c h = (crashed_beside l n inv.ordered inv.shape) c (λ q. true≢false (sym (ap (λ (x : ℕ). (node_at l x).crashed) h.1 ∙ mark) ∙ parents c (h.0, q))) (λ q. d (sym h.1 ∙ q))

  crash_replays : (m : ℕ) → (node_at (crashed_after l n) m).status ≡ replay → Replays (crashed_after l n) g cut base m
  crash_replays m e =
      let d : m ≢ n = λ q. replay_not_down (sym e ∙ ap (λ (x : ℕ). (node_at (crashed_after l n) x).status) q ∙ ap (λ (x : Node). x.status) (crashed_node l n inv.ordered inv.shape here)) in
      let same = (crashed_else l n inv.ordered inv.shape) m d in
      let old : (node_at l m).status ≡ replay = ap (λ (x : Node). x.status) (sym same) ∙ e in
      let mark = replay_marked inv.marks m old in
      replays_stay l l.steps (crashed_after l n).nodes (crashed_after l n).lanes g g m same refl cut cut base base (λ c h. ap (λ (x : Lane). x.taken) (lane-out m d mark c h)) (λ c y t i. refl)
      (λ c h. (ap (λ (x : Lane). x.taken) (lane-into m d mark c h), omega arith, refl, refl)) (inv.replays m old)

  -- What the node passed on past the entries of its children was in its log, or had room in one.
  room_now : Room (crashed_after l n) g n
  room_now = if_marked (node_at l n).crashed again first
    where
      gone : (node_at (crashed_after l n) n).status ≡ down
      gone = ap (λ (x : Node). x.status) (crashed_node l n inv.ordered inv.shape here)

      given : (k : ℕ) → ((c : ℕ) → Leaves l.plan n c → k ≤ (lane_at l c).taken) → length (past time_of k (passing l.plan n (g n))) ≤ log_limit → Room (crashed_after l n) g n
      given k below few =
          record {
            least = k;
            below = λ c h. omega (arith, below c h, ap (λ (x : Lane). x.taken) (crashed_leaves l n inv.ordered inv.shape c h));
            few = rw gone few;
            held_few = λ e. absurd (replay_not_down (sym e ∙ gone));
          }

      again : (node_at l n).crashed ≡ true → Room (crashed_after l n) g n
      again e = let r = inv.rooms n e in given r.least r.below (room_most l.plan n r.least (passing l.plan n (g n)) (node_at l n).log (node_at l n).status r.few log_few)

      first : (node_at l n).crashed ≡ false → Room (crashed_after l n) g n
      first e =
          let s = inv.logs n e in
          let low = low_of l n in
          let early : Within time_of low (passing l.plan n s.gone) = within_by time_of (passing l.plan n s.gone) (λ x i.
          (let (j, _) = keep_in (λ (m : Message). passed_on l.plan n m.what) (map (sent_of l.plan n) s.gone) i in
          let (d, k, q) = map_in (sent_of l.plan n) s.gone j in
          subst (λ (y : Message). y.time ≤ low) (sym q) (low_above l n no_sink (λ c h z. s.reached d k c (h, z) (children c (h, z)))))) in
          let late : past time_of low (passing l.plan n (g n)) ≡ past time_of low (passing l.plan n s.kept) =
          ap (λ (x : List Event). past time_of low (passing l.plan n x)) (sym (taken_recorded l.plan n n (g n) (inv.nodes.others n no_source).1) ∙ s.split) ∙ ap (past time_of low) (passing_append l.plan n s.gone s.kept)
          ∙ keep_append (λ (m : Message). ltb (low_of l n) m.time) (passing l.plan n s.gone) (passing l.plan n s.kept)
          ∙ ap (λ (x : List Message). x ++ past time_of low (passing l.plan n s.kept)) (past_none time_of early) in
          given low (λ c h. low_below l n c h.0 h.1) (rw late (omega (arith, passing_short l.plan n low s.kept, ap length s.log_is, length-map s.kept (entry_of l.plan n), log_few)))

  crash_rooms : (m : ℕ) → (node_at (crashed_after l n) m).crashed ≡ true → Room (crashed_after l n) g m
  crash_rooms m e = elim (marked_now m e) [
    | inr q ↦ subst (Room (crashed_after l n) g) (sym q) room_now
    | inl (d, mark) ↦
        room_stays l l.steps (crashed_after l n).nodes (crashed_after l n).lanes g g m (crashed_else l n inv.ordered inv.shape m d) refl (marked_took inv.marks inv.nodes m mark)
        (λ c h. omega (arith, ap (λ (x : Lane). x.taken) (lane-out m d mark c h))) (λ c h. omega (arith, ap (λ (x : Lane). x.taken) (lane-into m d mark c h))) (inv.rooms m mark)
  ]

  pub crash_inv : Inv (crashed_line n l) g cut base fed receipts (crashes ++ n ∷ [])
  crash_inv =
      subst (λ (x : Line). Inv x g cut base fed receipts (crashes ++ n ∷ [])) (sym (crashed_is l n inv.ordered inv.shape))
      (record {
        shape = crashed_shape l n inv.ordered inv.shape;
        ordered = inv.ordered;
        marks = crash_marks;
        nodes = nodes_stay l l.steps (crashed_after l n).nodes (crashed_after l n).lanes unmarked_old (λ m e. refl) inv.nodes;
        logs = λ m e. logged_stays l l.steps (crashed_after l n).nodes (crashed_after l n).lanes crash_grows g g m e (unmarked_old m e) refl (inv.logs m (ap (λ (x : Node). x.crashed) (sym (unmarked_old m e)) ∙ e));
        events = λ m. events_stay l l.steps (crashed_after l n).nodes (crashed_after l n).lanes g g m (λ e. (crashed_else l n inv.ordered inv.shape) m (λ q. down_not_up (ap (λ (x : ℕ). (node_at (crashed_after l n) x).status) (sym q) ∙ e))) refl (inv.events m);
        channels = λ c h. channels_beside l l.steps (crashed_after l n).nodes (crashed_after l n).lanes g g n (crashed_else l n inv.ordered inv.shape) (crashed_beside l n inv.ordered inv.shape) (λ x d. refl) c h cut cut (λ d. refl) (λ d. refl) (channel_enters c) (channel_leaves c) (inv.channels c h);
        ends = λ c h. ends-beside l l.steps (crashed_after l n).nodes (crashed_after l n).lanes g g n (crashed_else l n inv.ordered inv.shape) (crashed_beside l n inv.ordered inv.shape) (λ x d. refl) c h (ends_enters c) (ends_leaves c) (inv.ends c h);
        replays = crash_replays;
        rooms = crash_rooms;
      })
