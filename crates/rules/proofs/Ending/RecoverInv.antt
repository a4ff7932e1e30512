-- Recover keeps the invariant: the node replays from what its children have of it, or is up at once where it has no targets.
use Prim.Native.Nat.{ℕ, ◌<◌, ◌≤◌}
use mathlib.Core.Path.{◌≡◌, refl, sym, ap, subst, ◌∙◌}
use mathlib.Core.Logic.{◌≢◌, inl, inr}
use mathlib.Core.Bool.{Bool, true, false, true≢false, cond}
use mathlib.Core.List.{List, [], ◌∷◌, map}
use mathlib.Core.Option.{none, some}
use native.Mathlib.Omega.{arith}
use native.Mathlib.Decide.{ℕ_discrete}
use lib.ListN.{length, length-set}
use lib.Dec.{eqb, ltb}
use borrow.Author.Tests.{eq-eqb, ne_eqb, lt-ltb, ltb-true}
use Rattle.plan.specs.Plan.{channel_at, node_count, channel_count, is_sink}
use Rattle.rules.specs.Lists.{keep, is_empty}
use Rattle.rules.specs.Line.{log_limit, Message, Held, Target, Status, up, down, replay, Node, Lane, Line, node_at, lane_at, with_node, fresh_lane, parents}
use Rattle.rules.specs.Clock.{message_of, entry_for}
use Rattle.rules.specs.Recover.{low_of, targets_of, restored, recovered, status_of, row_goal, conflict}
use Rattle.rules.specs.Replay.{ended_if_complete}
use Rattle.rules.specs.Step.{recovered_line}
use Rattle.rules.specs.Plain.{Act, Receipt}
use Rattle.rules.proofs.Lists.Rising.{until, past, Rises, none, Within, none_in, past_none, within_until, within_higher, until_none, rises_past}
use Rattle.rules.proofs.Lists.Members.{In, in_none}
use Rattle.rules.proofs.Lists.Counts.{keep_fewer}
use Rattle.rules.proofs.Lists.Options.{some_same, none_some}
use Rattle.rules.proofs.Histories.Witness.{Taken, none}
use Rattle.rules.proofs.Line.LineLaws.{node_there, node_else}
use Rattle.rules.proofs.Histories.Ghost.{Event, Ghost, event_time, input_of, takes_message, put, log_put}
use Rattle.rules.proofs.Histories.Passing.{passing, goes_on, held_of}
use Rattle.rules.proofs.Ending.Kept.{cuts_at}
use Rattle.rules.proofs.Line.Joins.{no_source}
use Rattle.rules.proofs.Ending.Targets.{low_below, low_above, targets_from, targets_of_lem}
use Rattle.rules.proofs.Ending.Children.{Child, triples_from, triples-of, restored_reach, restored_is, none_above}
use Rattle.rules.proofs.Invariant.Inv.{time_of, Enters, Leaves, target_from, Channels, Ends, Row, Replays, Room, takens, Inv}
use Rattle.rules.proofs.Invariant.InvLaws.{took_enters, up_not_replay, up_not_down, marked_unless_up, replay_marked, marked_took, ends_up}
use Rattle.rules.proofs.Invariant.MarkedLaws.{at-ends, sender_other, receiver_other, parent_unmarked, child_unmarked, parent_up, child_up, own, got_rises, taken_cut}
use Rattle.rules.proofs.Invariant.Stays.{heard_same, moved, unmarked_other, marks_beside, nodes_stay, reached_back, reached_on, channels_beside, ends-beside, events_stay, replays_stay}
use Rattle.rules.proofs.Invariant.Logs.{Grows, logged_stays, log_late}
use Rattle.rules.proofs.Invariant.Rooms.{room_stays, waits_few}
use Rattle.rules.proofs.Undamaged.Restored.{recovered_is, restored_shape, restored_enters, restored_leaves, restored-beside}
use Rattle.rules.proofs.Ending.RebuildEvents.{Rebuilding}
use Rattle.rules.proofs.Ending.RebuildInv.{rebuild_inv}
use Rattle.rules.proofs.Ending.Ends.{ended_as}
use Rattle.rules.proofs.Ending.EndInv.{ended_inv}

module _ (l : Line) (g : Ghost) (cut base : ℕ → ℕ) (fed : List Act) (receipts : List Receipt) (crashes : List ℕ) (inv : Inv l g cut base fed receipts crashes) (n : ℕ) (inside : n < node_count l.plan) (is_down_lem : (node_at l n).status ≡ down) where
  marked : (node_at l n).crashed ≡ true
  marked = marked_unless_up inv.marks n (λ e. up_not_down (sym e ∙ is_down_lem))

  -- Past low it passed on no more events than a log has room for.
  pub room_low : length (past time_of (low_of l n) (passing l.plan n (g n))) ≤ log_limit
  room_low =
      let room = inv.rooms n marked in
      let least : room.least ≤ low_of l n = low_above l n (inv.marks.between n marked).1 (λ c h q. room.below c (h, q)) in
      let few : length (past time_of room.least (passing l.plan n (g n))) ≤ log_limit = rw is_down_lem at room.few in
      omega (
        arith,
        few,
        keep_fewer (λ (x : Message). ltb (low_of l n) x.time) (λ (x : Message). ltb room.least x.time) (passing l.plan n (g n)) (λ x i e. lt-ltb room.least x.time (omega (arith, least, ltb-true (low_of l n) x.time e))),
      )

  -- The restored entries of the entering channels.
  abbrev pub base_after : ℕ → ℕ
  base_after b = cond (eqb (channel_at l.plan b).receiver n) (restored l n (channel_at l.plan b).sender) (base b)

  pub base_now : (b : ℕ) → (channel_at l.plan b).receiver ≡ n → base_after b ≡ restored l n (channel_at l.plan b).sender
  base_now b q = ap (λ (t : Bool). cond t (restored l n (channel_at l.plan b).sender) (base b)) (eq-eqb (channel_at l.plan b).receiver n q)

  base_other : (b : ℕ) → (channel_at l.plan b).receiver ≢ n → base_after b ≡ base b
  base_other b d = ap (λ (t : Bool). cond t (restored l n (channel_at l.plan b).sender) (base b)) (ne_eqb (channel_at l.plan b).receiver n d)

  pub child : (c : ℕ) → c < channel_count l.plan → (channel_at l.plan c).sender ≡ n → Child l g c
  child c h q =
      record {
        took = (inv.nodes.others (channel_at l.plan c).receiver (no_source l.plan c h)).1;
        unmarked = child_unmarked inv n marked c (h, q);
        logs = inv.logs (channel_at l.plan c).receiver (child_unmarked inv n marked c (h, q));
        got_is = (inv.channels c h).cut_is ∙ ap (λ (t : ℕ). until time_of t (put l.plan g c)) ((inv.channels c h).cut_up (child_up inv n marked c (h, q)));
        exact = (inv.ends c h).exact (child_unmarked inv n marked c (h, q));
      }

  pub took_own : Taken l.plan n (map input_of (g n))
  took_own = own inv n marked

  -- A restored entry is not past what was got.
  pub restored_got : (b : ℕ) → Enters l.plan n b → restored l n (channel_at l.plan b).sender ≤ cut b
  restored_got b h = elim (restored_is l g n inv.ordered took_own child b h.0 h.1) [ inl z ↦ omega arith | inr (m, t, i, _, _, e) ↦ omega (arith, e, taken_cut inv n marked b m t h i) ]

  abbrev pub restored_node : Status → Node
  restored_node s = record { status = s; crashed = true; time = low_of l n; log = []; held = []; targets = targets_of l n; asked = none }

  -- The line with the node restored, in a given status.
  abbrev pub restored_as : Status → Line
  restored_as s = moved l l.steps (with_node n (restored_node s) l).nodes (recovered n l).lanes

  pub whole_is : recovered n l ≡ restored_as (status_of (targets_of l n))
  whole_is = recovered_is l n inv.ordered inv.shape

  module _ (s : Status) where
    abbrev k : Line
    k = restored_as s

    node_now : node_at k n ≡ restored_node s
    unfolding with_node
    node_now = node_there n (restored_node s) l (rw inv.shape.nodes_long inside)

    node_other : (m : ℕ) → m ≢ n → node_at k m ≡ node_at l m
    unfolding with_node
    node_other m d = node_else n (restored_node s) l m d

    nodes_count : length k.nodes ≡ length l.nodes
    unfolding with_node
    nodes_count = length-set l.nodes n (restored_node s)

  lane_enters : (c : ℕ) → Enters l.plan n c → lane_at (restored_as replay) c ≡ fresh_lane l.plan (channel_at l.plan c) (restored l n (channel_at l.plan c).sender)
  lane_enters = restored_enters l n inv.ordered inv.shape

  lane_leaves : (c : ℕ) → Leaves l.plan n c → lane_at (restored_as replay) c ≡ record { mark = (lane_at l c).taken; taken = (lane_at l c).taken; heard = (lane_at l c).heard; queue = (lane_at l c).queue; low = (lane_at l c).low }
  lane_leaves = restored_leaves l n inv.ordered inv.shape

  lane_other : (c : ℕ) → (channel_at l.plan c).receiver ≢ n → (channel_at l.plan c).sender ≢ n → lane_at (restored_as replay) c ≡ lane_at l c
  lane_other = restored-beside l n inv.ordered inv.shape

  -- The node shown as replaying.
  abbrev pub r : Line
  r = restored_as replay

  still_marked : (node_at r n).crashed ≡ true
  still_marked = ap (λ (x : Node). x.crashed) (node_now replay)

  pub now_replays : (node_at r n).status ≡ replay
  now_replays = ap (λ (x : Node). x.status) (node_now replay)

  taken_leaves : (c : ℕ) → Leaves l.plan n c → (lane_at r c).taken ≡ (lane_at l c).taken
  taken_leaves c h = ap (λ (x : Lane). x.taken) (lane_leaves c h)

  pub taken_enters : (b : ℕ) → Enters l.plan n b → (lane_at r b).taken ≡ restored l n (channel_at l.plan b).sender
  unfolding fresh_lane
  taken_enters b h = ap (λ (x : Lane). x.taken) (lane_enters b h)

  channel_enters : (b : ℕ) → Enters l.plan n b → Channels r g cut b
  unfolding log_put fresh_lane
  channel_enters b h =
      let old = inv.channels b h.0 in
      let s = old.sender_up (parent_up inv n marked b h) in
      let node = node_other replay (channel_at l.plan b).sender (sender_other inv n b h) in
      let sender = inv.logs (channel_at l.plan b).sender (parent_unmarked inv n marked b h) in
      let early : (e : Event) → In e sender.gone → event_time e ≤ (lane_at r b).taken = λ e i.
      (let past-it = sender.restored_past e i b (h.0, refl) (ap (is_sink l.plan) h.1 ∙ (inv.marks.between n marked).1) (λ c z. child_unmarked inv n marked c (z.0, z.1 ∙ h.1)) in
      omega (arith, past-it, taken_enters b h, ap (λ (x : ℕ). restored l x (channel_at l.plan b).sender) h.1)) in
      let logs : past time_of (lane_at r b).taken (log_put r b) ≡ past time_of (lane_at r b).taken (put l.plan g b) =
      ap (λ (x : Node). past time_of (lane_at r b).taken (keep (takes_message l.plan b) (map message_of x.log))) node ∙ log_late l g b h.0 (lane_at r b).taken sender early in
      let time : (node_at r (channel_at l.plan b).sender).time ≡ (node_at l (channel_at l.plan b).sender).time = ap (λ (x : Node). x.time) node in
      let entry = taken_enters b h in
      let mark : (lane_at r b).mark ≡ restored l n (channel_at l.plan b).sender = ap (λ (x : Lane). x.mark) (lane_enters b h) in
      record {
        rises = old.rises;
        cut_is = old.cut_is;
        cut_up = λ e. absurd (up_not_replay (sym e ∙ ap (λ (x : ℕ). (node_at r x).status) h.1 ∙ now_replays));
        sender_up = λ e.
            record {
              within = subst (λ (x : ℕ). Within time_of x (put l.plan g b)) (sym time) s.within;
              cut_within = omega (arith, time, s.cut_within);
              taken_within = omega (arith, time, entry, restored_got b h, s.cut_within);
              to_come = λ _. logs;
              queue = λ _. (
                omega (arith, entry, mark),
                omega (arith, mark, time, restored_got b h, s.cut_within),
                ap (λ (x : Lane). x.queue) (lane_enters b h)
                    ∙ sym (until_none time_of (lane_at r b).taken (omega (arith, entry, mark)) (subst (λ (x : List Message). Rises time_of (lane_at r b).taken x) (sym logs) (rises_past time_of (lane_at r b).taken old.rises))),
              );
            };
      }

  channel_leaves : (c : ℕ) → Leaves l.plan n c → Channels r g cut c
  channel_leaves c h =
      let old = inv.channels c h.0 in
      let node = node_other replay (channel_at l.plan c).receiver (receiver_other inv n c h) in
      record {
        rises = old.rises;
        cut_is = old.cut_is;
        cut_up = λ e. old.cut_up (ap (λ (x : Node). x.status) (sym node) ∙ e) ∙ sym (taken_leaves c h);
        sender_up = λ e. absurd (up_not_replay (sym e ∙ ap (λ (x : ℕ). (node_at r x).status) h.1 ∙ now_replays));
      }

  other_unmarked : (m : ℕ) → (node_at r m).crashed ≡ false → m ≢ n
  other_unmarked = unmarked_other l l.steps r.nodes r.lanes n still_marked (node_other replay)

  ends_enters : (b : ℕ) → Enters l.plan n b → Ends r g b
  ends_enters b h = ends_up (ap (λ (x : Node). x.status) (node_other replay (channel_at l.plan b).sender (sender_other inv n b h)) ∙ parent_up inv n marked b h) (λ e. absurd (other_unmarked (channel_at l.plan b).receiver e h.1)) (λ e. absurd (other_unmarked (channel_at l.plan b).receiver e h.1))

  ends_leaves : (c : ℕ) → Leaves l.plan n c → Ends r g c
  ends_leaves c h =
      let old = inv.ends c h.0 in
      record {
        exact = λ e. taken_leaves c h ∙ old.exact (child_unmarked inv n marked c h);
        through = λ e a. heard_same (old.through (child_unmarked inv n marked c h) a) (ap (λ (x : Lane). entry_for a (parents l.plan (channel_at l.plan c).sender) x.heard) (sym (lane_leaves c h))) refl;
        stopped = λ e. ap (λ (x : Lane). x.queue) (lane_leaves c h) ∙ old.stopped (λ z. up_not_down (sym z ∙ ap (λ (x : ℕ). (node_at l x).status) h.1 ∙ is_down_lem));
        waiting = λ e. ap (λ (x : Lane). x.mark) (lane_leaves c h) ∙ sym (taken_leaves c h);
      }

  time_now : (node_at r n).time ≡ low_of l n
  time_now = ap (λ (x : Node). x.time) (node_now replay)

  pub targets_now : (node_at r n).targets ≡ targets_of l n
  targets_now = ap (λ (x : Node). x.targets) (node_now replay)

  row_now : (b : ℕ) → Enters l.plan n b → Row r g (cut b) (base_after b) n b
  row_now b h =
      let is = base_now b h.1 in
      let entry = taken_enters b h in
      record {
        base_got = omega (arith, is, restored_got b h);
        base_taken = omega (arith, is, entry);
        to_goal = omega (arith, is, entry);
        held = ap (λ (x : Node). keep (λ (y : Held). eqb y.sender (channel_at l.plan b).sender) x.held) (node_now replay)
            ∙ ap (λ (x : List Message). map (held_of l.plan n b) (keep (goes_on l.plan n) x)) (sym (past_none time_of (within_higher time_of (omega (arith, is, entry)) (within_until time_of (lane_at r b).taken (put l.plan g b)))));
      }

  replays_now : Replays r g cut base_after n
  replays_now =
      record {
        log_none = ap (λ (x : Node). x.log) (node_now replay);
        low = λ c h. omega (arith, time_now, taken_leaves c h, low_below l n c h.0 h.1);
        target_from_lem = λ u i.
            (let (j, late) = targets_from l n u (subst (λ (x : List Target). In u x) targets_now i) in
            let (b, m, t, on, is, reached) = triples_from l g n inv.ordered took_own child u j in
            (b, m, t, on, is, omega (arith, time_now, late, ap (λ (x : Target). x.time) is), reached_on l l.steps r.nodes r.lanes n taken_leaves reached));
        target_of = λ b m t i late reached.
            subst (λ (x : List Target). In (target_from l.plan b m t) x) (sym targets_now)
            (targets_of_lem l n (target_from l.plan b m t) (triples-of l g n inv.ordered took_own child b m t i (reached_back l l.steps r.nodes r.lanes n taken_leaves reached) (omega (arith, time_now))) (omega (arith, time_now)));
        base_cuts = λ b m t i goes.
            (let (on, into) = took_enters (g n) b m t took_own i in
            let is = base_now b into in
            let (f, f') = cuts_at l.plan n (low_of l n) base_after (g n) (inv.events n).rise b (got_rises inv n marked b (on, into))
            (λ x u j k late. (let reach = restored_reach l g n inv.ordered took_own child b x u j k late in omega (arith, is)))
            (elim (restored_is l g n inv.ordered took_own child b on into) [
              | inl z ↦ inl (is ∙ z)
              | inr (x, u, j, k, late, e) ↦ inr (x, u, j, k, late, e ∙ sym is)
            ]) m t i goes in
            (λ z. (let y = f z in omega (arith, time_now)), λ z. f' (omega (arith, time_now))));
        rows = row_now;
      }

  -- Another node that has crashed is not joined to this one: its channels are as they were.
  module _ (m : ℕ) (d : m ≢ n) (mark : (node_at l m).crashed ≡ true) where
    pub lane-into : (b : ℕ) → Enters l.plan m b → lane_at r b ≡ lane_at l b
    lane-into b h = lane_other b (λ q. d (sym h.1 ∙ q)) (λ q. true≢false (sym mark ∙ ap (λ (x : ℕ). (node_at l x).crashed) (sym h.1) ∙ child_unmarked inv n marked b (h.0, q)))

    lane-out : (c : ℕ) → Leaves l.plan m c → lane_at r c ≡ lane_at l c
    lane-out c h = lane_other c (λ q. true≢false (sym mark ∙ ap (λ (x : ℕ). (node_at l x).crashed) (sym h.1) ∙ parent_unmarked inv n marked c (h.0, q))) (λ q. d (sym h.1 ∙ q))

  replays_other : (m : ℕ) → m ≢ n → (node_at r m).status ≡ replay → Replays r g cut base_after m
  replays_other m d e =
      let same = node_other replay m d in
      let old : (node_at l m).status ≡ replay = ap (λ (x : Node). x.status) (sym same) ∙ e in
      let mark = replay_marked inv.marks m old in
      replays_stay l l.steps r.nodes r.lanes g g m same refl cut cut base base_after (λ c h. ap (λ (x : Lane). x.taken) (lane-out m d mark c h))
      (λ b y t i. base_other b (λ q. d (sym (took_enters (g m) b y t (marked_took inv.marks inv.nodes m mark) i).1 ∙ q)))
      (λ b h. (ap (λ (x : Lane). x.taken) (lane-into m d mark b h), omega arith, base_other b (λ q. d (sym h.1 ∙ q)), refl)) (inv.replays m old)

  -- Nothing is held yet, and what it waits for had room in a log.
  room_now : Room r g n
  room_now =
      record {
        least = low_of l n;
        below = λ c h. omega (arith, low_below l n c h.0 h.1, taken_leaves c h);
        few = rw now_replays room_low;
        held_few = λ e. rw (ap (λ (x : Node). x.held) (node_now replay), time_now) (omega (arith, room_low, waits_few l.plan n (low_of l n) (takens r) (g n)));
      }

  restored_rooms : (m : ℕ) → (node_at r m).crashed ≡ true → Room r g m
  restored_rooms m e =
      elim (ℕ_discrete m n) [
        | yes q ↦ subst (Room r g) (sym q) room_now
        | no d ↦
            (let same = node_other replay m d in
            let mark : (node_at l m).crashed ≡ true = ap (λ (x : Node). x.crashed) (sym same) ∙ e in
            room_stays l l.steps r.nodes r.lanes g g m same refl (marked_took inv.marks inv.nodes m mark)
            (λ c h. omega (arith, ap (λ (x : Lane). x.taken) (lane-out m d mark c h))) (λ b h. omega (arith, ap (λ (x : Lane). x.taken) (lane-into m d mark b h))) (inv.rooms m mark))
      ]

  pub restored_grows : Grows l r
  restored_grows =
      record {
        marks = λ m e. ap (λ (x : Node). x.crashed) (sym (node_other replay m (other_unmarked m e))) ∙ e;
        entries = λ c h e. at-ends l.plan n c h (λ z. absurd (other_unmarked (channel_at l.plan c).receiver e z.1)) (λ z. omega (arith, taken_leaves c z)) (λ d s. omega (arith, ap (λ (x : Lane). x.taken) (lane_other c d s)));
        lows = λ c h e. at-ends l.plan n c h (λ z. absurd (other_unmarked (channel_at l.plan c).receiver e z.1)) (λ z. ap (λ (x : Lane). x.low) (lane_leaves c z)) (λ d s. ap (λ (x : Lane). x.low) (lane_other c d s));
        entered = λ m e d i. subst (λ (x : Node). In d x.log) (sym (node_other replay m (other_unmarked m e))) i;
      }

  pub restored_inv : Inv r g cut base_after fed receipts crashes
  restored_inv =
      record {
        shape = record { nodes_long = nodes_count replay ∙ inv.shape.nodes_long; lanes_long = (restored_shape l n inv.ordered inv.shape).lanes_long };
        ordered = inv.ordered;
        marks = marks_beside l l.steps r.nodes r.lanes n still_marked (node_other replay) crashes marked inv.marks;
        nodes = nodes_stay l l.steps r.nodes r.lanes (λ m e. node_other replay m (other_unmarked m e)) (λ m e. refl) inv.nodes;
        logs = λ m e. logged_stays l l.steps r.nodes r.lanes restored_grows g g m e (node_other replay m (other_unmarked m e)) refl (inv.logs m (ap (λ (x : Node). x.crashed) (sym (node_other replay m (other_unmarked m e))) ∙ e));
        events = λ m. events_stay l l.steps r.nodes r.lanes g g m (λ e. node_other replay m (λ q. up_not_replay (sym e ∙ ap (λ (x : ℕ). (node_at r x).status) q ∙ now_replays))) refl (inv.events m);
        channels = λ c h. channels_beside l l.steps r.nodes r.lanes g g n (node_other replay) lane_other (λ x d. refl) c h cut cut (λ d. refl) (λ d. refl) (channel_enters c) (channel_leaves c) (inv.channels c h);
        ends = λ c h. ends-beside l l.steps r.nodes r.lanes g g n (node_other replay) lane_other (λ x d. refl) c h (ends_enters c) (ends_leaves c) (inv.ends c h);
        replays = λ m e. elim (ℕ_discrete m n) [
          | yes q ↦ subst (Replays r g cut base_after) (sym q) replays_now
          | no d ↦ replays_other m d e
        ];
        rooms = restored_rooms;
      }

  -- Without targets nothing is to be placed: the node is up with what its children all have.
  module _ (no_targets : targets_of l n ≡ []) where
    nothing_placed : Rebuilding r g base_after n (low_of l n) []
    nothing_placed =
        record {
          took = none;
          rises = none;
          within = none_in;
          got_is = λ b h.
              (let is = base_now b h.1 in
              let entry = taken_enters b h in
              ap (keep (goes_on l.plan n)) (sym (past_none time_of (within_higher time_of (omega (arith, is, entry)) (within_until time_of (lane_at r b).taken (put l.plan g b))))));
          complete = λ b h. (let e = ap (λ (x : List Target). row_goal x (channel_at l.plan b).sender) (targets_now ∙ no_targets) in omega (arith, e));
          low = omega (arith, time_now);
          high = λ c h. omega (arith, taken_leaves c h, none_above l g n inv.ordered took_own child no_targets c h.0 h.1);
          reached_placed = λ b m t i late reached. absurd (in_none (subst (λ (x : List Target). In (target_from l.plan b m t) x) (targets_now ∙ no_targets) (replays_now.target_of b m t i late reached)));
          placed_reached = λ b m t i. absurd (in_none i);
        }

    up_inv : (g' : Ghost) × (cut' : ℕ → ℕ) × Inv (restored_as up) g' cut' base_after fed receipts crashes
    up_inv = (_, _, rebuild_inv r g cut base_after fed receipts crashes restored_inv n inside now_replays (low_of l n) [] nothing_placed l.steps (restored_as up).nodes (nodes_count up ∙ sym (nodes_count replay)) now other)
      where
        now : node_at (restored_as up) n ≡ record { status = up; crashed = true; time = low_of l n; log = []; held = []; targets = []; asked = none }
        now = node_now up ∙ ap (λ (x : List Target). record { status = up; crashed = true; time = low_of l n; log = []; held = []; targets = x; asked = none }) no_targets

        other : (m : ℕ) → m ≢ n → node_at (restored_as up) m ≡ node_at (restored_as replay) m
        other m d = node_other up m d ∙ sym (node_other replay m d)

  abbrev Goes_on : Line → Type 0
  Goes_on k = (g' : Ghost) × (cut' : ℕ → ℕ) × (base' : ℕ → ℕ) × Inv k g' cut' base' fed receipts crashes

  pub recover_inv : (k : Line) → recovered_line n l ≡ some k → (g' : Ghost) × (cut' : ℕ → ℕ) × (base' : ℕ → ℕ) × Inv k g' cut' base' fed receipts crashes
  unfolding recovered_line
  recover_inv k = go (conflict (targets_of l n)) (targets_of l n) refl
    where
      go : (clash : Bool) (ts : List Target) → targets_of l n ≡ ts → (elim clash [ true ↦ none | false ↦ elim (is_empty ts) [ true ↦ some (recovered n l) | false ↦ ended_if_complete n (recovered n l) ] ]) ≡ some k → Goes_on k
      go true ts q e = none_some e
      go false [] q e =
          let (g', cut', i) = up_inv q in
          subst Goes_on (sym (whole_is ∙ ap (λ (x : List Target). restored_as (status_of x)) q) ∙ some_same e) (g', cut', base_after, i)
      go false (t ∷ ts) q e =
          let same : recovered n l ≡ restored_as replay = whole_is ∙ ap (λ (x : List Target). restored_as (status_of x)) q in
          let (g', cut', i) = ended_inv r g cut base_after fed receipts crashes restored_inv n now_replays inside (ended_as n r k (ap (ended_if_complete n) (sym same) ∙ e)) in
          (g', cut', base_after, i)
