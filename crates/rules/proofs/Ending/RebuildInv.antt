-- A replaying node goes up with the events placed: the invariant holds with the rebuilt history.
use Prim.Native.Nat.{ℕ, ◌<◌}
use mathlib.Core.Path.{◌≡◌, refl, sym, ap, subst, ◌∙◌}
use mathlib.Core.Logic.{◌≢◌}
use mathlib.Core.Bool.{Bool, true, false, true≢false, cond}
use mathlib.Core.Option.{none}
use mathlib.Core.List.{List, [], ◌++◌, map, map-map}
use native.Mathlib.Omega.{arith}
use native.Mathlib.Decide.{ℕ_discrete}
use lib.ListN.{length}
use lib.Dec.{eqb, ltb}
use borrow.Author.Tests.{eq-eqb, ne_eqb}
use Rattle.plan.specs.Plan.{channel_at, node_count, is_source}
use Rattle.basics.specs.Update.{changed_there, changed_else}
use Rattle.rules.specs.Lists.{keep, greatest_of}
use Rattle.rules.specs.Replay.{passed_on}
use Rattle.rules.specs.Line.{Message, up, down, replay, Node, Line, node_at, lane_at}
use Rattle.rules.specs.Clock.{message_of}
use Rattle.rules.specs.Plain.{Act, Receipt}
use Rattle.rules.proofs.Lists.ListLaws.{keep_append, keep_swap, keep_wider}
use Rattle.rules.proofs.Lists.Rising.{until, past, Rises, Within, rises_past, until_none, past_none, within_higher, within_until, rises-keep, rises-map}
use Rattle.rules.proofs.Lists.Members.{In}
use Rattle.rules.proofs.Histories.PlainRun.{receipts_in}
use Rattle.rules.proofs.Histories.Witness.{Taken}
use Rattle.rules.proofs.Histories.Ghost.{Event, Ghost, input_of, entry_of, sent_of, takes_message, put, got, got_of, put_same, got_same, log_put}
use Rattle.rules.proofs.Histories.Passing.{passing, recorded}
use Rattle.rules.proofs.Invariant.Inv.{time_of, is_up, Enters, Leaves, Nodes, Channels, Events, Ends, Replays, log_passing, Room, Inv}
use Rattle.rules.proofs.Invariant.InvLaws.{up_not_replay, replay_not_down, replay_marked, marked_took, ends_up}
use Rattle.rules.proofs.Invariant.MarkedLaws.{sender_other, receiver_other, parent_up, child_unmarked, child_up}
use Rattle.rules.proofs.Invariant.Stays.{heard_same, moved, unmarked_other, marks_beside, channels_beside, ends-beside, events_stay, replays_stay}
use Rattle.rules.proofs.Invariant.Logs.{Grows, logged_stays}
use Rattle.rules.proofs.Invariant.Rooms.{room_stays}
use Rattle.rules.proofs.Invariant.Grow.{sender_same, sender_cut, sender_receiving}
use Rattle.rules.proofs.Ending.RebuildEvents.{Rebuilding, events, ghost, got_rebuilt, took_rebuilt, passing_rebuilt, rise_rebuilt, within_rebuilt, put_rebuilt, put-rises, put-within, until_rebuilt}

module _ (l : Line) (g : Ghost) (cut base : ℕ → ℕ) (fed : List Act) (receipts : List Receipt) (crashes : List ℕ) (inv : Inv l g cut base fed receipts crashes) (n : ℕ) (inside : n < node_count l.plan) (replaying : (node_at l n).status ≡ replay)
    (T : ℕ) (fs : List Event) (r : Rebuilding l g base n T fs)
    (steps : List ℕ) (nodes : List Node) (long : length nodes ≡ length l.nodes)
    (now : node_at (moved l steps nodes l.lanes) n ≡ record { status = up; crashed = true; time = T; log = map (entry_of l.plan n) fs; held = []; targets = []; asked = none })
    (other : (m : ℕ) → m ≢ n → node_at (moved l steps nodes l.lanes) m ≡ node_at l m) where
  abbrev k : Line
  k = moved l steps nodes l.lanes

  abbrev pub ghost_after : Ghost
  ghost_after = ghost l g cut base fed receipts crashes inv n replaying T fs r

  -- The cut of an entering channel is the entry.
  abbrev pub cut_after : ℕ → ℕ
  cut_after b = cond (eqb (channel_at l.plan b).receiver n) (lane_at l b).taken (cut b)

  marked : (node_at l n).crashed ≡ true
  marked = replay_marked inv.marks n replaying

  alive : is_up k n
  alive = ap (λ (x : Node). x.status) now

  still_marked : (node_at k n).crashed ≡ true
  still_marked = ap (λ (x : Node). x.crashed) now

  ghost_other : (m : ℕ) → m ≢ n → ghost_after m ≡ g m
  ghost_other m d = changed_else g n (events l g cut base fed receipts crashes inv n replaying T fs r) m d

  ghost_now : (m : ℕ) → m ≡ n → ghost_after m ≡ events l g cut base fed receipts crashes inv n replaying T fs r
  ghost_now m q = changed_there g n (events l g cut base fed receipts crashes inv n replaying T fs r) m q

  put_other : (c : ℕ) → (channel_at l.plan c).sender ≢ n → put l.plan ghost_after c ≡ put l.plan g c
  put_other c d = put_same l.plan g ghost_after c (ghost_other (channel_at l.plan c).sender d)

  got_other : (c : ℕ) → (channel_at l.plan c).receiver ≢ n → got l.plan ghost_after c ≡ got l.plan g c
  got_other c d = got_same l.plan g ghost_after c (ghost_other (channel_at l.plan c).receiver d)

  got_now : (b : ℕ) → Enters l.plan n b → got l.plan ghost_after b ≡ until time_of (lane_at l b).taken (put l.plan g b)
  unfolding got
  got_now b h = ap (got_of b) (ghost_now (channel_at l.plan b).receiver h.1) ∙ got_rebuilt l g cut base fed receipts crashes inv n replaying T fs r b h

  cut_now : (b : ℕ) → (channel_at l.plan b).receiver ≡ n → cut_after b ≡ (lane_at l b).taken
  cut_now b q = ap (λ (t : Bool). cond t (lane_at l b).taken (cut b)) (eq-eqb (channel_at l.plan b).receiver n q)

  cut_other : (b : ℕ) → (channel_at l.plan b).receiver ≢ n → cut_after b ≡ cut b
  cut_other b d = ap (λ (t : Bool). cond t (lane_at l b).taken (cut b)) (ne_eqb (channel_at l.plan b).receiver n d)

  channel_enters : (b : ℕ) → Enters l.plan n b → Channels k ghost_after cut_after b
  unfolding log_put
  channel_enters b h =
      let old = inv.channels b h.0 in
      let sender = other (channel_at l.plan b).sender (sender_other inv n b h) in
      let puts = put_other b (sender_other inv n b h) in
      let s = old.sender_up (parent_up inv n marked b h) in
      let cuts = cut_now b h.1 in
      record {
        rises = subst (λ (x : List Message). Rises time_of 0 x) (sym puts) old.rises;
        cut_is = got_now b h ∙ ap (until time_of (lane_at l b).taken) (sym puts) ∙ ap (λ (t : ℕ). until time_of t (put l.plan ghost_after b)) (sym cuts);
        cut_up = λ e. cuts;
        sender_up = λ e.
            sender_receiving {old = (node_at l (channel_at l.plan b).receiver).status ≢ down} (λ x z. replay_not_down (sym (ap (λ (y : ℕ). (node_at l y).status) h.1 ∙ replaying) ∙ z))
            (sender_same (ap (λ (x : Node). x.time) (sym sender)) refl (ap (λ (x : Node). keep (takes_message l.plan b) (map message_of x.log)) (sym sender)) (sym puts) (sym cuts)
            (sender_cut s.taken_within s));
      }

  -- The log is what was placed.
  log_now : (c : ℕ) → Leaves l.plan n c → log_put k c ≡ keep (takes_message l.plan c) (map (sent_of l.plan n) fs)
  unfolding log_put
  log_now c h =
      ap (λ (x : ℕ). keep (takes_message l.plan c) (map message_of (node_at k x).log)) h.1 ∙ ap (λ (x : Node). keep (takes_message l.plan c) (map message_of x.log)) now
      ∙ ap (keep (takes_message l.plan c)) (map-map message_of (entry_of l.plan n) fs)

  channel_leaves : (c : ℕ) → Leaves l.plan n c → Channels k ghost_after cut_after c
  channel_leaves c h =
      let old = inv.channels c h.0 in
      let end = inv.ends c h.0 in
      let down-here : (node_at l (channel_at l.plan c).sender).status ≡ replay = ap (λ (x : ℕ). (node_at l x).status) h.1 ∙ replaying in
      let up_there = child_up inv n marked c h in
      let d = receiver_other inv n c h in
      let cuts : cut_after c ≡ (lane_at l c).taken = cut_other c d ∙ old.cut_up up_there in
      let t = (lane_at l c).taken in
      let placed = keep (takes_message l.plan c) (map (sent_of l.plan n) fs) in
      let time : (node_at k (channel_at l.plan c).sender).time ≡ T = ap (λ (x : ℕ). (node_at k x).time) h.1 ∙ ap (λ (x : Node). x.time) now in
      let low = (inv.replays n replaying).low c h in
      let mark : (lane_at l c).mark ≡ t = end.waiting down-here in
      let come : past time_of t (log_put k c) ≡ past time_of t (put l.plan ghost_after c) =
      ap (past time_of t) (log_now c h)
      ∙ sym (ap (past time_of t) (put_rebuilt l g cut base fed receipts crashes inv n replaying T fs r c h)
      ∙ keep_append (λ (x : Message). ltb t x.time) (until time_of (node_at l n).time (put l.plan g c)) placed
      ∙ ap (λ (x : List Message). x ++ past time_of t placed) (past_none time_of (within_higher time_of low (within_until time_of (node_at l n).time (put l.plan g c))))) in
      record {
        rises = put-rises l g cut base fed receipts crashes inv n replaying T fs r c h;
        cut_is =
            got_other c d ∙ old.cut_is ∙ ap (λ (x : ℕ). until time_of x (put l.plan g c)) (old.cut_up up_there)
            ∙ sym (until_rebuilt l g cut base fed receipts crashes inv n replaying T fs r c h) ∙ ap (λ (x : ℕ). until time_of x (put l.plan ghost_after c)) (sym cuts);
        cut_up = λ e. cuts;
        sender_up = λ e.
            record {
              within = subst (λ (x : ℕ). Within time_of x (put l.plan ghost_after c)) (sym time) (put-within l g cut base fed receipts crashes inv n replaying T fs r c h);
              cut_within = omega (arith, cuts, time, r.high c h);
              taken_within = omega (arith, time, r.high c h);
              to_come = λ _. come;
              queue = λ _. (
                omega (arith, mark),
                omega (arith, mark, time, r.high c h),
                end.stopped (λ z. up_not_replay (sym z ∙ down-here))
                    ∙ sym (until_none time_of t (omega (arith, mark)) (subst (λ (x : List Message). Rises time_of t x) (sym (ap (past time_of t) (log_now c h))) (rises_past time_of t (rises-keep time_of (takes_message l.plan c) (rises-map (sent_of l.plan n) time_of r.rises))))),
              );
            };
      }

  other_unmarked : (m : ℕ) → (node_at k m).crashed ≡ false → m ≢ n
  other_unmarked = unmarked_other l steps nodes l.lanes n still_marked other

  unmarked_was : (m : ℕ) → (node_at k m).crashed ≡ false → (node_at l m).crashed ≡ false
  unmarked_was m e = ap (λ (x : Node). x.crashed) (sym (other m (other_unmarked m e))) ∙ e

  ends_enters : (b : ℕ) → Enters l.plan n b → Ends k ghost_after b
  ends_enters b h = ends_up (ap (λ (x : Node). x.status) (other (channel_at l.plan b).sender (sender_other inv n b h)) ∙ parent_up inv n marked b h) (λ e. absurd (other_unmarked (channel_at l.plan b).receiver e h.1)) (λ e. absurd (other_unmarked (channel_at l.plan b).receiver e h.1))

  ends_leaves : (c : ℕ) → Leaves l.plan n c → Ends k ghost_after c
  ends_leaves c h =
      ends_up (ap (λ (x : ℕ). (node_at k x).status) h.1 ∙ alive) (λ e. (inv.ends c h.0).exact (child_unmarked inv n marked c h) ∙ ap (λ (x : List Message). greatest_of (map time_of x)) (sym (got_other c (receiver_other inv n c h))))
      (λ e a. heard_same ((inv.ends c h.0).through (child_unmarked inv n marked c h) a) refl (sym (got_other c (receiver_other inv n c h))))

  rebuild_nodes : Nodes k ghost_after fed receipts
  rebuild_nodes =
      let old = inv.nodes in
      record {
        only_feeds = old.only_feeds;
        sources = λ m e. ap (map input_of) (ghost_other m (λ q. true≢false (sym e ∙ ap (is_source l.plan) q ∙ (inv.marks.between n marked).0))) ∙ old.sources m e;
        others = λ m e. (
          (old.others m e).0,
          elim (ℕ_discrete m n) [
            | yes q ↦ subst (λ (x : List Event). Taken l.plan m (map input_of x)) (sym (ghost_now m q))
                (subst (λ (x : ℕ). Taken l.plan x (map input_of (events l g cut base fed receipts crashes inv n replaying T fs r))) (sym q) (took_rebuilt l g cut base fed receipts crashes inv n replaying T fs r))
            | no d ↦ subst (λ (x : List Event). Taken l.plan m (map input_of x)) (sym (ghost_other m d)) (old.others m e).1
          ],
        );
        beyond = λ m h. ghost_other m (λ q. omega arith) ∙ old.beyond m h;
        received = λ m e. old.received m (unmarked_was m e) ∙ ap (λ (x : List Event). receipts_in l.plan m (map input_of x)) (sym (ghost_other m (other_unmarked m e)));
      }

  rebuild_grows : Grows l k
  rebuild_grows = record { marks = unmarked_was; entries = λ c h e. omega arith; lows = λ c h e. refl; entered = λ m e d i. subst (λ (x : Node). In d x.log) (sym (other m (other_unmarked m e))) i }

  rebuild_events : (m : ℕ) → Events k ghost_after m
  rebuild_events m = elim (ℕ_discrete m n) [
    | yes q ↦ subst (Events k ghost_after) (sym q)
        (record {
          rise = subst (λ (x : List Event). Rises time_of 0 (passing l.plan n x)) (sym (ghost_now n refl)) (rise_rebuilt l g cut base fed receipts crashes inv n replaying T fs r);
          within = λ e. subst (λ (x : Node). Within time_of x.time (passing l.plan n (ghost_after n))) (sym now)
              (subst (λ (x : List Event). Within time_of T (passing l.plan n x)) (sym (ghost_now n refl)) (within_rebuilt l g cut base fed receipts crashes inv n replaying T fs r));
        })
    | no d ↦ events_stay l steps nodes l.lanes g ghost_after m (λ _. other m d) (ghost_other m d) (inv.events m)
  ]

  -- Another node that replays is not joined to this one.
  rebuild_replays : (m : ℕ) → (node_at k m).status ≡ replay → Replays k ghost_after cut_after base m
  rebuild_replays m e =
      let d : m ≢ n = λ q. up_not_replay (sym alive ∙ ap (λ (x : ℕ). (node_at k x).status) (sym q) ∙ e) in
      let same = other m d in
      let old : (node_at l m).status ≡ replay = ap (λ (x : Node). x.status) (sym same) ∙ e in
      let mark = replay_marked inv.marks m old in
      let apart : (b : ℕ) → Enters l.plan m b → (channel_at l.plan b).sender ≢ n = λ b h q. true≢false (sym mark ∙ ap (λ (x : ℕ). (node_at l x).crashed) (sym h.1) ∙ child_unmarked inv n marked b (h.0, q)) in
      replays_stay l steps nodes l.lanes g ghost_after m same (ghost_other m d) cut cut_after base base (λ c h. refl) (λ b y t i. refl)
      (λ b h. (refl, omega (arith, cut_other b (λ q. d (sym h.1 ∙ q))), refl, ap (until time_of (lane_at l b).taken) (put_other b (apart b h)))) (inv.replays m old)

  room_now : Room k ghost_after n
  room_now =
      let low = (node_at l n).time in
      let p = l.plan in
      let late : Message → Bool = λ m. ltb (node_at l n).time m.time in
      let goes : Message → Bool = λ m. passed_on l.plan n m.what in
      let sent = map (sent_of l.plan n) fs in
      let old = until time_of (node_at l n).time (passing l.plan n (g n)) in
      let is : passing p n (ghost_after n) ≡ old ++ sent = ap (passing p n) (ghost_now n refl) ∙ passing_rebuilt l g cut base fed receipts crashes inv n replaying T fs r in
      let held : past time_of low (passing p n (ghost_after n)) ≡ past time_of low (log_passing p n (map (entry_of p n) fs)) =
      ap (past time_of low) (sym (keep_wider goes goes (λ x e. e) (map (sent_of p n) (ghost_after n))) ∙ ap (keep goes) is ∙ keep_append goes old sent) ∙ keep_append late (keep goes old) (keep goes sent)
      ∙ ap (λ (x : List Message). x ++ past time_of low (keep goes sent)) (keep_swap late goes old ∙ ap (keep goes) (past_none time_of (within_until time_of (node_at l n).time (passing l.plan n (g n)))))
      ∙ ap (λ (x : List Message). past time_of low (keep goes x)) (sym (map-map message_of (entry_of p n) fs)) in
      record {
        least = low;
        below = (inv.replays n replaying).low;
        few = rw now held;
        held_few = λ e. absurd (up_not_replay (sym alive ∙ e));
      }

  rebuild_rooms : (m : ℕ) → (node_at k m).crashed ≡ true → Room k ghost_after m
  rebuild_rooms m e =
      elim (ℕ_discrete m n) [
        | yes q ↦ subst (Room k ghost_after) (sym q) room_now
        | no d ↦
            (let old = ap (λ (x : Node). x.crashed) (sym (other m d)) ∙ e in
            room_stays l steps nodes l.lanes g ghost_after m (other m d) (ghost_other m d) (marked_took inv.marks inv.nodes m old) (λ c h. omega arith) (λ b h. omega arith) (inv.rooms m old))
      ]

  pub rebuild_inv : Inv k ghost_after cut_after base fed receipts crashes
  rebuild_inv =
      record {
        shape = record { nodes_long = long ∙ inv.shape.nodes_long; lanes_long = inv.shape.lanes_long };
        ordered = inv.ordered;
        marks = marks_beside l steps nodes l.lanes n still_marked other crashes marked inv.marks;
        nodes = rebuild_nodes;
        logs = λ m e. logged_stays l steps nodes l.lanes rebuild_grows g ghost_after m e (other m (other_unmarked m e)) (ap (recorded l.plan m) (ghost_other m (other_unmarked m e))) (inv.logs m (unmarked_was m e));
        events = rebuild_events;
        channels = λ c h. channels_beside l steps nodes l.lanes g ghost_after n other (λ x d e. refl) got_other c h cut cut_after (cut_other c) (put_other c) (channel_enters c) (channel_leaves c) (inv.channels c h);
        ends = λ c h. ends-beside l steps nodes l.lanes g ghost_after n other (λ x d e. refl) got_other c h (ends_enters c) (ends_leaves c) (inv.ends c h);
        replays = rebuild_replays;
        rooms = rebuild_rooms;
      }
