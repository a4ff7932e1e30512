-- Take, of a node that replays and goes on replaying, keeps the invariant: histories do not move, and the row of the message grows by it.
use Prim.Native.Nat.{ℕ, max, ◌+◌, ◌<◌, ◌≤◌}
use mathlib.Core.Path.{◌≡◌, refl, sym, ap, subst, ◌∙◌}
use mathlib.Core.Logic.{◌≢◌}
use mathlib.Core.Bool.{Bool, true, false}
use mathlib.Core.List.{List, [], ◌∷◌, ◌++◌, map}
use native.Mathlib.Omega.{arith}
use native.Mathlib.Decide.{ℕ_discrete}
use lib.ListN.{length, length-set, length-append}
use lib.Dec.{eqb, leb}
use borrow.Author.Tests.{eq-eqb, ne_eqb}
use Rattle.plan.specs.Plan.{channel_at, channel_count}
use Rattle.rules.specs.Lists.{keep, keep_one}
use Rattle.rules.specs.Line.{held_limit, Message, Held, down, replay, Node, Lane, Line, node_at, lane_at, with_node, with_lane}
use Rattle.rules.specs.Clock.{message_of}
use Rattle.rules.specs.Recover.{row_goal}
use Rattle.rules.specs.Replay.{holding}
use Rattle.rules.specs.Plain.{Act, Receipt}
use Rattle.rules.proofs.Lists.ListLaws.{keep_append, keep_more, keep-none, map_more, nil_right}
use Rattle.rules.proofs.Lists.Rising.{until, past, past_snoc}
use Rattle.rules.proofs.Lists.Members.{In, here as here_in, in_right, keep_in, next_first}
use Rattle.rules.proofs.Lists.Counts.{keep_fewer, keep_one_fewer}
use Rattle.rules.proofs.Line.LineLaws.{lane_else, lanes_long, node_there, node_else}
use Rattle.rules.proofs.Histories.PlainRun.{receipt_else}
use Rattle.rules.proofs.Histories.Ghost.{Event, took_at, Ghost, takes_message, put, log_put}
use Rattle.rules.proofs.Histories.Passing.{goes_on, held_of}
use Rattle.rules.proofs.Invariant.Inv.{Inv, is_up, time_of, Enters, SenderUp, Channels, Ends, Row, Replays, Room, waits, takens}
use Rattle.rules.proofs.Invariant.InvLaws.{past_low, up_not_replay, replay_not_down, replay_marked, marked_took, ends_up}
use Rattle.rules.proofs.Invariant.MarkedLaws.{put-taken, goal_message, goal_cut}
use Rattle.rules.proofs.Invariant.Grow.{sender_taken, sender_cut, sender_same, sender_receiving}
use Rattle.rules.proofs.Invariant.Stays.{moved, everywhere, marks_stay, unmarked_other, nodes_stay, channel_stays, ends_stay, events_stay, replays_stay, replays-keep}
use Rattle.rules.proofs.Invariant.Logs.{Grows, logged_stays}
use Rattle.rules.proofs.Invariant.Rooms.{still_waits, waits_no_more, waits_less, room_stays}
use Rattle.rules.proofs.Steps.TakeInv.{lane_raised, not_lower, low_same, replay_beside}

module _ (l : Line) (g : Ghost) (cut base : ℕ → ℕ) (fed : List Act) (receipts : List Receipt) (crashes : List ℕ) (inv : Inv l g cut base fed receipts crashes)
    (b : ℕ) (here : b < channel_count l.plan) (m : Message) (rest : List Message) (heardOf : List ℕ) (first : (lane_at l b).queue ≡ m ∷ rest) (sender : is_up l (channel_at l.plan b).sender)
    (replaying : (node_at l (channel_at l.plan b).receiver).status ≡ replay) (open_row : (lane_at l b).taken < row_goal (node_at l (channel_at l.plan b).receiver).targets (channel_at l.plan b).sender) where
  abbrev pub taken : Lane
  taken = record { mark = (lane_at l b).mark; taken = max (lane_at l b).taken m.time; heard = heardOf; queue = rest; low = (lane_at l b).low }

  abbrev pub beside : Line
  beside = with_lane b taken l

  abbrev pub n : ℕ
  n = (channel_at l.plan b).receiver

  abbrev pub receipt : Receipt
  receipt = record { receiver = n; what = m.what; sender = (channel_at l.plan b).sender }

  abbrev puts : List Message
  puts = put l.plan g b

  marked : (node_at l n).crashed ≡ true
  marked = replay_marked inv.marks n replaying

  old : Replays l g cut base n
  old = inv.replays n replaying

  own_row : Row l g (cut b) (base b) n b
  own_row = old.rows b (here, refl)

  apart : (channel_at l.plan b).sender ≢ n
  apart q = omega (arith, inv.ordered.forward b here)

  sent : SenderUp (node_at l (channel_at l.plan b).sender).time (lane_at l b) (log_put l b) puts (cut b) ((node_at l n).status ≢ down)
  sent = (inv.channels b here).sender_up sender

  -- The message is the next to come.
  pub next : SenderUp (node_at l (channel_at l.plan b).sender).time (record { mark = (lane_at l b).mark; taken = m.time; heard = heardOf; queue = rest; low = (lane_at l b).low }) (log_put l b) puts m.time ((node_at l n).status ≢ down)
      × (until time_of m.time puts ≡ until time_of (lane_at l b).taken puts ++ m ∷ []) × ((lane_at l b).taken < m.time)
  next = sender_taken m rest heardOf (λ q. replay_not_down (sym replaying ∙ q)) (inv.channels b here).rises first refl (sender_cut sent.taken_within sent)

  lane_now : lane_at beside b ≡ record { mark = (lane_at l b).mark; taken = m.time; heard = heardOf; queue = rest; low = (lane_at l b).low }
  lane_now = lane_raised l g cut base fed receipts crashes inv b here m rest heardOf first sender next.2

  entry_now : (lane_at beside b).taken ≡ m.time
  entry_now = ap (λ (x : Lane). x.taken) lane_now

  -- The message lies within the row's goal, which is the time of a message put on the channel.
  to_goal : m.time ≤ row_goal (node_at l n).targets (channel_at l.plan b).sender
  to_goal =
      let (y, on, _, time) = goal_message inv n replaying b (here, refl) (λ q. omega arith) in
      omega (arith, next_first time_of next.1 on (omega (arith, time)), time)

  -- What goes on of the row's messages.
  row_more : keep (goes_on l.plan n) (past time_of (base b) (until time_of m.time puts)) ≡ keep (goes_on l.plan n) (past time_of (base b) (until time_of (lane_at l b).taken puts)) ++ keep_one (goes_on l.plan n m) m []
  row_more =
      ap (λ (x : List Message). keep (goes_on l.plan n) (past time_of (base b) x)) next.1
      ∙ ap (keep (goes_on l.plan n)) (past_snoc time_of (until time_of (lane_at l b).taken puts) m (omega (arith, own_row.base_taken, next.2)))
      ∙ keep_append (goes_on l.plan n) (past time_of (base b) (until time_of (lane_at l b).taken puts)) (m ∷ [])

  -- It was put on the channel and taken before: where it goes on, the replay waited for it.
  was_put : In m puts
  was_put = (keep_in (λ (x : Message). leb x.time m.time) puts (subst (λ (x : List Message). In m x) (sym next.1) (in_right (until time_of (lane_at l b).taken puts) here_first))).0
    where
      here_first : In m (m ∷ [])
      here_first = here_in

  pub waited : goes_on l.plan n m ≡ true → (t : ℕ) × In (took_at b m t) (g n) × (waits l.plan n (node_at l n).time (takens l) (took_at b m t) ≡ true)
  waited goes =
      let (t, i) = put-taken inv n marked b m (here, refl) was_put (omega (arith, to_goal, goal_cut inv n replaying b (here, refl))) in
      let late : (node_at l n).time < t = past_low old i goes (omega (arith, own_row.base_taken, next.2)) in
      (t, i, still_waits l.plan n (node_at l n).time (takens l) b m t goes late next.2)

  -- The line after the Take, by its nodes.
  abbrev line_of : List Node → Line
  line_of nodes = moved l l.steps nodes beside.lanes

  -- Node n holds the message if it goes on, and is else as it was.
  module _ (nodes : List Node) (long : length nodes ≡ length l.nodes) (others : (k : ℕ) → k ≢ n → node_at (line_of nodes) k ≡ node_at l k)
      (status : (node_at (line_of nodes) n).status ≡ (node_at l n).status) (mark : (node_at (line_of nodes) n).crashed ≡ (node_at l n).crashed) (time : (node_at (line_of nodes) n).time ≡ (node_at l n).time)
      (log : (node_at (line_of nodes) n).log ≡ (node_at l n).log) (targets : (node_at (line_of nodes) n).targets ≡ (node_at l n).targets)
      (held : (node_at (line_of nodes) n).held ≡ (node_at l n).held ++ keep_one (goes_on l.plan n m) (held_of l.plan n b m) []) where
    abbrev after : Line
    after = line_of nodes

    statuses : (k : ℕ) → (node_at after k).status ≡ (node_at l k).status
    statuses = everywhere l l.steps nodes beside.lanes n others (λ (x : Node). x.status) status

    marks : (k : ℕ) → (node_at after k).crashed ≡ (node_at l k).crashed
    marks = everywhere l l.steps nodes beside.lanes n others (λ (x : Node). x.crashed) mark

    up_other : (k : ℕ) → is_up after k → node_at after k ≡ node_at l k
    up_other k e = others k (λ q. up_not_replay (sym e ∙ ap (λ (x : ℕ). (node_at after x).status) q ∙ status ∙ replaying))

    other_unmarked : (k : ℕ) → (node_at after k).crashed ≡ false → k ≢ n
    other_unmarked = unmarked_other l l.steps nodes beside.lanes n (mark ∙ marked) others

    -- The channel of the message.
    same_sender : node_at after (channel_at l.plan b).sender ≡ node_at l (channel_at l.plan b).sender
    same_sender = others (channel_at l.plan b).sender apart

    channel_own : Channels after g cut b
    unfolding log_put
    channel_own =
        let k = inv.channels b here in
        record {
          rises = k.rises;
          cut_is = k.cut_is;
          cut_up = λ e. absurd (up_not_replay (sym e ∙ status ∙ replaying));
          sender_up = λ e.
              sender_receiving {old = (node_at l n).status ≢ down} (λ r z. r (status ∙ z))
              (sender_same (ap (λ (x : Node). x.time) (sym same_sender)) (sym lane_now) (ap (λ (x : Node). keep (takes_message l.plan b) (map message_of x.log)) (sym same_sender)) refl refl
              (sender_cut sent.cut_within next.0));
        }

    ends_own : Ends after g b
    ends_own = ends_up (statuses (channel_at l.plan b).sender ∙ sender) (λ e. absurd (other_unmarked n e refl)) (λ e. absurd (other_unmarked n e refl))

    row_own : Row after g (cut b) (base b) n b
    row_own =
        record {
          base_got = own_row.base_got;
          base_taken = omega (arith, own_row.base_taken, next.2, entry_now);
          to_goal = rw (entry_now, targets) (omega (arith, to_goal));
          held =
              ap (keep from) held ∙ keep_more from t h (node_at l n).held (eq-eqb (channel_at l.plan b).sender (channel_at l.plan b).sender refl)
              ∙ ap (λ (x : List Held). x ++ keep_one t h []) own_row.held ∙ sym (map_more (held_of l.plan n b) t m (keep (goes_on l.plan n) (past time_of (base b) (until time_of (lane_at l b).taken puts))))
              ∙ ap (map (held_of l.plan n b)) (sym row_more)
              ∙ ap (λ (x : ℕ). map (held_of l.plan n b) (keep (goes_on l.plan n) (past time_of (base b) (until time_of x puts)))) (sym entry_now);
        }
      where
        from : Held → Bool
        from x = eqb x.sender (channel_at l.plan b).sender

        t : Bool
        t = goes_on l.plan n m

        h : Held
        h = held_of l.plan n b m

    row_other : (c : ℕ) → c ≢ b → Enters l.plan n c → Row l g (cut c) (base c) n c → Row after g (cut c) (base c) n c
    row_other c d (h, into) r =
        let entry = ap (λ (x : Lane). x.taken) (lane_else b taken l c d) in
        let other : (channel_at l.plan b).sender ≢ (channel_at l.plan c).sender = λ q. d (inv.ordered.alone c b h here (sym q) into) in
        record {
          base_got = r.base_got;
          base_taken = omega (arith, r.base_taken, entry);
          to_goal = rw (entry, targets) r.to_goal;
          held =
              ap (keep (λ (x : Held). eqb x.sender (channel_at l.plan c).sender)) held
              ∙ keep-none (λ (x : Held). eqb x.sender (channel_at l.plan c).sender) (goes_on l.plan n m) (held_of l.plan n b m) (node_at l n).held (ne_eqb (channel_at l.plan b).sender (channel_at l.plan c).sender other)
              ∙ r.held ∙ ap (λ (x : ℕ). map (held_of l.plan n c) (keep (goes_on l.plan n) (past time_of (base c) (until time_of x (put l.plan g c))))) (sym entry);
        }

    replay_own : Replays after g cut base n
    replay_own =
        replays-keep l l.steps nodes beside.lanes g g n log time targets refl cut cut base base
        (λ c h. ap (λ (x : Lane). x.taken) (lane_else b taken l c (λ q. apart (ap (λ (x : ℕ). (channel_at l.plan x).sender) (sym q) ∙ h.1)))) (λ c y t i. refl)
        (λ c h r. elim (ℕ_discrete c b) [ yes q ↦ subst (λ (x : ℕ). Row after g (cut x) (base x) n x) (sym q) row_own | no d ↦ row_other c d h r ]) old

    replay_other : (k : ℕ) → k ≢ n → (node_at after k).status ≡ replay → Replays after g cut base k
    unfolding with_lane
    replay_other k d e =
        let was : (node_at l k).status ≡ replay = sym (statuses k) ∙ e in
        replays_stay beside l.steps nodes beside.lanes g g k (others k d) refl cut cut base base (λ c h. refl) (λ c y t i. refl) (λ c h. (refl, omega arith, refl, refl))
        (replay_beside l g cut base fed receipts crashes inv b here m rest heardOf first sender k was d)

    raised : (c : ℕ) → (lane_at l c).taken ≤ (lane_at after c).taken
    raised = not_lower l g cut base fed receipts crashes inv b here m rest heardOf first sender

    hold_grows : Grows l after
    hold_grows = record { marks = λ k e. sym (marks k) ∙ e; entries = λ c h e. raised c; lows = λ c h e. low_same l g cut base fed receipts crashes inv b here m rest heardOf first sender c; entered = λ k e d i. subst (λ (x : Node). In d x.log) (sym (others k (other_unmarked k e))) i }

    room_own : Room l g n → Room after g n
    room_own r =
        record {
          least = r.least;
          below = λ c h. omega (arith, r.below c h, raised c);
          few = rw (status, log) r.few;
          held_few = λ e. rw (held, time) (fits (goes_on l.plan n m) refl);
        }
      where
        low : ℕ
        low = (node_at l n).time

        was : length (node_at l n).held + length (keep (waits l.plan n (node_at l n).time (takens l)) (g n)) ≤ held_limit
        was = r.held_few replaying

        less : (e : Event) → In e (g n) → waits l.plan n (node_at l n).time (takens after) e ≡ true → waits l.plan n (node_at l n).time (takens l) e ≡ true
        less = waits_less l.plan n (node_at l n).time (takens l) (takens after) (g n) (λ c x t i. raised c)

        fits : (t : Bool) → goes_on l.plan n m ≡ t → length ((node_at l n).held ++ keep_one t (held_of l.plan n b m) []) + length (keep (waits l.plan n (node_at l n).time (takens after)) (g n)) ≤ held_limit
        fits true e =
            let (t, i, w) = waited e in
            let gone : waits l.plan n (node_at l n).time (takens after) (took_at b m t) ≡ false = waits_no_more l.plan n (node_at l n).time (takens after) b m t (omega (arith, entry_now)) in
            omega (arith, was, length-append (node_at l n).held (held_of l.plan n b m ∷ []), keep_one_fewer (waits l.plan n (node_at l n).time (takens after)) (waits l.plan n (node_at l n).time (takens l)) less i gone w)
        fits false e = rw (nil_right (node_at l n).held) (omega (arith, was, keep_fewer (waits l.plan n (node_at l n).time (takens after)) (waits l.plan n (node_at l n).time (takens l)) (g n) less))

    after_inv : Inv after g cut base fed (receipts ++ receipt ∷ []) crashes
    after_inv =
        record {
          shape = record { nodes_long = long ∙ inv.shape.nodes_long; lanes_long = lanes_long b taken l ∙ inv.shape.lanes_long };
          ordered = inv.ordered;
          marks = marks_stay l l.steps nodes beside.lanes crashes statuses marks inv.marks;
          nodes = nodes_stay l l.steps nodes beside.lanes (λ k e. others k (other_unmarked k e)) (λ k e. receipt_else receipts receipt k (other_unmarked k e)) inv.nodes;
          logs = λ k e. logged_stays l l.steps nodes beside.lanes hold_grows g g k e (others k (other_unmarked k e)) refl (inv.logs k (sym (marks k) ∙ e));
          events = λ k. events_stay l l.steps nodes beside.lanes g g k (up_other k) refl (inv.events k);
          channels = λ c h. elim (ℕ_discrete c b) [
            | yes q ↦ subst (Channels after g cut) (sym q) channel_own
            | no d ↦ channel_stays l l.steps nodes beside.lanes g g c (statuses (channel_at l.plan c).sender) (statuses (channel_at l.plan c).receiver) (lane_else b taken l c d) refl (up_other (channel_at l.plan c).sender) cut cut refl refl (inv.channels c h)
          ];
          ends = λ c h. elim (ℕ_discrete c b) [
            | yes q ↦ subst (Ends after g) (sym q) ends_own
            | no d ↦ ends_stay l l.steps nodes beside.lanes g g c (statuses (channel_at l.plan c).sender) (statuses (channel_at l.plan c).receiver) (lane_else b taken l c d) refl (marks (channel_at l.plan c).receiver) (inv.ends c h)
          ];
          replays = λ k e. elim (ℕ_discrete k n) [ yes q ↦ subst (Replays after g cut base) (sym q) replay_own | no d ↦ replay_other k d e ];
          rooms = λ k e.
              (let mark_was = sym (marks k) ∙ e in
              elim (ℕ_discrete k n) [
                | yes q ↦ subst (Room after g) (sym q) (room_own (inv.rooms n marked))
                | no d ↦ room_stays l l.steps nodes beside.lanes g g k (others k d) refl (marked_took inv.marks inv.nodes k mark_was) (λ c h. raised c) (λ c h. raised c) (inv.rooms k mark_was)
              ]);
        }

  -- The message is dropped: only its channel changes.
  pub drop_inv : goes_on l.plan n m ≡ false → Inv beside g cut base fed (receipts ++ record { receiver = n; what = m.what; sender = (channel_at l.plan b).sender } ∷ []) crashes
  unfolding with_lane
  drop_inv e = after_inv l.nodes refl (λ k d. refl) refl refl refl refl refl (sym (ap (λ (t : Bool). (node_at l n).held ++ keep_one t (held_of l.plan n b m) []) e ∙ nil_right (node_at l n).held))

  -- The message is held.
  pub hold_inv : goes_on l.plan n m ≡ true
      → Inv (with_node n (holding (held_of l.plan n b m) (node_at beside n)) beside) g cut base fed (receipts ++ record { receiver = n; what = m.what; sender = (channel_at l.plan b).sender } ∷ []) crashes
  unfolding with_node with_lane holding
  hold_inv e =
      after_inv (with_node n x beside).nodes (length-set l.nodes n x) (node_else n x beside) (field (λ (y : Node). y.status)) (field (λ (y : Node). y.crashed)) (field (λ (y : Node). y.time)) (field (λ (y : Node). y.log))
      (field (λ (y : Node). y.targets)) (field (λ (y : Node). y.held) ∙ ap (λ (t : Bool). (node_at l n).held ++ keep_one t (held_of l.plan n b m) []) (sym e))
    where
      x : Node
      x = holding (held_of l.plan n b m) (node_at beside n)

      field : {A : Type 0} (f : Node → A) → f (node_at (with_node n x beside) n) ≡ f x
      field f = ap f (node_there n x beside (rw inv.shape.nodes_long (inv.ordered.inside b here)))
