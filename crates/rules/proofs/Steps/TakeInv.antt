-- Take, of a node that is up, keeps the invariant: its history grows by the message, which was the next to come.
use Prim.Native.Nat.{ℕ, max, ◌<◌, ◌≤◌}
use mathlib.Core.Path.{◌≡◌, refl, sym, ap, subst, ◌∙◌}
use mathlib.Core.Logic.{◌≢◌}
use mathlib.Core.Bool.{Bool, true, true≢false}
use mathlib.Core.List.{List, [], ◌∷◌, ◌++◌, map}
use native.Mathlib.Omega.{arith}
use native.Mathlib.Decide.{ℕ_discrete}
use lib.ListN.{length}
use borrow.Author.Tests.{eq-eqb, ne_eqb}
use Rattle.basics.specs.Update.{changed, changed_there, changed_else}
use Rattle.plan.specs.Rule.{applied}
use Rattle.plan.specs.Plan.{rule_at, channel_at, channel_count, is_source}
use Rattle.rules.specs.Lists.{keep_one, greatest_of}
use Rattle.rules.specs.Line.{Message, down, replay, Node, Lane, Line, node_at, lane_at, with_node, with_lane, parents}
use Rattle.rules.specs.Clock.{entry_for}
use Rattle.rules.specs.Replay.{passed_on, time_for}
use Rattle.rules.specs.Plain.{Act, Receipt}
use Rattle.rules.proofs.Lists.ListLaws.{map-append}
use Rattle.rules.proofs.Lists.Rising.{until, Rises}
use Rattle.rules.proofs.Lists.Members.{greatest_snoc}
use Rattle.rules.proofs.Line.LineLaws.{lane_there, lane_else, node_else}
use Rattle.rules.proofs.Histories.PlainRun.{took_in, grown, receipts_in, taken-receipt}
use Rattle.rules.proofs.Histories.Witness.{Taken, none, more, taken-append}
use Rattle.rules.proofs.Histories.Ghost.{Event, took_at, Ghost, event_time, input_of, sent_of, history_of, put, got, got_one, log_put, later, later_there, later_else, put_else, got_there}
use Rattle.rules.proofs.Histories.Passing.{time_later, time_late}
use Rattle.rules.proofs.Line.Joins.{no_source}
use Rattle.rules.proofs.Invariant.Inv.{Inv, is_up, time_of, Enters, Leaves, Nodes, Channels, HeardFrom, heard_on, Ends, Replays}
use Rattle.rules.proofs.Invariant.InvLaws.{up_not_replay, up_not_down, ends_up, marked_took}
use Rattle.rules.proofs.Invariant.Grow.{sender_taken, sender_same, sender_receiving}
use Rattle.rules.proofs.Invariant.Stays.{shape_beside, marks_stay, channel_stays, channel-beside, ends_stay, events_stay, replays_stay, replays_cut}
use Rattle.rules.proofs.Invariant.Logs.{Grows, logged_stays}
use Rattle.rules.proofs.Invariant.Heard.{HeardMore, heard_more}
use Rattle.rules.proofs.Invariant.Logging.{node_logs, status_kept, mark_kept, log_put_else, logging_shape, logging_marks, logging_logs, logging_channels, logging_events, logging_ends, logging_replays}
use Rattle.rules.proofs.Invariant.Rooms.{room_stays, room_logs}

module _ (l : Line) (g : Ghost) (cut base : ℕ → ℕ) (fed : List Act) (receipts : List Receipt) (crashes : List ℕ) (inv : Inv l g cut base fed receipts crashes)
    (b : ℕ) (here : b < channel_count l.plan) (m : Message) (rest : List Message) (heardOf : List ℕ) (first : (lane_at l b).queue ≡ m ∷ rest) (sender : is_up l (channel_at l.plan b).sender) where
  abbrev pub taken : Lane
  taken = record { mark = (lane_at l b).mark; taken = max (lane_at l b).taken m.time; heard = heardOf; queue = rest; low = (lane_at l b).low }

  abbrev pub beside : Line
  beside = with_lane b taken l

  abbrev pub n : ℕ
  n = (channel_at l.plan b).receiver

  lane_now : lane_at beside b ≡ taken
  lane_now = lane_there b taken l (rw inv.shape.lanes_long here)

  -- The entry of a message that is the next to come.
  pub lane_raised : (lane_at l b).taken < m.time → lane_at beside b ≡ record { mark = (lane_at l b).mark; taken = m.time; heard = heardOf; queue = rest; low = (lane_at l b).low }
  lane_raised above = lane_now ∙ (λ i. record { mark = (lane_at l b).mark; taken = greater above i; heard = heardOf; queue = rest; low = (lane_at l b).low })
    where
      greater : (lane_at l b).taken < m.time → max (lane_at l b).taken m.time ≡ m.time
      greater h = omega arith

  -- No entry is lowered.
  pub not_lower : (c : ℕ) → (lane_at l c).taken ≤ (lane_at beside c).taken
  not_lower c =
      elim (ℕ_discrete c b) [
        | yes q ↦ subst (λ (x : ℕ). (lane_at l x).taken ≤ (lane_at beside x).taken) (sym q) (omega (arith, ap (λ (x : Lane). x.taken) lane_now))
        | no d ↦ omega (arith, ap (λ (x : Lane). x.taken) (lane_else b taken l c d))
      ]

  -- The channels of a replaying node that is not the receiver.
  module _ (k : ℕ) (replaying : (node_at l k).status ≡ replay) (apart : k ≢ n) where
    entering_other : (c : ℕ) → Enters l.plan k c → lane_at beside c ≡ lane_at l c
    entering_other c h = lane_else b taken l c (λ q. apart (sym h.1 ∙ ap (λ (x : ℕ). (channel_at l.plan x).receiver) q))

    leaving_other : (c : ℕ) → Leaves l.plan k c → lane_at beside c ≡ lane_at l c
    leaving_other c h = lane_else b taken l c (λ q. up_not_replay (sym sender ∙ ap (λ (x : ℕ). (node_at l x).status) (ap (λ (x : ℕ). (channel_at l.plan x).sender) (sym q) ∙ h.1) ∙ replaying))

    pub replay_beside : Replays beside g cut base k
    unfolding with_lane
    replay_beside =
        replays_stay l l.steps l.nodes beside.lanes g g k refl refl cut cut base base (λ c h. ap (λ (x : Lane). x.taken) (leaving_other c h)) (λ c y t i. refl)
        (λ c h. (ap (λ (x : Lane). x.taken) (entering_other c h), omega arith, refl, refl)) (inv.replays k replaying)

  pub low_same : (c : ℕ) → (lane_at beside c).low ≡ (lane_at l c).low
  low_same c =
      elim (ℕ_discrete c b) [
        | yes q ↦ ap (λ (x : ℕ). (lane_at beside x).low) q ∙ ap (λ (x : Lane). x.low) lane_now ∙ ap (λ (x : ℕ). (lane_at l x).low) (sym q)
        | no d ↦ ap (λ (x : Lane). x.low) (lane_else b taken l c d)
      ]

  beside_grows : Grows l (with_lane b taken l)
  unfolding with_lane
  beside_grows = record { marks = λ k s. s; entries = λ c h s. not_lower c; lows = λ c h s. low_same c; entered = λ k s d i. i }

  module _ (receiver : is_up l n) (hears : (a : ℕ) → HeardMore a (parents l.plan (channel_at l.plan b).sender) (lane_at l b).heard heardOf m.origin) where
    abbrev pub event : Event
    event = took_at b m (time_for l.plan n (applied (rule_at l.plan n) m.what) (node_at l n).time)

    abbrev after : Line
    after = with_node n (node_logs beside n event) beside

    abbrev cut_after : ℕ → ℕ
    cut_after = changed cut b m.time

    there : n < length beside.nodes
    unfolding with_lane
    there = rw inv.shape.nodes_long (inv.ordered.inside b here)

    later_on : (node_at beside n).time ≤ event_time event
    unfolding with_lane
    later_on = time_later l.plan n (applied (rule_at l.plan n) m.what) (node_at l n).time

    late_on : passed_on l.plan n (sent_of l.plan n event).what ≡ true → (node_at beside n).time < event_time event
    unfolding with_lane
    late_on = time_late l.plan n (applied (rule_at l.plan n) m.what) (node_at l n).time

    apart : (channel_at l.plan b).sender ≢ n
    apart q = omega (arith, inv.ordered.forward b here)

    got_now : got l.plan (later g n event) b ≡ got l.plan g b ++ m ∷ []
    got_now = got_there l.plan g n b event refl ∙ ap (λ (t : Bool). got l.plan g b ++ (keep_one t m [] ++ [])) (eq-eqb b b refl)

    got_none : (c : ℕ) → c ≢ b → got_one c event ≡ []
    got_none c d = ap (λ (t : Bool). keep_one t m []) (ne_eqb b c (λ q. d (sym q)))

    -- The channel of the message, and the others.
    own_channel : Channels after (later g n event) cut_after b
    unfolding with_lane with_node log_put
    own_channel =
        let k = inv.channels b here in
        let (s, upto, above) = sender_taken m rest heardOf (λ q. up_not_down (sym receiver ∙ q)) k.rises first (k.cut_up receiver) (k.sender_up sender) in
        let lane = lane_raised above in
        let puts : put l.plan (later g n event) b ≡ put l.plan g b = put_else l.plan g n b event apart in
        let newest : cut_after b ≡ m.time = changed_there cut b m.time b refl in
        record {
          rises = subst (λ (x : List Message). Rises time_of 0 x) (sym puts) k.rises;
          cut_is =
              got_now ∙ ap (λ (x : List Message). x ++ m ∷ []) k.cut_is ∙ sym upto
              ∙ ap (until time_of m.time) (sym puts) ∙ ap (λ (t : ℕ). until time_of t (put l.plan (later g n event) b)) (sym newest);
          cut_up = λ h. newest ∙ ap (λ (x : Lane). x.taken) (sym lane);
          sender_up = λ h.
              sender_receiving {old = (node_at l n).status ≢ down} (λ r z. r (status_kept beside n event there n ∙ z))
              (sender_same (ap (λ (x : Node). x.time) (sym (node_else n (node_logs beside n event) beside (channel_at l.plan b).sender apart))) (sym lane) (sym (log_put_else beside n event there later_on late_on b apart)) (sym puts) (sym newest) s);
        }

    other_channel : (c : ℕ) → c < channel_count l.plan → c ≢ b → Channels l g cut c → Channels after (later g n event) cut_after c
    unfolding with_lane
    other_channel c h d k =
        channel_stays after after.steps after.nodes after.lanes (later g n event) (later g n event) c refl refl refl refl (λ _. refl) cut cut_after refl (changed_else cut b m.time c d)
        (logging_channels beside n event there later_on late_on receiver g cut c h (got_none c d) (channel-beside l g cut b c taken d k))

    own_ends : Ends after (later g n event) b
    unfolding with_node with_lane
    own_ends =
        ends_up (status_kept beside n event there (channel_at l.plan b).sender ∙ sender) (λ h.
        ap (λ (x : Lane). x.taken) lane_now ∙ ap (λ (t : ℕ). max t m.time) ((inv.ends b here).exact (sym (mark_kept beside n event there n) ∙ h))
        ∙ sym (ap (λ (x : List Message). greatest_of (map time_of x)) got_now ∙ greatest_snoc time_of (got l.plan g b) m))
        (λ h a. subst (λ (x : List Message). HeardFrom a (heard_on after b a) x) (sym got_now) (subst (λ (x : Lane). HeardFrom a (entry_for a (parents l.plan (channel_at l.plan b).sender) x.heard) (got l.plan g b ++ m ∷ [])) (sym lane_now)
        (heard_more m a (parents l.plan (channel_at l.plan b).sender) (lane_at l b).heard heardOf (hears a) ((inv.ends b here).through (sym (mark_kept beside n event there n) ∙ h) a))))

    -- The receiver's inputs and receipts.
    inputs_there : (k : ℕ) → k ≡ n → map input_of (later g n event k) ≡ map input_of (g k) ++ took_in b m.what ∷ []
    inputs_there k q = ap (map input_of) (later_there g n k event q) ∙ map-append input_of (g k) (event ∷ [])

    grown_inputs : (k : ℕ) → grown (history_of g) n (took_in b m.what) k ≡ map input_of (later g n event k)
    grown_inputs k =
        elim (ℕ_discrete k n) [
          | yes q ↦ changed_there (history_of g) n (map input_of (g n) ++ took_in b m.what ∷ []) k q ∙ ap (λ (x : ℕ). map input_of (g x) ++ took_in b m.what ∷ []) (sym q) ∙ sym (inputs_there k q)
          | no d ↦ changed_else (history_of g) n (map input_of (g n) ++ took_in b m.what ∷ []) k d ∙ ap (map input_of) (sym (later_else g n k event d))
        ]

    take-nodes : Nodes after (later g n event) fed (receipts ++ record { receiver = n; what = m.what; sender = (channel_at l.plan b).sender } ∷ [])
    unfolding with_node with_lane
    take-nodes =
        let nodes = inv.nodes in
        record {
          only_feeds = nodes.only_feeds;
          sources = λ k s. ap (map input_of) (later_else g n k event (λ q. true≢false (sym s ∙ ap (is_source l.plan) q ∙ no_source l.plan b here))) ∙ nodes.sources k s;
          others = λ k s. (
            (nodes.others k s).0,
            elim (ℕ_discrete k n) [
              | yes q ↦ subst (Taken l.plan k) (sym (inputs_there k q)) (taken-append (nodes.others k s).1 (more here (sym q) (omega (arith, inv.ordered.forward b here)) none))
              | no d ↦ subst (λ (x : List Event). Taken l.plan k (map input_of x)) (sym (later_else g n k event d)) (nodes.others k s).1
            ],
          );
          beyond = λ k h. later_else g n k event (λ q. omega (arith, inv.ordered.inside b here)) ∙ nodes.beyond k h;
          received = λ k s.
              taken-receipt l.plan (history_of g) (record { queues = []; received = receipts }) b m.what k (nodes.received k (sym (mark_kept beside n event there k) ∙ s)) ∙ ap (receipts_in l.plan k) (grown_inputs k);
        }

    cut_other : (k : ℕ) → k ≢ n → (c : ℕ) → Enters l.plan k c → cut c ≤ cut_after c
    cut_other k d c h = omega (arith, changed_else cut b m.time c (λ q. d (sym h.1 ∙ ap (λ (x : ℕ). (channel_at l.plan x).receiver) q)))

    take-replays : (k : ℕ) → (node_at l k).status ≡ replay → Replays after (later g n event) cut_after base k
    unfolding with_node with_lane
    take-replays k old =
        let d : k ≢ n = λ z. up_not_replay (sym receiver ∙ ap (λ (x : ℕ). (node_at l x).status) (sym z) ∙ old) in
        replays_cut after (later g n event) cut cut_after base k (cut_other k d)
        (logging_replays beside n event there later_on late_on receiver g cut base k old
        (λ c h s. rw (entering_other k old d c h) (subst (λ (x : ℕ). (lane_at l c).taken ≤ (node_at l x).time) s ((inv.channels c h.0).sender_up (ap (λ (x : ℕ). (node_at l x).status) s ∙ receiver)).taken_within)) (replay_beside k old d))

    pub take_inv : Inv (with_node n (node_logs beside n event) beside) (later g n event) (changed cut b m.time) base fed (receipts ++ record { receiver = n; what = m.what; sender = (channel_at l.plan b).sender } ∷ []) crashes
    unfolding with_node with_lane
    take_inv =
        record {
          shape = logging_shape beside n event (shape_beside b taken inv.shape);
          ordered = inv.ordered;
          marks = logging_marks beside n event there crashes (marks_stay l l.steps l.nodes beside.lanes crashes (λ k. refl) (λ k. refl) inv.marks);
          nodes = take-nodes;
          logs = λ k s. logging_logs beside n event there refl g k s (logged_stays l l.steps l.nodes beside.lanes beside_grows g g k (sym (mark_kept beside n event there k) ∙ s) refl refl (inv.logs k (sym (mark_kept beside n event there k) ∙ s)));
          events = λ k. logging_events beside n event there later_on late_on receiver g k (events_stay l l.steps l.nodes beside.lanes g g k (λ _. refl) refl (inv.events k));
          channels = λ c h. elim (ℕ_discrete c b) [ yes q ↦ subst (Channels after (later g n event) cut_after) (sym q) own_channel | no d ↦ other_channel c h d (inv.channels c h) ];
          ends = λ c h. elim (ℕ_discrete c b) [
            | yes q ↦ subst (Ends after (later g n event)) (sym q) own_ends
            | no d ↦ logging_ends beside n event there g c (got_none c d) (ends_stay l l.steps l.nodes beside.lanes g g c refl refl (lane_else b taken l c d) refl refl (inv.ends c h))
          ];
          replays = λ k q. take-replays k (sym (status_kept beside n event there k) ∙ q);
          rooms = λ k q.
              (let old = sym (mark_kept beside n event there k) ∙ q in
              let took = marked_took inv.marks inv.nodes k old in
              room_logs beside n event there receiver g k took (room_stays l l.steps l.nodes beside.lanes g g k refl refl took (λ c h. not_lower c) (λ c h. not_lower c) (inv.rooms k old)));
        }
