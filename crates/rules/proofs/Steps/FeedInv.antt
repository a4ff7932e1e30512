-- Feed keeps the invariant: a source's history grows by the record fed.
use Prim.Native.Nat.{ℕ, suc, ◌<◌, ◌≤◌}
use mathlib.Core.Path.{◌≡◌, refl, sym, ap, subst, ◌∙◌}
use mathlib.Core.Logic.{◌≢◌}
use mathlib.Core.Bool.{Bool, true, false, true≢false}
use mathlib.Core.List.{List, [], ◌∷◌, ◌++◌, map}
use native.Mathlib.Omega.{arith}
use native.Mathlib.Decide.{ℕ_discrete}
use lib.ListN.{length}
use Rattle.basics.specs.Update.{changed_there, changed_else}
use Rattle.plan.specs.declared.Record.{Record}
use Rattle.plan.specs.Rule.{applied}
use Rattle.plan.specs.Plan.{rule_at, channel_at, node_count, channel_count, is_source}
use Rattle.rules.specs.Lists.{keep_one}
use Rattle.rules.specs.Line.{Message, replay, Line, node_at, lane_at, with_node}
use Rattle.rules.specs.Replay.{passed_on, timed}
use Rattle.rules.specs.Plain.{Act, feeds, Receipt}
use Rattle.rules.proofs.Lists.ListLaws.{map-append, keep_append, nil_right}
use Rattle.rules.proofs.Lists.Rising.{until, Rises, Within}
use Rattle.rules.proofs.Line.Joins.{takes_passed}
use Rattle.rules.proofs.Histories.PlainRun.{Input, fed_in, History, grown, receipts_in, receipts_append}
use Rattle.rules.proofs.Histories.Witness.{fed_onto, no_inputs, Feeds, no_more, one_more, Taken}
use Rattle.rules.proofs.Histories.Ghost.{Event, fed_at, Ghost, input_of, sent_of, takes_message, put, got, later, later_there, later_else, put_there, put_else, got_there, got_else}
use Rattle.rules.proofs.Histories.Passing.{passing, passing_append, has_entry, recorded, passed_timed}
use Rattle.rules.proofs.Invariant.Inv.{time_of, Inv, Nodes, is_up}
use Rattle.rules.proofs.Invariant.InvLaws.{source_up, marked_took, if_marked, up_not_replay}
use Rattle.rules.proofs.Invariant.Stays.{channel_stays, ends_stay, replays_stay}
use Rattle.rules.proofs.Invariant.Logs.{logged_stays}
use Rattle.rules.proofs.Invariant.Logging.{node_logs, status_kept, mark_kept, logging_shape, logging_marks, logging_logs, logging_channels, logging_events, logging_ends, logging_replays}
use Rattle.rules.proofs.Invariant.Rooms.{room_logs, room_stays}

-- One feed more at the end.
feeds_snoc : {acts : List Act} (n : ℕ) (r : Record) → Feeds acts → Feeds (acts ++ feeds n r ∷ [])
feeds_snoc n r no_more = one_more no_more
feeds_snoc n r (one_more f) = one_more (feeds_snoc n r f)

fed_snoc : (h : History) {acts : List Act} (n : ℕ) (r : Record) → Feeds acts → fed_onto h (acts ++ feeds n r ∷ []) ≡ grown (fed_onto h acts) n (fed_in r)
fed_snoc h n r no_more = refl
fed_snoc h n r (one_more {n = m} {r = s} f) = fed_snoc (grown h m (fed_in s)) n r f

module _ (l : Line) (g : Ghost) (cut base : ℕ → ℕ) (fed : List Act) (receipts : List Receipt) (crashes : List ℕ) (inv : Inv l g cut base fed receipts crashes) (n : ℕ) (r : Record) (here : n < node_count l.plan) (source : is_source l.plan n ≡ true) where
  alive : is_up l n
  alive = source_up inv.marks n source

  fed_there : (m : ℕ) → m ≡ n → fed_onto no_inputs (fed ++ feeds n r ∷ []) m ≡ fed_onto no_inputs fed m ++ fed_in r ∷ []
  fed_there m q = ap (λ (h : History). h m) (fed_snoc no_inputs n r inv.nodes.only_feeds) ∙ changed_there (fed_onto no_inputs fed) n (fed_onto no_inputs fed n ++ fed_in r ∷ []) m q ∙ ap (λ (k : ℕ). fed_onto no_inputs fed k ++ fed_in r ∷ []) (sym q)

  fed_else : (m : ℕ) → m ≢ n → fed_onto no_inputs (fed ++ feeds n r ∷ []) m ≡ fed_onto no_inputs fed m
  fed_else m d = ap (λ (h : History). h m) (fed_snoc no_inputs n r inv.nodes.only_feeds) ∙ changed_else (fed_onto no_inputs fed) n (fed_onto no_inputs fed n ++ fed_in r ∷ []) m d

  apart : (m : ℕ) → is_source l.plan m ≡ false → m ≢ n
  apart m s q = true≢false (sym source ∙ ap (is_source l.plan) (sym q) ∙ s)

  -- The record at whatever time: the source's history has one feed more, and nobody has received anything.
  module _ (t : ℕ) where
    abbrev fed_now : Event
    fed_now = fed_at r t

    no_receipt : (m : ℕ) → receipts_in l.plan m (map input_of (later g n (fed_at r t) m)) ≡ receipts_in l.plan m (map input_of (g m))
    no_receipt m =
        elim (ℕ_discrete m n) [
          | yes q ↦ ap (λ (x : List Event). receipts_in l.plan m (map input_of x)) (later_there g n m fed_now q) ∙ ap (receipts_in l.plan m) (map-append input_of (g m) (fed_now ∷ [])) ∙ receipts_append l.plan m (map input_of (g m)) (fed_in r ∷ []) ∙ nil_right (receipts_in l.plan m (map input_of (g m)))
          | no d ↦ ap (λ (x : List Event). receipts_in l.plan m (map input_of x)) (later_else g n m fed_now d)
        ]

    -- For any line with the same plan and marks.
    fed_nodes : (k : Line) → k.plan ≡ l.plan → ((m : ℕ) → (node_at k m).crashed ≡ (node_at l m).crashed)
        → Nodes (record { plan = l.plan; steps = k.steps; nodes = k.nodes; lanes = k.lanes }) (later g n (fed_at r t)) (fed ++ feeds n r ∷ []) receipts
    fed_nodes k plans marks =
        let nodes = inv.nodes in
        record {
          only_feeds = feeds_snoc n r nodes.only_feeds;
          sources = λ m s. elim (ℕ_discrete m n) [
            | yes q ↦ ap (map input_of) (later_there g n m fed_now q) ∙ map-append input_of (g m) (fed_now ∷ []) ∙ ap (λ (x : List Input). x ++ fed_in r ∷ []) (nodes.sources m s) ∙ sym (fed_there m q)
            | no d ↦ ap (map input_of) (later_else g n m fed_now d) ∙ nodes.sources m s ∙ sym (fed_else m d)
          ];
          others = λ m s. (fed_else m (apart m s) ∙ (nodes.others m s).0, subst (λ (x : List Event). Taken l.plan m (map input_of x)) (sym (later_else g n m fed_now (apart m s))) (nodes.others m s).1);
          beyond = λ m h. later_else g n m fed_now (λ q. omega arith) ∙ nodes.beyond m h;
          received = λ m s. nodes.received m (sym (marks m) ∙ s) ∙ sym (no_receipt m);
        }

  -- A record that gets a time.
  module _ (times : timed l.plan n (applied (rule_at l.plan n) r) ≡ true) where
    abbrev e : Event
    e = fed_at r (suc (node_at l n).time)

    there : n < length l.nodes
    there = rw inv.shape.nodes_long here

    later_on : (node_at l n).time ≤ suc (node_at l n).time
    later_on = omega arith

    late_on : passed_on l.plan n (sent_of l.plan n e).what ≡ true → (node_at l n).time < suc (node_at l n).time
    late_on _ = omega arith

    pub feed_inv : Inv (with_node n (node_logs l n (fed_at r (suc (node_at l n).time))) l) (later g n (fed_at r (suc (node_at l n).time))) cut base (fed ++ feeds n r ∷ []) receipts crashes
    unfolding with_node
    feed_inv =
        record {
          shape = logging_shape l n e inv.shape;
          ordered = inv.ordered;
          marks = logging_marks l n e there crashes inv.marks;
          nodes = fed_nodes (suc (node_at l n).time) (with_node n (node_logs l n e) l) refl (mark_kept l n e there);
          logs = λ m s. logging_logs l n e there times g m s (inv.logs m (sym (mark_kept l n e there m) ∙ s));
          events = λ m. logging_events l n e there later_on late_on alive g m (inv.events m);
          channels = λ b h. logging_channels l n e there later_on late_on alive g cut b h refl (inv.channels b h);
          ends = λ b h. logging_ends l n e there g b refl (inv.ends b h);
          replays = λ m q.
              (let old = sym (status_kept l n e there m) ∙ q in
              logging_replays l n e there later_on late_on alive g cut base m old (λ b h s. subst (λ (x : ℕ). (lane_at l b).taken ≤ (node_at l x).time) s ((inv.channels b h.0).sender_up (ap (λ (x : ℕ). (node_at l x).status) s ∙ alive)).taken_within) (inv.replays m old));
          rooms = λ m q. (let old = sym (mark_kept l n e there m) ∙ q in room_logs l n e there alive g m (marked_took inv.marks inv.nodes m old) (inv.rooms m old));
        }

  -- A record that no leaving channel takes: the line stays as it is, and only the history has it.
  module _ (untimed : timed l.plan n (applied (rule_at l.plan n) r) ≡ false) where
    abbrev quietly : Event
    quietly = fed_at r (node_at l n).time

    abbrev g' : Ghost
    g' = later g n (fed_at r (node_at l n).time)

    not_passed : passed_on l.plan n (applied (rule_at l.plan n) r) ≡ false
    not_passed = if_marked (passed_on l.plan n (applied (rule_at l.plan n) r)) (λ q. absurd (true≢false (sym (passed_timed l.plan n (applied (rule_at l.plan n) r) q) ∙ untimed))) (λ q. q)

    not_taken : (b : ℕ) → b < channel_count l.plan → (channel_at l.plan b).sender ≡ n → takes_message l.plan b (sent_of l.plan n quietly) ≡ false
    not_taken b h s = if_marked (takes_message l.plan b (sent_of l.plan n quietly)) (λ q. absurd (true≢false (sym (takes_passed l.plan n (applied (rule_at l.plan n) r) b h s q) ∙ not_passed))) (λ q. q)

    puts : (b : ℕ) → b < channel_count l.plan → put l.plan g' b ≡ put l.plan g b
    puts b h =
        elim (ℕ_discrete (channel_at l.plan b).sender n) [
          | yes q ↦ put_there l.plan g n b quietly q ∙ ap (λ (t : Bool). put l.plan g b ++ keep_one t (sent_of l.plan n quietly) []) (not_taken b h q) ∙ nil_right (put l.plan g b)
          | no d ↦ put_else l.plan g n b quietly d
        ]

    gots : (b : ℕ) → got l.plan g' b ≡ got l.plan g b
    gots b =
        elim (ℕ_discrete (channel_at l.plan b).receiver n) [
          | yes q ↦ got_there l.plan g n b quietly q ∙ nil_right (got l.plan g b)
          | no d ↦ got_else l.plan g n b quietly d
        ]

    passes : (m : ℕ) → passing l.plan m (g' m) ≡ passing l.plan m (g m)
    passes m =
        elim (ℕ_discrete m n) [
          | yes q ↦ ap (passing l.plan m) (later_there g n m quietly q) ∙ passing_append l.plan m (g m) (quietly ∷ [])
              ∙ ap (λ (t : Bool). passing l.plan m (g m) ++ keep_one t (sent_of l.plan m quietly) []) (ap (λ (x : ℕ). passed_on l.plan x (applied (rule_at l.plan x) r)) q ∙ not_passed)
              ∙ nil_right (passing l.plan m (g m))
          | no d ↦ ap (passing l.plan m) (later_else g n m quietly d)
        ]

    records : (m : ℕ) → recorded l.plan m (g' m) ≡ recorded l.plan m (g m)
    records m =
        elim (ℕ_discrete m n) [
          | yes q ↦ ap (recorded l.plan m) (later_there g n m quietly q) ∙ keep_append (has_entry l.plan m) (g m) (quietly ∷ [])
              ∙ ap (λ (t : Bool). recorded l.plan m (g m) ++ keep_one t quietly []) (ap (λ (x : ℕ). timed l.plan x (applied (rule_at l.plan x) r)) q ∙ untimed)
              ∙ nil_right (recorded l.plan m (g m))
          | no d ↦ ap (recorded l.plan m) (later_else g n m quietly d)
        ]

    apart_replay : (m : ℕ) → (node_at l m).status ≡ replay → m ≢ n
    apart_replay m e q = up_not_replay (sym alive ∙ ap (λ (x : ℕ). (node_at l x).status) (sym q) ∙ e)

    apart-marked : (m : ℕ) → (node_at l m).crashed ≡ true → m ≢ n
    apart-marked m e q = true≢false (sym source ∙ ap (is_source l.plan) (sym q) ∙ (inv.marks.between m e).0)

    pub quiet_feed_inv : Inv l (later g n (fed_at r (node_at l n).time)) cut base (fed ++ feeds n r ∷ []) receipts crashes
    quiet_feed_inv =
        record {
          shape = inv.shape;
          ordered = inv.ordered;
          marks = inv.marks;
          nodes = fed_nodes (node_at l n).time l refl (λ m. refl);
          logs = λ m s. logged_stays l l.steps l.nodes l.lanes (record { marks = λ x z. z; entries = λ b h z. omega arith; lows = λ b h z. refl; entered = λ x z d i. i }) g g' m s refl (records m) (inv.logs m s);
          events = λ m. (let v = inv.events m in record { rise = subst (λ (x : List Message). Rises time_of 0 x) (sym (passes m)) v.rise; within = λ h. subst (λ (x : List Message). Within time_of (node_at l m).time x) (sym (passes m)) (v.within h) });
          channels = λ b h. channel_stays l l.steps l.nodes l.lanes g g' b refl refl refl (gots b) (λ _. refl) cut cut (puts b h) refl (inv.channels b h);
          ends = λ b h. ends_stay l l.steps l.nodes l.lanes g g' b refl refl refl (gots b) refl (inv.ends b h);
          replays = λ m q.
              replays_stay l l.steps l.nodes l.lanes g g' m refl (later_else g n m quietly (apart_replay m q)) cut cut base base (λ c h. refl) (λ b x t i. refl)
              (λ b h. (refl, omega arith, refl, ap (until time_of (lane_at l b).taken) (puts b h.0))) (inv.replays m q);
          rooms = λ m q.
              room_stays l l.steps l.nodes l.lanes g g' m refl (later_else g n m quietly (apart-marked m q)) (marked_took inv.marks inv.nodes m q) (λ c h. omega arith) (λ b h. omega arith) (inv.rooms m q);
        }
