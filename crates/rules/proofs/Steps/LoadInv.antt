-- The invariant holds of a loaded line: nothing was done, and every node and channel is fresh.
use Prim.Native.Nat.{ℕ, zero, suc, ◌<◌}
use mathlib.Core.Path.{◌≡◌, refl, sym, ap, ◌∙◌}
use mathlib.Core.Bool.{Bool, true, false, cond, true≢false}
use mathlib.Core.Logic.{inl}
use mathlib.Core.List.{List, [], ◌∷◌, map}
use native.Mathlib.Omega.{arith}
use lib.Dec.{eqb}
use lib.ListN.{length, drop, get_or, replicate, length-replicate, length-map}
use Rattle.plan.specs.declared.Channel.{Channel}
use Rattle.plan.specs.Plan.{Plan, plan_of, channel_at, no_channel, node_count, channel_count}
use Rattle.plan.specs.Check.{plan_refusal}
use Rattle.rules.specs.Lists.{keep}
use Rattle.rules.specs.Line.{up, Node, Lane, Line, fresh_node, no_lane, fresh_lane, initial_line, node_at, lane_at, parents}
use Rattle.rules.specs.Clock.{message_of, entry_for}
use Rattle.basics.specs.Replicate.{replicate_default}
use Rattle.rules.proofs.Lists.ListLaws.{map_at}
use Rattle.rules.proofs.Lists.Rising.{none, none_in, past}
use Rattle.rules.proofs.Lists.Members.{in_none}
use Rattle.rules.proofs.Histories.Witness.{no_more, none}
use Rattle.rules.proofs.Histories.Ghost.{Ghost, takes_message, put, got, log_put}
use Rattle.rules.proofs.Invariant.Inv.{Logged, low_on, heard_on, Inv, Ordered, Shape, Marks, Nodes, time_of, Channels, Ends}
use Rattle.rules.proofs.Invariant.InvLaws.{up_not_replay}
use Rattle.rules.proofs.Line.Consoles.{start_counts}
use Rattle.rules.proofs.Invariant.Limits.{Steady}
use Rattle.rules.proofs.Steps.PlanOrder.{ordered_plan}

-- Nothing on a channel, marked and taken up to 0.
abbrev empty_lane : ℕ → List ℕ → Lane
empty_lane heard lows = record { mark = 0; taken = 0; heard = replicate heard 0; queue = []; low = lows }

fresh_lane_lem : (p : Plan) (cs : List Channel) (b : ℕ) → (heard : ℕ) × (lows : List ℕ) × (get_or (map (λ (c : Channel). fresh_lane p c 0) cs) b no_lane ≡ empty_lane heard lows)
unfolding fresh_lane
fresh_lane_lem p [] b = (0, [], refl)
fresh_lane_lem p (c ∷ cs) zero = (length (parents p c.sender), replicate (suc (length (parents p c.sender))) 0, refl)
fresh_lane_lem p (c ∷ cs) (suc b) = fresh_lane_lem p cs b

-- Of nodes of which nothing was heard.
none_for : (a : ℕ) (ps : List ℕ) (k : ℕ) → entry_for a ps (replicate k 0) ≡ 0
none_for a [] k = refl
none_for a (p ∷ ps) zero = refl
none_for a (p ∷ ps) (suc k) = one (eqb p a) (none_for a ps k)
  where
    one : (x : Bool) → entry_for a ps (replicate k 0) ≡ 0 → cond x 0 (entry_for a ps (replicate k 0)) ≡ 0
    one true e = refl
    one false e = e

module _ (p : Plan) where
  abbrev l : Line
  l = initial_line p

  abbrev nothing : Ghost
  nothing = λ n. []

  node_fresh : (n : ℕ) → node_at l n ≡ fresh_node
  unfolding initial_line
  node_fresh n = replicate_default (node_count p) n fresh_node

  lane_fresh : (b : ℕ) → (heard : ℕ) × (lows : List ℕ) × (lane_at l b ≡ empty_lane heard lows)
  unfolding initial_line
  lane_fresh b = fresh_lane_lem p p.channels b

  start_shape : Shape l
  unfolding initial_line
  start_shape = record { nodes_long = length-replicate (node_count p) fresh_node; lanes_long = length-map p.channels (λ (c : Channel). fresh_lane p c 0) }

  unmarked : (n : ℕ) → (node_at l n).crashed ≡ false
  unmarked n = ap (λ (x : Node). x.crashed) (node_fresh n)

  all_up : (n : ℕ) → (node_at l n).status ≡ up
  all_up n = ap (λ (x : Node). x.status) (node_fresh n)

  start_marks : Marks l []
  start_marks =
      record {
        were_named = λ n e. unmarked n;
        not_joined = λ b h e. unmarked (channel_at l.plan b).receiver;
        between = λ n e. absurd (true≢false (sym e ∙ unmarked n));
        stopped = λ n e. all_up n;
      }

  start_nodes : Nodes l nothing [] []
  start_nodes =
      record {
        only_feeds = no_more;
        sources = λ n e. refl;
        others = λ n e. (refl, none);
        beyond = λ n h. refl;
        received = λ n e. refl;
      }

  none_heard : (a b : ℕ) → heard_on l b a ≡ 0
  unfolding initial_line
  none_heard a b = ap (λ (x : Lane). entry_for a (parents p (channel_at p b).sender) x.heard) (lane_fresh b).2 ∙ none_for a (parents p (channel_at p b).sender) (lane_fresh b).0

  lane_low : (b : ℕ) → b < channel_count p → (length (lane_at l b).low ≡ suc (length (parents p (channel_at p b).sender))) × ((a : ℕ) → low_on l b a ≡ 0)
  unfolding initial_line fresh_lane
  lane_low b h =
      let k = length (parents p (channel_at p b).sender) in
      let is : (lane_at l b).low ≡ replicate (suc k) 0 = ap (λ (x : Lane). x.low) (map_at (λ (c : Channel). fresh_lane p c 0) p.channels b no_channel no_lane h) in
      (ap length is ∙ length-replicate (suc k) 0, λ a. ap (λ (x : List ℕ). entry_for a (parents p (channel_at p b).sender) (drop 1 x)) is ∙ none_for a (parents p (channel_at p b).sender) k)

  start_logged : (n : ℕ) → Logged l nothing n
  unfolding initial_line
  start_logged n =
      record {
        gone = [];
        kept = [];
        split = refl;
        log_is = ap (λ (x : Node). x.log) (node_fresh n);
        reached = λ e i. absurd (in_none i);
        restored_past = λ e i. absurd (in_none i);
        input_reached = λ b m t i. absurd (in_none i);
        low_long = λ b h. (lane_low b h.0).0;
        low_from = λ b h a. inl ((lane_low b h.0).1 a);
        low_of_lem = λ b h m t i. absurd (in_none i);
      }

  start_channels : (b : ℕ) → Channels l nothing (λ c. 0) b
  unfolding put got log_put
  start_channels b =
      let (heard, lows, lane) = lane_fresh b in
      let taken = ap (λ (x : Lane). x.taken) lane in
      let logs : log_put l b ≡ [] = ap (λ (x : Node). keep (takes_message l.plan b) (map message_of x.log)) (node_fresh (channel_at l.plan b).sender) in
      record {
        rises = none;
        cut_is = refl;
        cut_up = λ e. sym taken;
        sender_up = λ e.
            record {
              within = none_in;
              cut_within = omega arith;
              taken_within = omega (arith, taken);
              to_come = λ _. ap (past time_of (lane_at l b).taken) logs;
              queue = λ r. rw (lane, logs) (omega arith, omega arith, refl);
            };
      }

  start_ends : (b : ℕ) → Ends l nothing b
  unfolding got
  start_ends b =
      let (heard, lows, lane) = lane_fresh b in
      record {
        exact = λ e. ap (λ (x : Lane). x.taken) lane;
        through = λ e a. inl (none_heard a b);
        stopped = λ e. ap (λ (x : Lane). x.queue) lane;
        waiting = λ e. ap (λ (x : Lane). x.mark) lane ∙ ap (λ (x : Lane). x.taken) (sym lane);
      }

  pub start_inv : Ordered p → Inv (initial_line p) (λ n. []) (λ b. 0) (λ b. 0) [] [] []
  unfolding initial_line
  start_inv ordered =
      record {
        shape = start_shape;
        ordered = ordered;
        marks = start_marks;
        nodes = start_nodes;
        logs = λ n e. start_logged n;
        events = λ n. record { rise = none; within = λ e. none_in };
        channels = λ b h. start_channels b;
        ends = λ b h. start_ends b;
        replays = λ n e. absurd (up_not_replay (sym (all_up n) ∙ e));
        rooms = λ n e. absurd (true≢false (sym e ∙ unmarked n));
      }

  pub start_steady : Steady 0 (initial_line p)
  unfolding initial_line
  start_steady =
      record {
        limits = record {
          counts = start_counts;
          logs = λ n. rw (node_fresh n) (omega arith);
          times = λ n. omega (arith, ap (λ (x : Node). x.time) (node_fresh n));
          entries = λ b h. (let (heard, lows, lane) = lane_fresh b in omega (arith, ap (λ (x : Lane). x.taken) lane));
        };
        open_rows = λ n e. absurd (up_not_replay (sym (all_up n) ∙ e));
      }

pub load_inv : (s : List ℕ) → plan_refusal s ≡ 0 → Inv (initial_line (plan_of s)) (λ n. []) (λ b. 0) (λ b. 0) [] [] []
load_inv s z = start_inv (plan_of s) (ordered_plan s z)
