-- The line that an accepted plan starts as is not damaged.
use Prim.Native.Nat.{ℕ, zero, suc, ◌<◌, ◌≤◌}
use mathlib.Core.Path.{◌≡◌, refl, sym, ap, ◌∙◌}
use mathlib.Core.Logic.{inl, inr}
use mathlib.Core.Bool.{true, false, true≢false}
use mathlib.Core.List.{List, ◌∷◌}
use native.Mathlib.Omega.{arith}
use lib.ListN.{replicate, length, length-replicate, length-map, get_or-replicate}
use Rattle.plan.specs.Lawful.{Bytes}
use Rattle.plan.specs.declared.Channel.{Channel}
use Rattle.plan.specs.Plan.{Plan, plan_of, node_count, channel_count, channel_at, no_channel}
use Rattle.plan.specs.Check.{plan_refusal, plan_fits}
use Rattle.plan.proofs.FitsLaws.{accepted_fits}
use Rattle.rules.specs.Line.{Node, Line, fresh_node, no_lane, fresh_lane, initial_line, node_at, lane_at, parents}
use Rattle.rules.specs.Damaged.{damaged}
use Rattle.rules.proofs.Lists.ListLaws.{map_at}
use Rattle.rules.proofs.Lists.Rising.{none, none_in}
use Rattle.rules.proofs.Lists.Members.{In, in_none, in_first}
use Rattle.rules.proofs.Invariant.InvLaws.{up_not_replay}
use Rattle.rules.proofs.Line.Consoles.{start_counts}
use Rattle.rules.specs.Damaged.{low_wrong}
use Rattle.rules.proofs.Undamaged.LowLaws.{none_past}
use Rattle.rules.proofs.Undamaged.Standing.{log_none, NodeFits, NodeSound, LaneFits, Flows, ChannelSound, Sound}
use Rattle.rules.proofs.Undamaged.Undamaged.{ordered_fit, sound_undamaged}

pub replicate_in : {A : Type 0} (n : ℕ) (x : A) {y : A} → In y (replicate n x) → y ≡ x
replicate_in zero x i = absurd (in_none i)
replicate_in (suc n) x i = elim (in_first i) [ inl q ↦ q | inr j ↦ replicate_in n x j ]

-- A channel with nothing on it, marked and taken up to a time.
pub fresh_fits : (p : Plan) (steps b t : ℕ) → t ≤ steps → LaneFits p steps b (fresh_lane p (channel_at p b) t)
unfolding fresh_lane low_wrong
fresh_fits p steps b t h =
    let count = length (parents p (channel_at p b).sender) in
    record {
      heard_long = length-replicate count 0;
      low_long = length-replicate (suc count) 0;
      low_below = none_past (suc count) (t ∷ replicate count 0);
      few = omega arith;
      messages = λ m i. absurd (in_none i);
      mark = h;
      taken = h;
      heard = λ u i. (let q = replicate_in count 0 i in omega arith);
    }

pub fresh_flows : (p : Plan) (c : Channel) (t : ℕ) → Flows (fresh_lane p c t)
unfolding fresh_lane
fresh_flows p c t = record { marked = omega arith; rises = none; within = none_in }

pub fresh_cleared : (p : Plan) (c : Channel) (t : ℕ) → In t ((fresh_lane p c 0).taken ∷ (fresh_lane p c 0).heard) → t ≡ 0
unfolding fresh_lane
fresh_cleared p c t i = elim (in_first i) [ inl q ↦ q | inr j ↦ replicate_in (length (parents p c.sender)) 0 j ]

module _ (p : Plan) (fits : plan_fits p ≡ true) where
  abbrev l : Line
  l = initial_line p

  node_fresh : (n : ℕ) → n < node_count p → node_at l n ≡ fresh_node
  unfolding initial_line
  node_fresh n h = get_or-replicate (node_count p) n fresh_node fresh_node h

  lane_fresh : (b : ℕ) → b < channel_count p → lane_at l b ≡ fresh_lane p (channel_at p b) 0
  unfolding initial_line
  lane_fresh b h = map_at (λ (c : Channel). fresh_lane p c 0) p.channels b no_channel no_lane h

  fresh_node_lem : (n : ℕ) → NodeFits p 0 n fresh_node
  fresh_node_lem n =
      record {
        log_few = omega arith;
        held_few = omega arith;
        targets_few = omega arith;
        entries = λ e i. absurd (in_none i);
        targets = λ t i. absurd (in_none i);
        time = omega arith;
        rises = log_none;
        within = none_in;
        sets = λ e i. absurd (in_none i);
        passed = λ h i. absurd (in_none i);
        unmarked = λ e. refl;
        between = λ e. absurd (true≢false (sym e));
        empties = (refl, refl, refl);
      }

  start_node : (n : ℕ) → n < node_count p → NodeSound l n
  unfolding initial_line
  start_node n h = record {
    fits = rw (node_fresh n h) (fresh_node_lem n);
    clock = λ e i b _. absurd (in_none (rw (node_fresh n h) at i));
    rows = λ b _. rw (node_fresh n h) none;
  }

  start_channel : (b : ℕ) → b < channel_count p → ChannelSound l b
  unfolding initial_line
  start_channel b h =
      let ordered = ordered_fit p fits in
      let sender = node_fresh (channel_at p b).sender (omega (arith, ordered.forward b h, ordered.inside b h)) in
      let receiver = node_fresh (channel_at p b).receiver (ordered.inside b h) in
      let lane = lane_fresh b h in
      record {
        fits = rw lane (fresh_fits p 0 b 0 (omega arith));
        flows = λ e. rw lane (fresh_flows p (channel_at p b) 0);
        apart = λ e. rw receiver;
        stopped = λ e. absurd (true≢false (sym e ∙ rw (sender, receiver)));
        cleared = λ e t i. fresh_cleared p (channel_at p b) t (rw lane at i);
        silent = λ e. absurd (up_not_replay (ap (λ (x : Node). x.status) (sym sender) ∙ e));
      }

  start_sound : Sound (initial_line p)
  unfolding initial_line
  start_sound = record {
    standing = record {
      plan_fits_lem = fits;
      shape = record { nodes_long = length-replicate (node_count p) fresh_node; lanes_long = length-map p.channels (λ (c : Channel). fresh_lane p c 0) };
      counts = start_counts;
      nodes = start_node;
      channels = start_channel;
    };
    stopped = λ n h e. absurd (e (ap (λ (x : Node). x.status) (node_fresh n h)));
  }

pub start_undamaged : (s : List ℕ) → Bytes s → plan_refusal s ≡ 0 → damaged (initial_line (plan_of s)) ≡ false
start_undamaged s bytes z = sound_undamaged (initial_line (plan_of s)) (start_sound (plan_of s) (accepted_fits s bytes z))
