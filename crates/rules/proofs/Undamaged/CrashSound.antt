-- Crash keeps a line sound.
use Prim.Native.Nat.{ℕ, ◌<◌, ◌≤◌}
use mathlib.Core.Path.{◌≡◌, refl, sym, ap, subst, ◌∙◌}
use mathlib.Core.Logic.{◌≢◌}
use mathlib.Core.Bool.{true, true≢false}
use mathlib.Core.List.{List, ◌∷◌}
use mathlib.Core.Option.{some}
use native.Mathlib.Omega.{arith}
use native.Mathlib.Decide.{ℕ_discrete}
use Rattle.plan.specs.Plan.{Plan, node_count, channel_at}
use Rattle.rules.specs.Line.{Origin, fed, made, up, Node, Lane, Line, node_at, lane_at, parents, fresh_lane, counted, accepted_steps}
use Rattle.rules.specs.Frame.{crash}
use Rattle.rules.specs.Recover.{triples}
use Rattle.rules.specs.Damaged.{past_heard, worked_on}
use Rattle.rules.specs.Step.{end_down, effect}
use Rattle.rules.proofs.Lists.Rising.{none, none_in}
use Rattle.rules.proofs.Lists.Members.{In, in_none}
use Rattle.rules.proofs.Undamaged.Crashed.{emptied, cleared, crashed_after, crashed_is, crashed_node, crashed_else, crashed_shape, crashed_enters, crashed_leaves, crashed_beside}
use Rattle.rules.proofs.Invariant.Inv.{Ordered, Enters, Leaves}
use Rattle.rules.proofs.Invariant.InvLaws.{up_not_down, replay_not_down, if_marked}
use Rattle.rules.proofs.Invariant.MarkedLaws.{at-ends}
use Rattle.rules.proofs.Theorem.Accepted.{Passed, CanCrash, can_crash}
use Rattle.rules.proofs.Lists.Options.{some_same, none_some}
use Rattle.rules.specs.Damaged.{low_wrong}
use Rattle.rules.proofs.Undamaged.Standing.{NodeFits, NodeSound, Covers, LaneFits, ChannelSound, Standing, Stopped, Sound, log_none}
use Rattle.rules.proofs.Undamaged.SoundStays.{node_stays, channel_stays, stopped_same, counted_sound}
use Rattle.rules.proofs.Undamaged.StartSound.{fresh_fits, fresh_flows, fresh_cleared}
use Rattle.rules.proofs.Undamaged.Undamaged.{ordered_fit}

-- A lane with the same entries covers the same.
pub covers_like : (p : Plan) (b : ℕ) (s r : Lane) → r.taken ≡ s.taken → r.heard ≡ s.heard → (o before : Origin) → Covers p b s o before → Covers p b r o before
covers_like p b s r taken heard fed before f = tt
covers_like p b s r taken heard (made a t) before f = λ q. (let (x, y) = f q in (omega arith, ap (λ (hs : List ℕ). past_heard (parents p a) hs before) heard ∙ y))

-- A node that is not up bears a mark.
pub stopped_marked : (l : Line) → Standing l → (n : ℕ) → n < node_count l.plan → (node_at l n).status ≢ up → (node_at l n).crashed ≡ true
stopped_marked l s n h d = if_marked (node_at l n).crashed (λ e. e) (λ e. absurd (d ((s.nodes n h).fits.unmarked e)))

module _ (l : Line) (sound : Sound l) (n : ℕ) (can : CanCrash l n) where
  abbrev s : Standing l
  s = sound.standing

  ordered : Ordered l.plan
  ordered = ordered_fit l.plan s.plan_fits_lem

  emptied_fits : NodeFits l.plan (accepted_steps l) n emptied
  emptied_fits =
      record {
        log_few = omega arith;
        held_few = omega arith;
        targets_few = omega arith;
        entries = λ e i. absurd (in_none i);
        targets = λ t i. absurd (in_none i);
        time = omega arith;
        rises = log_none;
        within = none_in;
        sets = λ e i. absurd (in_none i);
        passed = λ h i. absurd (in_none i);
        unmarked = λ e. absurd (true≢false e);
        between = λ e. (can.no_source, can.no_sink);
        empties = (refl, refl, refl, λ e. refl);
      }

  node_crashed : NodeSound (crashed_after l n) n
  node_crashed = record {
    fits = rw (crashed_node l n ordered s.shape can.here) emptied_fits;
    clock = λ e i b h. absurd (in_none (subst (λ (x : Node). In e (worked_on x)) (crashed_node l n ordered s.shape can.here) i));
    rows = λ b h. rw (crashed_node l n ordered s.shape can.here) none;
  }

  -- The children's clocks are as they were.
  covers_on : (m : ℕ) → m ≢ n → (c : ℕ) → Enters l.plan m c → (o before : Origin) → Covers l.plan c (lane_at l c) o before → Covers l.plan c (lane_at (crashed_after l n) c) o before
  covers_on m d c (h, q) =
      let away : (channel_at l.plan c).receiver ≢ n = λ z. d (sym q ∙ z) in
      elim (ℕ_discrete (channel_at l.plan c).sender n) [
        | yes e ↦ covers_like l.plan c (lane_at l c) (lane_at (crashed_after l n) c) (ap (λ (x : Lane). x.taken) ((crashed_leaves l n ordered s.shape) c (h, e))) (ap (λ (x : Lane). x.heard) ((crashed_leaves l n ordered s.shape) c (h, e)))
        | no e ↦ covers_like l.plan c (lane_at l c) (lane_at (crashed_after l n) c) (ap (λ (x : Lane). x.taken) ((crashed_beside l n ordered s.shape) c away e)) (ap (λ (x : Lane). x.heard) ((crashed_beside l n ordered s.shape) c away e))
      ]

  channel_enters : (c : ℕ) → Enters l.plan n c → ChannelSound (crashed_after l n) c
  unfolding fresh_lane
  channel_enters c h =
      let lane = (crashed_enters l n ordered s.shape) c h in
      let beside : (channel_at l.plan c).sender ≢ n = λ q. omega (arith, ordered.forward c h.0, h.1) in
      record {
        fits = rw lane (fresh_fits l.plan (accepted_steps l) c 0 (omega arith));
        flows = λ e. rw lane (fresh_flows l.plan (channel_at l.plan c) 0);
        apart = λ e. absurd (true≢false (sym e ∙ ap (λ (x : Node). x.crashed) ((crashed_else l n ordered s.shape) (channel_at l.plan c).sender beside) ∙ can.parents c h));
        stopped = λ e. (ap (λ (x : Lane). x.mark) lane, ap (λ (x : Lane). x.queue) lane);
        cleared = λ e t i. fresh_cleared l.plan (channel_at l.plan c) t (subst (λ (x : Lane). In t (x.taken ∷ x.heard)) lane i);
        silent = λ e. ap (λ (x : Lane). x.queue) lane;
      }

  left_fits : (c : ℕ) → LaneFits l.plan (accepted_steps l) c (lane_at l c) → LaneFits l.plan (accepted_steps l) c (cleared (lane_at l c))
  unfolding low_wrong
  left_fits c f = record { heard_long = f.heard_long; low_long = f.low_long; low_below = f.low_below; few = omega arith; messages = λ m i. absurd (in_none i); mark = omega arith; taken = f.taken; heard = f.heard }

  channel_leaves : (c : ℕ) → Leaves l.plan n c → ChannelSound (crashed_after l n) c
  channel_leaves c h =
      let lane = (crashed_leaves l n ordered s.shape) c h in
      let to = (channel_at l.plan c).receiver in
      let beside : to ≢ n = λ q. omega (arith, ordered.forward c h.0, h.1) in
      let gone : end_down (crashed_after l n) c ≡ true = rw (h.1, (crashed_node l n ordered s.shape can.here)) in
      let child = (crashed_else l n ordered s.shape) to beside in
      record {
        fits = rw lane (left_fits c (s.channels c h.0).fits);
        flows = λ e. absurd (true≢false (sym gone ∙ e));
        apart = λ e. ap (λ (x : Node). x.crashed) child ∙ can.children c h;
        stopped = λ e. (ap (λ (x : Lane). x.mark) lane, ap (λ (x : Lane). x.queue) lane);
        cleared = λ e. absurd (up_not_down (sym ((s.nodes to (ordered.inside c h.0)).fits.unmarked (can.children c h)) ∙ sym (ap (λ (x : Node). x.status) child) ∙ e));
        silent = λ e. ap (λ (x : Lane). x.queue) lane;
      }

  module _ (m : ℕ) (h : m < node_count l.plan) (again : (node_at (crashed_after l n) m).status ≢ up) where
    -- The node itself has nothing of a restart.
    own_stopped : m ≡ n → Stopped (crashed_after l n) m
    own_stopped q =
        let node : node_at (crashed_after l n) m ≡ emptied = ap (node_at (crashed_after l n)) q ∙ crashed_node l n ordered s.shape can.here in
        record {
          replays = λ e. absurd (replay_not_down (sym e ∙ ap (λ (x : Node). x.status) node));
          answers = λ a e. none_some (sym (ap (λ (x : Node). x.asked) node) ∙ e);
        }

    -- No child of another that is not up crashes.
    other_stopped : m ≢ n → Stopped (crashed_after l n) m
    other_stopped other =
        let same : accepted_steps l ≤ accepted_steps l = omega arith in
        let node = (crashed_else l n ordered s.shape) m other in
        let was : (node_at l m).status ≢ up = λ q. again (ap (λ (x : Node). x.status) node ∙ q) in
        let marked = stopped_marked l s m h was in
        let child_other : (c : ℕ) → Leaves l.plan m c → (channel_at l.plan c).receiver ≢ n = λ c j z. true≢false (sym marked ∙ ap (λ (x : ℕ). (node_at l x).crashed) (sym j.1) ∙ can.parents c (j.0, z)) in
        stopped_same l l.steps (crashed_after l n).nodes (crashed_after l n).lanes same m (λ c j. ap (λ (x : Lane). x.taken) ((crashed_beside l n ordered s.shape) c (child_other c j) (λ q. other (sym j.1 ∙ q))))
        (λ c j. ap (λ (x : Node). triples m x.log) ((crashed_else l n ordered s.shape) (channel_at l.plan c).receiver (child_other c j)))
        (λ c j. ap (λ (x : Lane). x.low) ((crashed_beside l n ordered s.shape) c (child_other c j) (λ q. other (sym j.1 ∙ q)))) node (sound.stopped m h was)

  crashed_sound : Sound (crashed_after l n)
  crashed_sound =
      let same : accepted_steps l ≤ accepted_steps l = omega arith in
      record {
        standing = record {
          plan_fits_lem = s.plan_fits_lem;
          shape = crashed_shape l n ordered s.shape;
          counts = s.counts;
          nodes = λ m h. elim (ℕ_discrete m n) [
            | yes q ↦ subst (NodeSound (crashed_after l n)) (sym q) node_crashed
            | no d ↦ node_stays l l.steps (crashed_after l n).nodes (crashed_after l n).lanes same m ((crashed_else l n ordered s.shape) m d) (covers_on m d) (s.nodes m h)
          ];
          channels = λ c h. at-ends l.plan n c h (channel_enters c) (channel_leaves c)
              (λ d e.
              (let from = (crashed_else l n ordered s.shape) (channel_at l.plan c).sender e in
              let to = (crashed_else l n ordered s.shape) (channel_at l.plan c).receiver d in
              channel_stays l l.steps (crashed_after l n).nodes (crashed_after l n).lanes same c (ap (λ (x : Node). x.status) from) (ap (λ (x : Node). x.status) to) (ap (λ (x : Node). x.crashed) from) (ap (λ (x : Node). x.crashed) to) ((crashed_beside l n ordered s.shape) c d e) (s.channels c h)));
        };
        stopped = λ m h e. elim (ℕ_discrete m n) [ yes q ↦ own_stopped m h e q | no d ↦ other_stopped m h e d ];
      }

pub crash_sound : (l : Line) → Sound l → (n : ℕ) {who : ℕ} → Passed l who (crash n) → (k : Line) → effect l (crash n) ≡ some k → Sound (counted who k)
unfolding effect
crash_sound l sound n {who} p k e =
    let can = can_crash p in
    subst (λ (x : Line). Sound (counted who x)) (sym (crashed_is l n (ordered l sound n can) sound.standing.shape) ∙ some_same e) (counted_sound (crashed_after l n) p.console p.steps_left (crashed_sound l sound n can))
