-- Recover keeps a line sound: the node is up, replays, or has ended its replay at once.
use Prim.Native.Nat.{ℕ, ◌<◌, ◌≤◌}
use mathlib.Core.Path.{◌≡◌, refl, sym, ap, subst, ◌∙◌}
use mathlib.Core.Logic.{◌≢◌, inl, inr}
use mathlib.Core.Bool.{Bool, true, false, true≢false}
use mathlib.Core.List.{List, [], ◌∷◌}
use mathlib.Core.Option.{none, some}
use native.Mathlib.Omega.{arith}
use native.Mathlib.Decide.{ℕ_discrete}
use lib.ListN.{length, drop}
use borrow.Author.Tests.{ltb-false}
use Rattle.plan.specs.Plan.{node_count, channel_at}
use Rattle.rules.specs.Lists.{is_empty}
use Rattle.rules.specs.Line.{target_limit, Origin, made, Target, Status, up, down, replay, Node, Lane, Line, node_at, lane_at, fresh_lane, counted, is_down, accepted_steps, parents}
use Rattle.rules.specs.Frame.{recover}
use Rattle.rules.specs.Recover.{child_triples, low_of, restored, targets_of, conflict, rows_complete, recovered, status_of, triples}
use Rattle.rules.specs.Replay.{ended_if_complete}
use Rattle.rules.specs.Step.{end_down, recovered_line, effect}
use Rattle.rules.specs.Damaged.{worked_on}
use Rattle.rules.proofs.Lists.Rising.{Rises, none, none_in}
use Rattle.rules.proofs.Lists.Members.{In, in_none, in_first, in_drop, in_left}
use Rattle.rules.proofs.Ending.Targets.{triples_at_in, low_high, restored_cases, targets_from}
use Rattle.rules.proofs.Invariant.Inv.{Ordered, Enters, Leaves}
use Rattle.rules.proofs.Invariant.InvLaws.{up_not_down, replay_not_down, if_marked}
use Rattle.rules.proofs.Invariant.MarkedLaws.{at-ends}
use Rattle.rules.proofs.Theorem.Accepted.{Passed, CanRecover, can_recover}
use Rattle.rules.proofs.Lists.Options.{some_same, none_some}
use Rattle.rules.specs.Damaged.{low_wrong}
use Rattle.rules.proofs.Undamaged.LowLaws.{low_within, entry-within}
use Rattle.rules.proofs.Undamaged.Standing.{held_time, held_from, OriginFits, BeforeFits, TargetFits, Empties, NodeFits, Covers, NodeSound, LaneFits, Flows, ChannelSound, Standing, Replays, Stopped, Sound, log_none}
use Rattle.rules.proofs.Undamaged.SoundStays.{node_stays, channel_stays, low_kept, targets_kept, rows_kept, stopped_same, counted_sound}
use Rattle.rules.proofs.Undamaged.StartSound.{fresh_fits, fresh_flows}
use Rattle.rules.proofs.Undamaged.Undamaged.{ordered_fit}
use Rattle.rules.proofs.Undamaged.Restored.{restored_node, restored_line, recovered_is, restored-node, restored_else, restored_shape, restored_enters, restored_leaves, restored-beside, restored_complete_lem}
use Rattle.rules.proofs.Undamaged.CrashSound.{covers_like, stopped_marked}
use Rattle.rules.proofs.Ending.Ends.{ended_as}
use Rattle.rules.proofs.Undamaged.EndSound.{high_within, marked-apart, ended_sound}
use Rattle.rules.proofs.Theorem.Unmoved.{effect-steps}

pub status_not_down : (ts : List Target) → status_of ts ≢ down
status_not_down [] e = up_not_down e
status_not_down (t ∷ ts) e = replay_not_down e

status_replays : (ts : List Target) → is_empty ts ≡ false → status_of ts ≡ replay
status_replays [] e = absurd (true≢false e)
status_replays (t ∷ ts) e = refl

not_down : (s : Status) → s ≢ down → is_down s ≡ false
not_down up d = refl
not_down down d = absurd (d refl)
not_down replay d = refl

module _ (l : Line) (s : Standing l) (n : ℕ) where
  ordered : Ordered l.plan
  ordered = ordered_fit l.plan s.plan_fits_lem

  -- A triple names a parent, and its times are not past the steps.
  pub triple_fits : (u : Target) → In u (child_triples l n) → TargetFits l.plan (accepted_steps l) n u
  triple_fits u i =
      let p = l.plan in
      let t = triples_at_in l n u i in
      let f = (s.nodes (channel_at p t.channel).receiver (ordered.inside t.channel t.on_plan)).fits.entries t.entry (in_left _ t.is_logged) in
      let made-from : OriginFits p (accepted_steps l) (channel_at p t.channel).receiver (made n u.time) = subst (OriginFits p (accepted_steps l) (channel_at p t.channel).receiver) t.origin_is f.origin in
      let from : BeforeFits p (accepted_steps l) (made n u.time) (made u.parent u.parent_time) = rw (t.origin_is, t.before_is) at f.before in
      record { parent = from.0; time = made-from.3; parent_time = from.3 }

  pub restored-within : (a : ℕ) → restored l n a ≤ accepted_steps l
  unfolding low_wrong
  restored-within a =
      elim (restored_cases l n a) [
        | inl q ↦ omega (arith, q)
        | inr (inl (c, h, sender, q)) ↦
            (let f = (s.channels c h).fits in
            let clock : (t : ℕ) → In t ((lane_at l c).taken ∷ (lane_at l c).heard) → t ≤ accepted_steps l = λ t i. elim (in_first i) [ inl e ↦ omega (arith, f.taken) | inr j ↦ f.heard t j ] in
            let long : length (lane_at l c).low ≡ length ((lane_at l c).taken ∷ (lane_at l c).heard) = omega (arith, f.low_long, f.heard_long) in
            let lows = low_within (accepted_steps l) (lane_at l c).low ((lane_at l c).taken ∷ (lane_at l c).heard) long f.low_below clock in
            omega (arith, q, entry-within (accepted_steps l) a (parents l.plan n) (drop 1 (lane_at l c).low) (λ u i. lows u (in_drop 1 (lane_at l c).low i))))
        | inr (inr (u, i, _, _, q)) ↦ omega (arith, q, (triple_fits u i).parent_time)
      ]

  restored_empties : (ts : List Target) → Empties (status_of ts) (record { status = status_of ts; crashed = true; time = low_of l n; log = []; held = []; targets = ts; asked = none })
  restored_empties [] = (refl, refl, refl)
  restored_empties (t ∷ ts) = (refl, refl)

  module _ (can : CanRecover l n) (few : length (targets_of l n) ≤ target_limit) where
    abbrev r : Line
    r = restored_line l n

    marked : (node_at l n).crashed ≡ true
    marked = stopped_marked l s n can.here (λ e. up_not_down (sym e ∙ can.stopped))

    node_now : node_at r n ≡ restored_node l n
    node_now = restored-node l n ordered s.shape can.here

    node_other : (m : ℕ) → m ≢ n → node_at r m ≡ node_at l m
    node_other = restored_else l n ordered s.shape

    status_now : (node_at r n).status ≡ status_of (targets_of l n)
    status_now = ap (λ (x : Node). x.status) node_now

    restored_fits : NodeFits l.plan (accepted_steps l) n (restored_node l n)
    restored_fits =
        record {
          log_few = omega arith;
          held_few = omega arith;
          targets_few = few;
          entries = λ e i. absurd (in_none i);
          targets = λ t i. triple_fits t (targets_from l n t i).0;
          time = (let a = low_high l n in let b = high_within l s n in omega arith);
          rises = log_none;
          within = none_in;
          sets = λ e i. absurd (in_none i);
          passed = λ h i. absurd (in_none i);
          unmarked = λ e. absurd (true≢false e);
          between = λ e. (can.no_source, can.no_sink);
          empties = restored_empties (targets_of l n);
        }

    node-restored : NodeSound r n
    node-restored = record {
      fits = subst (NodeFits l.plan (accepted_steps l) n) (sym node_now) restored_fits;
      clock = λ e i b h. absurd (in_none (subst (λ (x : Node). In e (worked_on x)) node_now i));
      rows = λ b h. subst (λ (x : Node). Rises held_time 0 (held_from (channel_at l.plan b).sender x.held)) (sym node_now) none;
    }

    -- The children's clocks are as they were.
    covers_on : (m : ℕ) → m ≢ n → (c : ℕ) → Enters l.plan m c → (o before : Origin) → Covers l.plan c (lane_at l c) o before → Covers l.plan c (lane_at r c) o before
    covers_on m d c (h, q) =
        let away : (channel_at l.plan c).receiver ≢ n = λ z. d (sym q ∙ z) in
        elim (ℕ_discrete (channel_at l.plan c).sender n) [
          | yes e ↦ (let lane = restored_leaves l n ordered s.shape c (h, e) in covers_like l.plan c (lane_at l c) (lane_at r c) (ap (λ (x : Lane). x.taken) lane) (ap (λ (x : Lane). x.heard) lane))
          | no e ↦ (let lane = restored-beside l n ordered s.shape c away e in covers_like l.plan c (lane_at l c) (lane_at r c) (ap (λ (x : Lane). x.taken) lane) (ap (λ (x : Lane). x.heard) lane))
        ]

    -- A neighbour bears no mark and is up.
    module _ (c : ℕ) (h : Enters l.plan n c) where
      abbrev parent : ℕ
      parent = (channel_at l.plan c).sender

      parent_other : parent ≢ n
      parent_other q = omega (arith, ordered.forward c h.0, h.1)

      parent_unmarked : (node_at l parent).crashed ≡ false
      parent_unmarked = if_marked (node_at l parent).crashed (λ e. absurd (marked-apart l s parent n e marked c (h.0, refl) h.1)) (λ e. e)

      parent_up : (node_at r parent).status ≡ up
      parent_up = ap (λ (x : Node). x.status) (node_other parent parent_other) ∙ (s.nodes parent (omega (arith, ordered.forward c h.0, ordered.inside c h.0))).fits.unmarked parent_unmarked

      own_status : (node_at r (channel_at l.plan c).receiver).status ≡ status_of (targets_of l n)
      own_status = ap (λ (x : ℕ). (node_at r x).status) h.1 ∙ status_now

      channel_enters : ChannelSound r c
      unfolding fresh_lane
      channel_enters =
          let lane = restored_enters l n ordered s.shape c h in
          let running : end_down r c ≡ false = rw (parent_up, own_status) (not_down (status_of (targets_of l n)) (status_not_down (targets_of l n))) in
          record {
            fits = subst (LaneFits l.plan (accepted_steps l) c) (sym lane) (fresh_fits l.plan (accepted_steps l) c (restored l n parent) (restored-within parent));
            flows = λ e. subst Flows (sym lane) (fresh_flows l.plan (channel_at l.plan c) (restored l n parent));
            apart = λ e. absurd (true≢false (sym e ∙ ap (λ (x : Node). x.crashed) (node_other parent parent_other) ∙ parent_unmarked));
            stopped = λ e. absurd (true≢false (sym e ∙ running));
            cleared = λ e. absurd (status_not_down (targets_of l n) (sym own_status ∙ e));
            silent = λ e. ap (λ (x : Lane). x.queue) lane;
          }

    module _ (c : ℕ) (h : Leaves l.plan n c) where
      abbrev child : ℕ
      child = (channel_at l.plan c).receiver

      child_other : child ≢ n
      child_other q = omega (arith, ordered.forward c h.0, h.1)

      child_unmarked : (node_at l child).crashed ≡ false
      child_unmarked = (s.channels c h.0).apart (ap (λ (x : ℕ). (node_at l x).crashed) h.1 ∙ marked)

      child_up : (node_at r child).status ≡ up
      child_up = ap (λ (x : Node). x.status) (node_other child child_other) ∙ (s.nodes child (ordered.inside c h.0)).fits.unmarked child_unmarked

      -- Nothing was on the channel.
      queue_none : (lane_at l c).queue ≡ []
      queue_none = ((s.channels c h.0).stopped (rw (h.1, can.stopped))).1

      lane_is : lane_at r c ≡ record { mark = (lane_at l c).taken; taken = (lane_at l c).taken; heard = (lane_at l c).heard; queue = []; low = (lane_at l c).low }
      lane_is = restored_leaves l n ordered s.shape c h ∙ (λ i. record { mark = (lane_at l c).taken; taken = (lane_at l c).taken; heard = (lane_at l c).heard; queue = queue_none i; low = (lane_at l c).low })

      left_fits : LaneFits l.plan (accepted_steps l) c (record { mark = (lane_at l c).taken; taken = (lane_at l c).taken; heard = (lane_at l c).heard; queue = []; low = (lane_at l c).low })
      unfolding low_wrong
      left_fits = let f = (s.channels c h.0).fits in record { heard_long = f.heard_long; low_long = f.low_long; low_below = f.low_below; few = omega arith; messages = λ m i. absurd (in_none i); mark = f.taken; taken = f.taken; heard = f.heard }

      channel_leaves : ChannelSound r c
      channel_leaves =
          let from-status : (node_at r (channel_at l.plan c).sender).status ≡ status_of (targets_of l n) = ap (λ (x : ℕ). (node_at r x).status) h.1 ∙ status_now in
          let running : end_down r c ≡ false = rw (from-status, child_up, not_down (status_of (targets_of l n)) (status_not_down (targets_of l n))) in
          record {
            fits = subst (LaneFits l.plan (accepted_steps l) c) (sym lane_is) left_fits;
            flows = λ e. subst Flows (sym lane_is) (record { marked = omega arith; rises = none; within = none_in });
            apart = λ e. ap (λ (x : Node). x.crashed) (node_other child child_other) ∙ child_unmarked;
            stopped = λ e. absurd (true≢false (sym e ∙ running));
            cleared = λ e. absurd (up_not_down (sym child_up ∙ e));
            silent = λ e. ap (λ (x : Lane). x.queue) lane_is;
          }

      taken_kept : (lane_at r c).taken ≡ (lane_at l c).taken
      taken_kept = ap (λ (x : Lane). x.taken) lane_is

      low_kept_too : (lane_at r c).low ≡ (lane_at l c).low
      low_kept_too = ap (λ (x : Lane). x.low) lane_is

      log_kept : triples n (node_at r child).log ≡ triples n (node_at l child).log
      log_kept = ap (λ (x : Node). triples n x.log) (node_other child child_other)

    restored-standing : Standing r
    restored-standing =
        let same : accepted_steps l ≤ accepted_steps l = omega arith in
        record {
          plan_fits_lem = s.plan_fits_lem;
          shape = restored_shape l n ordered s.shape;
          counts = s.counts;
          nodes = λ m h. elim (ℕ_discrete m n) [
            | yes q ↦ subst (NodeSound r) (sym q) node-restored
            | no d ↦ node_stays l l.steps r.nodes r.lanes same m (node_other m d) (covers_on m d) (s.nodes m h)
          ];
          channels = λ c h. at-ends l.plan n c h (channel_enters c) (channel_leaves c)
              (λ d e.
              (let from = node_other (channel_at l.plan c).sender e in
              let to = node_other (channel_at l.plan c).receiver d in
              channel_stays l l.steps r.nodes r.lanes same c (ap (λ (x : Node). x.status) from) (ap (λ (x : Node). x.status) to) (ap (λ (x : Node). x.crashed) from) (ap (λ (x : Node). x.crashed) to)
              (restored-beside l n ordered s.shape c d e) (s.channels c h)));
        }

    -- Another node that is not up is not joined to this one.
    stopped_other : ((m : ℕ) → m < node_count l.plan → (node_at l m).status ≢ up → Stopped l m) → (m : ℕ) → m < node_count l.plan → m ≢ n → (node_at r m).status ≢ up → Stopped r m
    stopped_other stopped m h d e =
        let same : accepted_steps l ≤ accepted_steps l = omega arith in
        let node = node_other m d in
        let was : (node_at l m).status ≢ up = λ q. e (ap (λ (x : Node). x.status) node ∙ q) in
        let apart = marked-apart l s m n (stopped_marked l s m h was) marked in
        stopped_same l l.steps r.nodes r.lanes same m (λ c j. ap (λ (x : Lane). x.taken) (restored-beside l n ordered s.shape c (apart c j) (λ q. d (sym j.1 ∙ q))))
        (λ c j. ap (λ (x : Node). triples m x.log) (node_other (channel_at l.plan c).receiver (apart c j))) (λ c j. ap (λ (x : Lane). x.low) (restored-beside l n ordered s.shape c (apart c j) (λ q. d (sym j.1 ∙ q)))) node (stopped m h was)

    replays_own : conflict (targets_of l n) ≡ false → is_empty (targets_of l n) ≡ false → rows_complete r n ≡ false → Replays r n
    replays_own agreed there waiting =
        let same : accepted_steps l ≤ accepted_steps l = omega arith in
        let lows = low_kept l l.steps r.nodes r.lanes same n taken_kept log_kept low_kept_too in
        let found = targets_kept l l.steps r.nodes r.lanes same n taken_kept log_kept low_kept_too in
        record {
          time = ap (λ (x : Node). x.time) node_now ∙ sym lows;
          targets = ap (λ (x : Node). x.targets) node_now ∙ sym found;
          few = rw found few;
          agreed = ap conflict found ∙ agreed;
          some = ap is_empty found ∙ there;
          open_row = rows_kept l l.steps r.nodes r.lanes same n taken_kept log_kept low_kept_too ∙ sym (restored_complete_lem l n ordered s.shape can.here) ∙ ap (λ (k : Line). rows_complete k n) (recovered_is l n ordered s.shape) ∙ waiting;
        }

    -- It has no kept answer.
    own_stopped : ((node_at r n).status ≡ replay → Replays r n) → Stopped r n
    own_stopped f = record { replays = f; answers = λ a e. none_some (sym (ap (λ (x : Node). x.asked) node_now) ∙ e) }

    pub recovered_sound : ((m : ℕ) → m < node_count l.plan → (node_at l m).status ≢ up → Stopped l m) → (k : Line) → recovered_line n l ≡ some k → Sound k
    unfolding recovered_line
    recovered_sound stopped k = go (conflict (targets_of l n)) (is_empty (targets_of l n)) refl refl
      where
        others : (m : ℕ) → m < node_count l.plan → m ≢ n → (node_at r m).status ≢ up → Stopped r m
        others = stopped_other stopped

        is : recovered n l ≡ r
        is = recovered_is l n ordered s.shape

        without : is_empty (targets_of l n) ≡ true → (m : ℕ) → m < node_count l.plan → (node_at r m).status ≢ up → Stopped r m
        without e m h q = elim (ℕ_discrete m n) [
          | yes z ↦ absurd (q (ap (λ (x : ℕ). (node_at r x).status) z ∙ status_now ∙ empty_up (targets_of l n) e))
          | no d ↦ others m h d q
        ]
          where
            empty_up : (ts : List Target) → is_empty ts ≡ true → status_of ts ≡ up
            empty_up [] x = refl
            empty_up (t ∷ ts) x = absurd (true≢false (sym x))

        go : (clash empty : Bool) → conflict (targets_of l n) ≡ clash → is_empty (targets_of l n) ≡ empty
            → (elim clash [ true ↦ none | false ↦ elim empty [ true ↦ some (recovered n l) | false ↦ ended_if_complete n (recovered n l) ] ]) ≡ some k → Sound k
        go true empty c e q = none_some q
        go false true c e q = let same = sym is ∙ some_same q in subst Sound same (record { standing = restored-standing; stopped = without e })
        go false false c e q =
            let ends : ended_if_complete n r ≡ some k = ap (ended_if_complete n) (sym is) ∙ q in
            ended_sound r restored-standing n can.here (status_now ∙ status_replays (targets_of l n) e) others (λ waiting. own_stopped (λ _. replays_own c e waiting)) (ended_as n r k ends)

pub recover_sound : (l : Line) → Sound l → (n : ℕ) {who : ℕ} → Passed l who (recover n) → (k : Line) → effect l (recover n) ≡ some k → Sound (counted who k)
unfolding effect
recover_sound l sound n {who} p k e =
    let after = recovered_sound l sound.standing n (can_recover p) (ltb-false target_limit (length (targets_of l n)) p.space) sound.stopped k e in
    counted_sound k p.console (rw (effect-steps l (recover n) e) p.steps_left) after
