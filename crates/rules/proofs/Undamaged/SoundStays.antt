-- What is sound stays sound where a change does not reach, and as the steps go on.
use Prim.Native.Nat.{ℕ, ◌-◌, ◌<◌, ◌≤◌}
use mathlib.Core.Path.{◌≡◌, refl, sym, ap, subst, ◌∙◌}
use mathlib.Core.Bool.{not, ◌&&◌, ◌||◌}
use mathlib.Core.List.{List, ◌∷◌, ◌++◌}
use lib.ListN.{length, replicate}
use native.Mathlib.Omega.{arith}
use lib.Dec.{leb}
use Rattle.plan.specs.Plan.{Plan, channel_at, entering}
use Rattle.plan.specs.Layout.{sum_of}
use Rattle.rules.specs.Lists.{is_empty}
use Rattle.rules.specs.Line.{step_limit, console_count, steps_from, accepted_steps, Origin, fed, made, Message, Entry, Target, down, replay, Asked, Node, Lane, Line, node_at, lane_at, one_more, counted, is_down}
use Rattle.rules.specs.Recover.{triples, targets_of, low_of, restored, conflict, row_goal, child_triples, answer_of}
use Rattle.rules.specs.Step.{end_down}
use Rattle.rules.specs.Damaged.{worked_on}
use Rattle.rules.proofs.Lists.Rising.{Rises}
use Rattle.rules.proofs.Lists.Members.{In, map_same}
use Rattle.rules.proofs.Line.Consoles.{more_fit, counts_rise}
use Rattle.rules.proofs.Invariant.Stays.{moved}
use Rattle.rules.proofs.Invariant.Inv.{Enters, Leaves}
use Rattle.rules.proofs.Ending.Targets.{low_same, high_same, triples_same, targets_same, restored_same, lows_same}
use Rattle.rules.proofs.Undamaged.Standing.{held_time, OriginFits, BeforeFits, EntryFits, MessageFits, TargetFits, NodeFits, Covers, held_from, NodeSound, LaneFits, Flows, ChannelSound, restored_complete, Replays, stuck, Answers, Stopped, Sound}
use Rattle.rules.proofs.Undamaged.Restored.{all_same}

-- More steps.
module _ (p : Plan) {steps more : ℕ} (h : steps ≤ more) where
  pub origin-later : (n : ℕ) (o : Origin) → OriginFits p steps n o → OriginFits p more n o
  origin-later n fed f = f
  origin-later n (made s t) (a, b, c, d) = (a, b, c, omega arith)

  pub before-later : (o before : Origin) → BeforeFits p steps o before → BeforeFits p more o before
  before-later fed before f = f
  before-later (made s t) before f = origin-later s before f

  pub entry-later : (n : ℕ) (e : Entry) → EntryFits p steps n e → EntryFits p more n e
  entry-later n e f = record { limits = f.limits; origin = origin-later n e.origin f.origin; before = before-later e.origin e.before f.before }

  message-later : (s : ℕ) (m : Message) → MessageFits p steps s m → MessageFits p more s m
  message-later s m f = record { limits = f.limits; origin = origin-later s m.origin f.origin; later = f.later; within = omega (arith, f.within) }

  pub target-later : (n : ℕ) (t : Target) → TargetFits p steps n t → TargetFits p more n t
  target-later n t f = record { parent = f.parent; time = omega (arith, f.time); parent_time = omega (arith, f.parent_time) }

  pub node-later : (n : ℕ) (x : Node) → NodeFits p steps n x → NodeFits p more n x
  node-later n x f =
      record {
        log_few = f.log_few;
        held_few = f.held_few;
        targets_few = f.targets_few;
        entries = λ e i. entry-later n e (f.entries e i);
        targets = λ t i. target-later n t (f.targets t i);
        time = omega (arith, f.time);
        rises = f.rises;
        within = f.within;
        sets = f.sets;
        passed = f.passed;
        unmarked = f.unmarked;
        between = f.between;
        empties = f.empties;
      }

  pub lane-later : (b : ℕ) (s : Lane) → LaneFits p steps b s → LaneFits p more b s
  lane-later b s f =
      record {
        heard_long = f.heard_long;
        low_long = f.low_long;
        low_below = f.low_below;
        few = f.few;
        messages = λ m i. message-later (channel_at p b).sender m (f.messages m i);
        mark = omega (arith, f.mark);
        taken = omega (arith, f.taken);
        heard = λ t i. omega (arith, f.heard t i);
      }

module _ (l : Line) (steps : List ℕ) (nodes : List Node) (lanes : List Lane) (h : accepted_steps l ≤ sum_of steps) where
  abbrev k : Line
  k = moved l steps nodes lanes

  -- A node that is as it was, with a clock that is not lowered.
  pub node_stays : (n : ℕ) → node_at k n ≡ node_at l n → ((b : ℕ) → Enters l.plan n b → (o before : Origin) → Covers l.plan b (lane_at l b) o before → Covers l.plan b (lane_at k b) o before) → NodeSound l n → NodeSound k n
  node_stays n same raised f =
      record {
        fits = subst (NodeFits l.plan (sum_of steps) n) (sym same) (node-later l.plan h n (node_at l n) f.fits);
        clock = λ e i b j. raised b j e.origin e.before (f.clock e (subst (λ (x : Node). In e (worked_on x)) same i) b j);
        rows = λ b j. subst (λ (x : Node). Rises held_time 0 (held_from (channel_at l.plan b).sender x.held)) (sym same) (f.rows b j);
      }

  -- A channel whose state, and whose ends' marks, are as they were, with no end newly down and no sender newly replaying.
  pub channel_like : (b : ℕ) → end_down k b ≡ end_down l b → ((node_at k (channel_at l.plan b).receiver).status ≡ down → (node_at l (channel_at l.plan b).receiver).status ≡ down) → ((node_at k (channel_at l.plan b).sender).status ≡ replay → (node_at l (channel_at l.plan b).sender).status ≡ replay)
      → (node_at k (channel_at l.plan b).sender).crashed ≡ (node_at l (channel_at l.plan b).sender).crashed → (node_at k (channel_at l.plan b).receiver).crashed ≡ (node_at l (channel_at l.plan b).receiver).crashed
      → lane_at k b ≡ lane_at l b → ChannelSound l b → ChannelSound k b
  channel_like b ends goes replays from to lane f =
      record {
        fits = subst (LaneFits l.plan (sum_of steps) b) (sym lane) (lane-later l.plan h b (lane_at l b) f.fits);
        flows = λ e. subst Flows (sym lane) (f.flows (sym ends ∙ e));
        apart = λ e. to ∙ f.apart (sym from ∙ e);
        stopped = λ e. (let (a, c) = f.stopped (sym ends ∙ e) in (ap (λ (s : Lane). s.mark) lane ∙ a, ap (λ (s : Lane). s.queue) lane ∙ c));
        cleared = λ e t i. f.cleared (goes e) t (subst (λ (s : Lane). In t (s.taken ∷ s.heard)) lane i);
        silent = λ e. ap (λ (s : Lane). s.queue) lane ∙ f.silent (replays e);
      }

  -- A channel whose state, and whose ends' status and marks, are as they were.
  module _ (b : ℕ) (sender : (node_at k (channel_at l.plan b).sender).status ≡ (node_at l (channel_at l.plan b).sender).status) (receiver : (node_at k (channel_at l.plan b).receiver).status ≡ (node_at l (channel_at l.plan b).receiver).status) where
    pub ends_same : end_down k b ≡ end_down l b
    ends_same = λ i. is_down (sender i) || is_down (receiver i)

    pub channel_stays : (node_at k (channel_at l.plan b).sender).crashed ≡ (node_at l (channel_at l.plan b).sender).crashed → (node_at k (channel_at l.plan b).receiver).crashed ≡ (node_at l (channel_at l.plan b).receiver).crashed
        → lane_at k b ≡ lane_at l b → ChannelSound l b → ChannelSound k b
    channel_stays = channel_like b ends_same (λ e. sym receiver ∙ e) (λ e. sym sender ∙ e)

  -- What Recover would find of node n is as it was, where its children have the same of it.
  module _ (n : ℕ) (entries : (c : ℕ) → Leaves l.plan n c → (lane_at k c).taken ≡ (lane_at l c).taken)
      (logs : (c : ℕ) → Leaves l.plan n c → triples n (node_at k (channel_at l.plan c).receiver).log ≡ triples n (node_at l (channel_at l.plan c).receiver).log)
      (lows : (c : ℕ) → Leaves l.plan n c → (lane_at k c).low ≡ (lane_at l c).low) where
    pub low_kept : low_of k n ≡ low_of l n
    low_kept = low_same l k n refl (λ c on leaves. entries c (on, leaves))

    triples_kept : child_triples k n ≡ child_triples l n
    triples_kept = triples_same l k n refl (λ c on leaves. logs c (on, leaves))

    pub targets_kept : targets_of k n ≡ targets_of l n
    targets_kept = targets_same l k n low_kept triples_kept

    pub restored_kept : (parent : ℕ) → restored k n parent ≡ restored l n parent
    restored_kept parent = restored_same l k n low_kept triples_kept parent (lows_same l k n refl (λ c on leaves. lows c (on, leaves)) parent)

    pub rows_kept : restored_complete k n ≡ restored_complete l n
    rows_kept =
        let p = l.plan in
        all_same (λ (c : ℕ). leb (row_goal (targets_of k n) (channel_at p c).sender) (restored k n (channel_at p c).sender)) (λ (c : ℕ). leb (row_goal (targets_of l n) (channel_at p c).sender) (restored l n (channel_at p c).sender)) (entering p n)
        (λ c i. rw (targets_kept, restored_kept (channel_at p c).sender))

    pub answer_kept : answer_of k n ≡ answer_of l n
    unfolding answer_of
    answer_kept =
        let p = l.plan in
        λ i. record {
          low = low_kept i;
          high = high_same l k n refl (λ c on leaves. entries c (on, leaves)) i;
          entries = map_same (λ (c : ℕ). restored k n (channel_at p c).sender) (λ (c : ℕ). restored l n (channel_at p c).sender) (entering p n) (λ c j. restored_kept (channel_at p c).sender) i ++ replicate (4 - length (entering p n)) 0;
        }

    pub stuck_kept : stuck k n ≡ stuck l n
    unfolding stuck
    stuck_kept = λ i. conflict (targets_kept i) || (not (is_empty (targets_kept i)) && rows_kept i)

    -- A replay whose node is as it was, too.
    replays_stay : (node_at k n).time ≡ (node_at l n).time → (node_at k n).targets ≡ (node_at l n).targets → Replays l n → Replays k n
    replays_stay time targets f =
        record {
          time = time ∙ f.time ∙ sym low_kept;
          targets = targets ∙ f.targets ∙ sym targets_kept;
          few = rw targets_kept f.few;
          agreed = ap conflict targets_kept ∙ f.agreed;
          some = ap is_empty targets_kept ∙ f.some;
          open_row = rows_kept ∙ f.open_row;
        }

    answers_stay : (node_at k n).targets ≡ (node_at l n).targets → (a : Asked) → Answers l n a → Answers k n a
    answers_stay targets a f = record { is = f.is ∙ sym answer_kept; targets = targets ∙ f.targets ∙ sym targets_kept; few = rw targets_kept f.few; goes = stuck_kept ∙ f.goes }

    -- What a node that is not up has of its restart stays right.
    pub stopped_stay : (node_at k n).status ≡ (node_at l n).status → (node_at k n).time ≡ (node_at l n).time → (node_at k n).targets ≡ (node_at l n).targets → (node_at k n).asked ≡ (node_at l n).asked → Stopped l n → Stopped k n
    stopped_stay status time targets asked f = record { replays = λ e. replays_stay time targets (f.replays (sym status ∙ e)); answers = λ a e. answers_stay targets a (f.answers a (sym asked ∙ e)) }

    -- The same, of a node that is as it was.
    pub stopped_same : node_at k n ≡ node_at l n → Stopped l n → Stopped k n
    stopped_same node = stopped_stay (ap (λ (x : Node). x.status) node) (ap (λ (x : Node). x.time) node) (ap (λ (x : Node). x.targets) node) (ap (λ (x : Node). x.asked) node)

-- One more step counted, of a console that has steps left.
pub counted_sound : (l : Line) {c : ℕ} → c < console_count → steps_from l c < step_limit → Sound l → Sound (counted c l)
unfolding counted
counted_sound l {c} inside left f =
    let s = f.standing in
    let steps = one_more c l.steps in
    let later : accepted_steps l ≤ sum_of (one_more c l.steps) = omega (arith, counts_rise s.counts inside left) in
    record {
      standing = record {
        plan_fits_lem = s.plan_fits_lem;
        shape = record { nodes_long = s.shape.nodes_long; lanes_long = s.shape.lanes_long };
        counts = more_fit s.counts inside left;
        nodes = λ n i. node_stays l steps l.nodes l.lanes later n refl (λ b j o before c. c) (s.nodes n i);
        channels = λ b i. channel_stays l steps l.nodes l.lanes later b refl refl refl refl refl (s.channels b i);
      };
      stopped = λ n i e. stopped_same l steps l.nodes l.lanes later n (λ c j. refl) (λ c j. refl) (λ c j. refl) refl (f.stopped n i e);
    }
