-- Trim keeps a line sound: its log gets shorter, and what raises the low clock is covered by the clock.
use Prim.Native.Nat.{ℕ, ◌<◌, ◌≤◌}
use mathlib.Core.Path.{◌≡◌, refl, sym, ap, subst, ◌∙◌}
use mathlib.Core.Logic.{inl, inr}
use mathlib.Core.Bool.{Bool, true, false, ◌||◌}
use mathlib.Core.List.{List, ◌∷◌, map}
use mathlib.Core.Option.{some}
use native.Mathlib.Omega.{arith}
use native.Mathlib.Decide.{ℕ_discrete}
use lib.ListN.{length, length-append}
use Rattle.plan.specs.Plan.{Plan, channel_at, channel_count}
use Rattle.rules.specs.Line.{Origin, fed, made, Entry, Held, Status, Node, Lane, Line, node_at, lane_at, parents, sender_of, is_down, counted, accepted_steps}
use Rattle.rules.specs.Frame.{trim}
use Rattle.rules.specs.Trim.{droppable, behind, low_raised, with_log}
use Rattle.rules.specs.Step.{end_down, effect}
use Rattle.rules.specs.Replay.{held_entry}
use Rattle.rules.specs.Damaged.{worked_on, past_heard, low_wrong}
use Rattle.rules.proofs.Lists.Rising.{Rises, Within, none_in, more_in}
use Rattle.rules.proofs.Lists.Members.{In, in_left, in_right, append_in}
use Rattle.rules.proofs.Lists.Options.{some_same}
use Rattle.rules.proofs.Invariant.Inv.{Enters, Shape}
use Rattle.rules.proofs.Invariant.Trimmed.{leading-behind, run, rest, lower, node_after, trimmed, trimmed_is, trimmed_shape, trimmed_node, trimmed_else, trimmed_enters, trimmed_beside, node_same}
use Rattle.rules.proofs.Invariant.Lows.{after_long}
use Rattle.rules.proofs.Theorem.Accepted.{Passed, CanTrim, can_trim}
use Rattle.rules.proofs.Theorem.Unmoved.{effect-steps}
use Rattle.rules.proofs.Undamaged.Standing.{entry_time, held_time, held_from, Empties, LogRises, log_none, log_more, NodeFits, Covers, NodeSound, LaneFits, Flows, ChannelSound, Sound}
use Rattle.rules.proofs.Undamaged.LogRising.{log_lower}
use Rattle.rules.proofs.Undamaged.LowLaws.{Below, after_below}
use Rattle.rules.proofs.Undamaged.SoundStays.{node_stays, channel_stays, counted_sound}

-- What is behind a run rises as it did.
behind-rises : (p : Plan) (n : ℕ) (f : Entry → Bool) {a : ℕ} {xs : List Entry} → LogRises p n a xs → LogRises p n a (behind f xs)
behind-rises p n f log_none = log_none
behind-rises p n f {a} (log_more {e = x} {es = xs} h g r) = one (f x) (behind-rises p n f r)
  where
    one : (t : Bool) → LogRises p n x.time (behind f xs) → LogRises p n a (elim t [ true ↦ behind f xs | false ↦ x ∷ xs ])
    one true s = log_lower p n h s
    one false s = log_more {last = a} {e = x} h g r

behind-within : (f : Entry → Bool) {k : ℕ} {xs : List Entry} → Within entry_time k xs → Within entry_time k (behind f xs)
behind-within f none_in = none_in
behind-within f {k} (more_in {x = x} {xs = xs} h w) = one (f x) (behind-within f w)
  where
    one : (t : Bool) → Within entry_time k (behind f xs) → Within entry_time k (elim t [ true ↦ behind f xs | false ↦ x ∷ xs ])
    one true s = s
    one false s = more_in h w

module _ (l : Line) (sound : Sound l) (n : ℕ) (can : CanTrim l n) where
  abbrev k : Line
  k = trimmed l n

  shape : Shape l
  shape = sound.standing.shape

  in_rest : {e : Entry} → In e (rest l n) → In e (node_at l n).log
  in_rest {e} i = subst (λ (x : List Entry). In e x) (sym (leading-behind (droppable l n) (node_at l n).log)) (in_right (run l n) i)

  in_run : {e : Entry} → In e (run l n) → In e (node_at l n).log
  in_run {e} i = subst (λ (x : List Entry). In e x) (sym (leading-behind (droppable l n) (node_at l n).log)) (in_left (rest l n) i)

  worked : (e : Entry) → In e (worked_on (node_after l n)) → In e (worked_on (node_at l n))
  worked e i = elim (append_in (rest l n) i) [ inl j ↦ in_left (map held_entry (node_at l n).held) (in_rest j) | inr j ↦ in_right (node_at l n).log j ]

  fits : NodeFits l.plan (accepted_steps l) n (node_after l n)
  fits =
      let f = (sound.standing.nodes n can.here).fits in
      record {
        log_few = omega (arith, f.log_few, ap length (leading-behind (droppable l n) (node_at l n).log) ∙ length-append (run l n) (rest l n));
        held_few = f.held_few;
        targets_few = f.targets_few;
        entries = λ e i. f.entries e (worked e i);
        targets = f.targets;
        time = f.time;
        rises = behind-rises l.plan n (droppable l n) f.rises;
        within = behind-within (droppable l n) f.within;
        sets = λ e i. f.sets e (in_rest i);
        passed = f.passed;
        unmarked = f.unmarked;
        between = f.between;
        empties = empties (node_at l n).status refl;
      }
    where
      empties : (s : Status) → (node_at l n).status ≡ s → Empties (node_at l n).status (with_log (rest l n) (node_at l n))
      empties s e = rw (can.all_up n can.here) (rw (can.all_up n can.here) at (sound.standing.nodes n can.here).fits.empties)

  -- The clock stays.
  covers : (b : ℕ) → b < channel_count l.plan → (o before : Origin) → Covers l.plan b (lane_at l b) o before → Covers l.plan b (lane_at k b) o before
  unfolding low_raised
  covers b h o before c =
      elim (ℕ_discrete (channel_at l.plan b).receiver n) [
        | yes q ↦ subst (λ (x : Lane). Covers l.plan b x o before) (sym (trimmed_enters l n b (h, q) (rw shape.lanes_long h))) (same (lane_at l b) o c)
        | no d ↦ subst (λ (x : Lane). Covers l.plan b x o before) (sym (trimmed_beside l n b d)) c
      ]
    where
      same : (s : Lane) (o : Origin) → Covers l.plan b s o before → Covers l.plan b (lower l n b s) o before
      same s fed c = tt
      same s (made a t) c = c

  held_same : (m : ℕ) → (node_at k m).held ≡ (node_at l m).held
  held_same = node_same l n shape can.here (λ (x : Node). x.held) refl

  own : NodeSound k n
  own =
      let f = sound.standing.nodes n can.here in
      let now = trimmed_node l n (rw shape.nodes_long can.here) in
      record {
        fits = subst (NodeFits l.plan (accepted_steps l) n) (sym now) fits;
        clock = λ e i b h. covers b h.0 e.origin e.before (f.clock e (worked e (subst (λ (x : Node). In e (worked_on x)) now i)) b h);
        rows = λ b h. rows b h;
      }
    where
      rows : (b : ℕ) → Enters l.plan n b → Rises held_time 0 (held_from (channel_at l.plan b).sender (node_at k n).held)
      rows b h = subst (λ (x : List Held). Rises held_time 0 (held_from (channel_at l.plan b).sender x)) (sym (held_same n)) ((sound.standing.nodes n can.here).rows b h)

  -- A channel that enters the node.
  low_fits : (b : ℕ) → Enters l.plan n b → LaneFits l.plan (accepted_steps l) b (lower l n b (lane_at l b))
  unfolding low_raised low_wrong
  low_fits b h =
      let f = (sound.standing.channels b h.0).fits in
      let ps = parents l.plan (sender_of l b) in
      record {
        heard_long = f.heard_long;
        low_long = after_long ps (sender_of l b) (run l n) (lane_at l b).low ∙ f.low_long;
        low_below = after_below ps (sender_of l b) (lane_at l b).taken (lane_at l b).heard (run l n) (lane_at l b).low f.low_below (λ e i. below e.origin e.before ((sound.standing.nodes n can.here).clock e (in_left (map held_entry (node_at l n).held) (in_run i)) b h));
        few = f.few;
        messages = f.messages;
        mark = f.mark;
        taken = f.taken;
        heard = f.heard;
      }
    where
      below : (o before : Origin) → Covers l.plan b (lane_at l b) o before → Below (parents l.plan (sender_of l b)) (sender_of l b) (lane_at l b).taken (lane_at l b).heard o before
      below fed before c = tt
      below (made a t) before c = λ q. subst (λ (x : ℕ). (t ≤ (lane_at l b).taken) × (past_heard (parents l.plan x) (lane_at l b).heard before ≡ false)) q (c (sym q))

  statuses : (m : ℕ) → (node_at k m).status ≡ (node_at l m).status
  statuses = node_same l n shape can.here (λ (x : Node). x.status) refl

  marks : (m : ℕ) → (node_at k m).crashed ≡ (node_at l m).crashed
  marks = node_same l n shape can.here (λ (x : Node). x.crashed) refl

  channel : (b : ℕ) → b < channel_count l.plan → ChannelSound k b
  unfolding low_raised
  channel b h =
      let from = (channel_at l.plan b).sender in
      let to = (channel_at l.plan b).receiver in
      let f = sound.standing.channels b h in
      elim (ℕ_discrete (channel_at l.plan b).receiver n) [
        | no d ↦ channel_stays l l.steps k.nodes k.lanes (omega arith) b (statuses from) (statuses to) (marks from) (marks to) (trimmed_beside l n b d) f
        | yes q ↦
            (let lane = trimmed_enters l n b (h, q) (rw shape.lanes_long h) in
            let ends : end_down k b ≡ end_down l b = λ i. is_down (statuses from i) || is_down (statuses to i) in
            record {
              fits = subst (LaneFits l.plan (accepted_steps l) b) (sym lane) (low_fits b (h, q));
              flows = λ e. subst Flows (sym lane) (let w = f.flows (sym ends ∙ e) in record { marked = w.marked; rises = w.rises; within = w.within });
              apart = λ e. marks to ∙ f.apart (sym (marks from) ∙ e);
              stopped = λ e. rw lane (f.stopped (sym ends ∙ e));
              cleared = λ e t i. f.cleared (sym (statuses to) ∙ e) t (subst (λ (s : Lane). In t (s.taken ∷ s.heard)) lane i);
              silent = λ e. rw lane (f.silent (sym (statuses from) ∙ e));
            })
      ]

  trimmed_sound : Sound k
  trimmed_sound =
      record {
        standing = record {
          plan_fits_lem = sound.standing.plan_fits_lem;
          shape = trimmed_shape l n shape;
          counts = sound.standing.counts;
          nodes = λ m h. elim (ℕ_discrete m n) [
            | yes q ↦ subst (NodeSound k) (sym q) own
            | no d ↦ node_stays l l.steps k.nodes k.lanes (omega arith) m (trimmed_else l n m d) (λ b j. covers b j.0) (sound.standing.nodes m h)
          ];
          channels = channel;
        };
        stopped = λ m h d. absurd (d (statuses m ∙ can.all_up m h));
      }

pub trim_sound : (l : Line) → Sound l → (n : ℕ) {who : ℕ} → Passed l who (trim n) → (k : Line) → effect l (trim n) ≡ some k → Sound (counted who k)
unfolding effect
trim_sound l sound n {who} p k e =
    counted_sound k p.console (rw (effect-steps l (trim n) e) p.steps_left) (subst Sound (sym (trimmed_is l n) ∙ some_same e) (trimmed_sound l sound n (can_trim p)))
