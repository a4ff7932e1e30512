-- Send keeps a line sound.
use Prim.Native.Nat.{ℕ, ◌<◌, ◌≤◌}
use mathlib.Core.Path.{◌≡◌, refl, sym, ap, subst, ◌∙◌}
use mathlib.Core.Logic.{◌≢◌, inl, inr}
use mathlib.Core.Bool.{Bool, true, false, ◌&&◌, true≢false}
use mathlib.Core.List.{List, [], ◌∷◌}
use mathlib.Core.Option.{Option, some}
use native.Mathlib.Omega.{arith}
use native.Mathlib.Decide.{ℕ_discrete}
use lib.ListN.{length, length-append}
use lib.Dec.{ltb}
use borrow.Author.Tests.{leb-false, ltb-true}
use Rattle.basics.specs.Bools.{both_true}
use Rattle.plan.specs.declared.Channel.{Channel}
use Rattle.plan.specs.Channel.{takes}
use Rattle.plan.specs.Plan.{node_count, channel_at}
use Rattle.rules.specs.Line.{queue_limit, Origin, fed, made, Entry, Status, replay, Lane, Line, node_at, lane_at, with_lane, counted, accepted_steps}
use Rattle.rules.specs.Frame.{send}
use Rattle.rules.specs.Clock.{message_of, next_to_send, sent_on}
use Rattle.rules.specs.Step.{sendable, sent_line, effect}
use Rattle.rules.proofs.Lists.Rising.{rises_snoc, within_snoc, within_higher}
use Rattle.rules.proofs.Lists.Members.{In, here, there, in_none, in_first, in_left, append_in, within_in}
use Rattle.rules.proofs.Line.LineLaws.{lane_there, lane_else, lanes_long}
use Rattle.rules.proofs.Invariant.Inv.{time_of, Ordered}
use Rattle.rules.proofs.Theorem.Accepted.{Passed, CanSend, can_send}
use Rattle.rules.proofs.Lists.Options.{some_same, none_some}
use Rattle.rules.specs.Damaged.{low_wrong}
use Rattle.rules.proofs.Undamaged.Standing.{entry_time, Empties, Covers, LaneFits, MessageFits, Flows, ChannelSound, Standing, Sound}
use Rattle.rules.proofs.Undamaged.SoundStays.{node_stays, channel_stays, stopped_same, counted_sound}
use Rattle.rules.proofs.Undamaged.Undamaged.{ordered_fit}

-- What is sent next is logged, and later than the mark.
next_in : (c : Channel) (mark : ℕ) (log : List Entry) (e : Entry) → next_to_send c mark log ≡ some e → In e log × (mark < e.time)
next_in c mark [] e q = none_some q
next_in c mark (d ∷ log) e q = one (ltb mark d.time && takes c d.what) refl q (λ z. next_in c mark log e z)
  where
    one : (t : Bool) → (ltb mark d.time && takes c d.what) ≡ t → (elim t [ true ↦ some d | false ↦ next_to_send c mark log ]) ≡ some e → (next_to_send c mark log ≡ some e → In e log × (mark < e.time)) → In e (d ∷ log) × (mark < e.time)
    one true t z ih =
        let same = some_same z in
        let late = ltb-true mark d.time (both_true (ltb mark d.time) (takes c d.what) t).0 in
        (subst (λ (x : Entry). In x (d ∷ log)) same here, subst (λ (x : Entry). mark < x.time) same late)
    one false t z ih = let (i, h) = ih z in (there i, h)

module _ (l : Line) (sound : Sound l) (b : ℕ) {who : ℕ} (p : Passed l who (send b)) where
  abbrev s : Standing l
  s = sound.standing

  can : CanSend l b
  can = can_send p

  abbrev n : ℕ
  n = (channel_at l.plan b).sender

  abbrev e : Entry
  e = can.entry

  abbrev was : Lane
  was = lane_at l b

  ordered : Ordered l.plan
  ordered = ordered_fit l.plan s.plan_fits_lem

  inside : n < node_count l.plan
  inside = omega (arith, ordered.forward b can.here, ordered.inside b can.here)

  is_next : In e (node_at l n).log × (was.mark < e.time)
  unfolding sendable
  is_next = next_in (channel_at l.plan b) was.mark (node_at l n).log e can.first

  old : ChannelSound l b
  old = s.channels b can.here

  flow : Flows (lane_at l b)
  flow = old.flows p.right_status

  sent-message : MessageFits l.plan (accepted_steps l) n (message_of e)
  sent-message =
      let f = (s.nodes n inside).fits in
      let g = f.entries e (in_left _ is_next.0) in
      let late = within_in entry_time f.within is_next.0 in
      record { limits = g.limits; origin = g.origin; later = omega (arith, is_next.1); within = omega (arith, f.time) }

  sent_fits : LaneFits l.plan (accepted_steps l) b (sent_on e was)
  unfolding sent_on low_wrong
  sent_fits =
      let f = old.fits in
      let room = leb-false queue_limit (length was.queue) p.room in
      record {
        heard_long = f.heard_long;
        low_long = f.low_long;
        low_below = f.low_below;
        few = omega (arith, length-append was.queue (message_of e ∷ []));
        messages = λ m i. elim (append_in was.queue i) [
          | inl j ↦ f.messages m j
          | inr j ↦ elim (in_first j) [ inl q ↦ subst (MessageFits l.plan (accepted_steps l) n) (sym q) sent-message | inr z ↦ absurd (in_none z) ]
        ];
        mark = sent-message.within;
        taken = f.taken;
        heard = f.heard;
      }

  sent_flows : Flows (sent_on e was)
  unfolding sent_on
  sent_flows =
      let late = is_next.1 in
      record {
        marked = omega (arith, flow.marked);
        rises = rises_snoc time_of (message_of e) (omega (arith, flow.marked)) flow.within late flow.rises;
        within = within_snoc time_of (message_of e) (omega arith) (within_higher time_of (omega arith) flow.within);
      }

  abbrev after : Line
  after = with_lane b (sent_on e (lane_at l b)) l

  now : lane_at after b ≡ sent_on e was
  now = lane_there b (sent_on e was) l (rw s.shape.lanes_long can.here)

  beside : (c : ℕ) → c ≢ b → lane_at after c ≡ lane_at l c
  beside = lane_else b (sent_on e was) l

  -- The clock's entries are as they were.
  taken_same : (c : ℕ) → (lane_at after c).taken ≡ (lane_at l c).taken
  unfolding sent_on
  taken_same c = elim (ℕ_discrete c b) [
    | yes q ↦ ap (λ (x : ℕ). (lane_at after x).taken) q ∙ ap (λ (x : Lane). x.taken) now ∙ ap (λ (x : ℕ). (lane_at l x).taken) (sym q)
    | no d ↦ ap (λ (x : Lane). x.taken) (beside c d)
  ]

  low_same : (c : ℕ) → (lane_at after c).low ≡ (lane_at l c).low
  unfolding sent_on
  low_same c = elim (ℕ_discrete c b) [
    | yes q ↦ ap (λ (x : ℕ). (lane_at after x).low) q ∙ ap (λ (x : Lane). x.low) now ∙ ap (λ (x : ℕ). (lane_at l x).low) (sym q)
    | no d ↦ ap (λ (x : Lane). x.low) (beside c d)
  ]

  covers_same : (c : ℕ) (o before : Origin) → Covers l.plan c (lane_at l c) o before → Covers l.plan c (lane_at after c) o before
  unfolding sent_on
  covers_same c o before f = elim (ℕ_discrete c b) [
    | yes q ↦ subst (λ (x : ℕ). Covers l.plan x (lane_at after x) o before) (sym q) (rw now (same o (subst (λ (x : ℕ). Covers l.plan x (lane_at l x) o before) q f)))
    | no d ↦ subst (λ (x : Lane). Covers l.plan c x o before) (sym (beside c d)) f
  ]
    where
      same : (o : Origin) → Covers l.plan b was o before → Covers l.plan b (sent_on e was) o before
      same fed g = tt
      same (made a t) g = g

  -- The sender has a log, so it does not replay.
  not_replaying : (node_at l n).status ≡ replay → ⊥
  not_replaying q = in_none (subst (λ (x : List Entry). In e x) (subst (λ (x : Status). Empties x (node_at l n)) q (s.nodes n inside).fits.empties).0 is_next.0)

  sent-channel : ChannelSound after b
  unfolding with_lane
  sent-channel =
      record {
        fits = rw now sent_fits;
        flows = λ q. rw now sent_flows;
        apart = old.apart;
        stopped = λ q. absurd (true≢false (sym q ∙ p.right_status));
        cleared = λ q. absurd (can.receiver q);
        silent = λ q. absurd (not_replaying q);
      }

  sent_sound : Sound after
  unfolding with_lane
  sent_sound =
      let same : accepted_steps l ≤ accepted_steps l = omega arith in
      record {
        standing = record {
          plan_fits_lem = s.plan_fits_lem;
          shape = record { nodes_long = s.shape.nodes_long; lanes_long = lanes_long b (sent_on e was) l ∙ s.shape.lanes_long };
          counts = s.counts;
          nodes = λ m h. node_stays l l.steps l.nodes after.lanes same m refl (λ c j. covers_same c) (s.nodes m h);
          channels = λ c h. elim (ℕ_discrete c b) [
            | yes q ↦ subst (ChannelSound after) (sym q) sent-channel
            | no d ↦ channel_stays l l.steps l.nodes after.lanes same c refl refl refl refl (beside c d) (s.channels c h)
          ];
        };
        stopped = λ m h q. stopped_same l l.steps l.nodes after.lanes same m (λ c j. taken_same c) (λ c j. refl) (λ c j. low_same c) refl (sound.stopped m h q);
      }

  pub send_sound : (k : Line) → effect l (send b) ≡ some k → Sound (counted who k)
  unfolding effect with_lane
  send_sound k q =
      subst (λ (x : Line). Sound (counted who x)) (ap (λ (o : Option Entry). sent_line b o l) (sym can.first) ∙ some_same q) (counted_sound after p.console p.steps_left sent_sound)
