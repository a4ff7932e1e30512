-- Take keeps a line sound: the channel, and a receiver that is up.
use Prim.Native.Nat.{ℕ, suc, max, ◌<◌, ◌≤◌}
use mathlib.Core.Path.{◌≡◌, refl, sym, ap, subst, ◌∙◌}
use mathlib.Core.Logic.{◌≢◌, inl, inr}
use mathlib.Core.Bool.{Bool, true, false, cond, not, ◌&&◌, true≢false}
use mathlib.Core.List.{List, [], ◌∷◌}
use mathlib.Core.Option.{some}
use native.Mathlib.Omega.{arith}
use native.Mathlib.Decide.{ℕ_discrete}
use lib.ListN.{length, set, length-set}
use lib.Dec.{leb, eqb}
use borrow.Author.Tests.{leb-false, eq-eqb, ne_eqb, not-false}
use Rattle.plan.specs.Plan.{Plan, node_count, channel_count, channel_at}
use Rattle.rules.specs.Line.{log_limit, held_limit, Origin, fed, made, Message, Status, up, Node, Lane, Line, node_at, lane_at, parents, with_node, with_lane, one_more, counted, is_replay, accepted_steps}
use Rattle.plan.specs.Layout.{sum_of}
use Rattle.plan.specs.Mask.{set_of}
use Rattle.rules.specs.Frame.{take}
use Rattle.rules.specs.Recover.{triple}
use Rattle.rules.specs.Clock.{raise_heard, taken_from}
use Rattle.plan.specs.declared.Record.{Record}
use Rattle.rules.specs.Replay.{timed, time_for}
use Rattle.rules.proofs.Histories.Passing.{time_later, time_near, timed_late}
use Rattle.rules.specs.Step.{first_record, to_hold, take_lacks, made_by, taken_up, taken_lane, taken_first, taken_line, effect}
use Rattle.rules.specs.Damaged.{may_repeat, is_parent, past_heard}
use Rattle.rules.proofs.Invariant.InvLaws.{up_not_replay}
use Rattle.rules.proofs.Theorem.StepInv.{first_up, up_or_replay}
use Rattle.rules.proofs.Lists.Rising.{Rises, more, Within, within_first}
use Rattle.rules.proofs.Lists.Members.{In, here, there, in_map}
use Rattle.rules.proofs.Line.Consoles.{more_fit, counts_rise}
use Rattle.rules.proofs.Line.LineLaws.{lane_there, lane_else}
use Rattle.rules.proofs.Invariant.Stays.{moved}
use Rattle.rules.proofs.Line.Joins.{in_entering, no_source}
use Rattle.rules.proofs.Invariant.Inv.{time_of, Ordered, Enters, Leaves}
use Rattle.rules.proofs.Theorem.Accepted.{Passed, CanTake}
use Rattle.rules.proofs.Lists.Options.{some_same}
use Rattle.rules.proofs.Undamaged.TestLaws.{any_by}
use Rattle.rules.specs.Damaged.{low_wrong}
use Rattle.rules.proofs.Undamaged.LowLaws.{clock_rises}
use Rattle.rules.proofs.Undamaged.Standing.{EntryFits, MessageFits, Covers, LaneFits, Flows, ChannelSound, Standing, Sound}
use Rattle.rules.proofs.Undamaged.SoundStays.{origin-later, lane-later, ends_same, channel_stays}
use Rattle.rules.proofs.Undamaged.UndamagedNode.{fits_times}
use Rattle.rules.proofs.Undamaged.Undamaged.{ordered_fit}
use Rattle.rules.proofs.Undamaged.RecordsWithin.{made_within}
use Rattle.rules.proofs.Undamaged.HeardLaws.{raise_long, raise_within, raise_keeps, raise_covers}
use Rattle.rules.proofs.Undamaged.LogSound.{after, status_same, mark_same, log_sound}

rises_first : {a : ℕ} {m : Message} {ms : List Message} → Rises time_of a (m ∷ ms) → (a < m.time) × Rises time_of m.time ms
rises_first (more h r) = (h, r)

pub triple_else : (n s t : ℕ) (before : Origin) → s ≢ n → triple n (made s t) before ≡ []
triple_else n s t fed d = refl
triple_else n s t (made q u) d = rw (ne_eqb s n d)

empty_not : {m : Message} {rest : List Message} → [] ≡ m ∷ rest → ⊥
empty_not q = let z : ◌≡◌ {A = ℕ} 0 1 = cc in omega arith

-- The sender of a channel is a parent of its receiver.
pub enters_parent : (p : Plan) (n b : ℕ) → Enters p n b → is_parent p n (channel_at p b).sender ≡ true
unfolding parents
enters_parent p n b (h, q) =
    let s = (channel_at p b).sender in
    any_by (λ (x : ℕ). eqb x s) (in_map (λ (c : ℕ). (channel_at p c).sender) (in_entering p n b h q)) (eq-eqb s s refl)

module _ (l : Line) (sound : Sound l) (b : ℕ) {who : ℕ} (p : Passed l who (take b)) (can : CanTake l b) where
  abbrev s : Standing l
  s = sound.standing

  abbrev pub from : ℕ
  from = (channel_at l.plan b).sender

  abbrev pub n : ℕ
  n = (channel_at l.plan b).receiver

  abbrev pub m : Message
  m = can.message

  abbrev was : Lane
  was = lane_at l b

  abbrev pub now : Lane
  now = taken_from (parents l.plan (channel_at l.plan b).sender) can.message can.rest (lane_at l b)

  abbrev pub lanes : List Lane
  lanes = set l.lanes b (taken_from (parents l.plan (channel_at l.plan b).sender) can.message can.rest (lane_at l b))

  ordered : Ordered l.plan
  ordered = ordered_fit l.plan s.plan_fits_lem

  pub inside : n < node_count l.plan
  inside = ordered.inside b can.here

  old : ChannelSound l b
  old = s.channels b can.here

  flow : Flows (lane_at l b)
  flow = old.flows p.right_status

  -- The message is the next, and sound.
  pub next : (was.taken < m.time) × Rises time_of m.time can.rest
  next = rises_first (subst (Rises time_of was.taken) can.first flow.rises)

  last : (m.time ≤ was.mark) × Within time_of was.mark can.rest
  last = within_first time_of (subst (Within time_of was.mark) can.first flow.within)

  in_queue : (x : Message) → In x (m ∷ can.rest) → In x was.queue
  in_queue x i = subst (λ (q : List Message). In x q) (sym can.first) i

  pub taken-message : MessageFits l.plan (accepted_steps l) from m
  taken-message = old.fits.messages m (in_queue m here)

  -- The channel after the Take.
  taken_fits : LaneFits l.plan (accepted_steps l) b now
  unfolding taken_from low_wrong
  taken_fits =
      let f = old.fits in
      let ps = parents l.plan from in
      record {
        heard_long = raise_long ps was.heard m.origin ∙ f.heard_long;
        low_long = f.low_long;
        low_below = clock_rises was.low ps was.heard was.taken m.time m.origin f.low_below;
        few = (let long = ap length can.first in omega (arith, f.few));
        messages = λ x i. f.messages x (in_queue x (there i));
        mark = f.mark;
        taken = omega (arith, f.taken, taken-message.within);
        heard = raise_within ps was.heard m.origin (accepted_steps l) f.heard (λ t i. (fits_times l.plan (accepted_steps l) from m.origin taken-message.origin t i).1);
      }

  taken_flows : Flows now
  unfolding taken_from
  taken_flows =
      let (low, rising) = next in
      let (high, ending) = last in
      record { marked = omega (arith, flow.marked); rises = subst (λ (t : ℕ). Rises time_of t can.rest) (greater low) rising; within = ending }
    where
      greater : was.taken < m.time → m.time ≡ max was.taken m.time
      greater h = omega arith

  -- The clock covers what it did, and the message.
  raised_here : (o before : Origin) → Covers l.plan b was o before → Covers l.plan b now o before
  unfolding taken_from
  raised_here fed before f = tt
  raised_here (made a t) before f =
      λ q.
      (let (x, y) = f q in
      (omega arith, subst (λ (z : ℕ). past_heard (parents l.plan a) (raise_heard (parents l.plan z) was.heard m.origin) before ≡ false) (sym q) (raise_keeps (parents l.plan a) was.heard m.origin before y)))

  covers_here : Covers l.plan b now (made from m.time) m.origin
  unfolding taken_from
  covers_here q = (omega arith, raise_covers (parents l.plan from) was.heard m.origin)

  -- The sender is neither down nor replaying, and a replaying node's channels are others.
  pub not_silent : (k : ℕ) → (node_at l k).status ≢ up → from ≢ k
  not_silent k d z = elim (up_or_replay (node_at l from).status can.sender) [
    | inl q ↦ d (ap (λ (x : ℕ). (node_at l x).status) (sym z) ∙ q)
    | inr q ↦ empty_not (sym (old.silent q) ∙ can.first)
  ]

  module _ (steps : List ℕ) (nodes : List Node) where
    abbrev k : Line
    k = moved l steps nodes (set l.lanes b (taken_from (parents l.plan (channel_at l.plan b).sender) can.message can.rest (lane_at l b)))

    pub lane_now : lane_at k b ≡ now
    unfolding with_lane
    lane_now = lane_there b now l (rw s.shape.lanes_long can.here)

    pub lane-beside : (c : ℕ) → c ≢ b → lane_at k c ≡ lane_at l c
    unfolding with_lane
    lane-beside = lane_else b now l

    pub raised : (c : ℕ) → c < channel_count l.plan → (o before : Origin) → Covers l.plan c (lane_at l c) o before → Covers l.plan c (lane_at k c) o before
    raised c h o before f = elim (ℕ_discrete c b) [
      | yes q ↦ subst (λ (x : ℕ). Covers l.plan x (lane_at k x) o before) (sym q) (rw lane_now (raised_here o before (subst (λ (x : ℕ). Covers l.plan x (lane_at l x) o before) q f)))
      | no d ↦ subst (λ (x : Lane). Covers l.plan c x o before) (sym (lane-beside c d)) f
    ]

    pub own : (c : ℕ) → Enters l.plan n c → Covers l.plan c (lane_at k c) (made from m.time) m.origin
    own c (h, q) z = elim (ℕ_discrete c b) [
      | yes e ↦ subst (λ (x : ℕ). Covers l.plan x (lane_at k x) (made from m.time) m.origin) (sym e) (rw lane_now covers_here) z
      | no d ↦ absurd (d (ordered.alone c b h can.here z q))
    ]

    pub lows : (j : ℕ) → (node_at l j).status ≢ up → (c : ℕ) → Leaves l.plan j c → (lane_at k c).low ≡ (lane_at l c).low
    lows j q c (h, e) = ap (λ (x : Lane). x.low) (lane-beside c (λ z. not_silent j q (ap (λ (x : ℕ). (channel_at l.plan x).sender) (sym z) ∙ e)))

    pub entries : (j : ℕ) → (node_at l j).status ≢ up → (c : ℕ) → Leaves l.plan j c → (lane_at k c).taken ≡ (lane_at l c).taken
    entries j q c (h, e) = ap (λ (x : Lane). x.taken) (lane-beside c (λ z. not_silent j q (ap (λ (x : ℕ). (channel_at l.plan x).sender) (sym z) ∙ e)))

    module _ (later : accepted_steps l ≤ sum_of steps) (status : (j : ℕ) → (node_at k j).status ≡ (node_at l j).status) (mark : (j : ℕ) → (node_at k j).crashed ≡ (node_at l j).crashed) where
      taken-channel : ChannelSound k b
      taken-channel =
          record {
            fits = rw lane_now (lane-later l.plan later b now taken_fits);
            flows = λ q. rw lane_now taken_flows;
            apart = λ q. mark n ∙ old.apart (sym (mark from) ∙ q);
            stopped = λ q. absurd (true≢false (sym q ∙ ends_same l steps nodes lanes later b (status from) (status n) ∙ p.right_status));
            cleared = λ q. absurd (can.receiver (sym (status n) ∙ q));
            silent = λ q. absurd (not_silent from (λ z. up_not_replay (sym z ∙ sym (status from) ∙ q)) refl);
          }

      pub channels : (c : ℕ) → c < channel_count l.plan → ChannelSound k c
      channels c h = elim (ℕ_discrete c b) [
        | yes q ↦ subst (ChannelSound k) (sym q) taken-channel
        | no d ↦ (let f = (channel_at l.plan c).sender in let t = (channel_at l.plan c).receiver in channel_stays l steps nodes lanes later c (status f) (status t) (mark f) (mark t) (lane-beside c d) (s.channels c h))
      ]

  -- What the receiver makes of the message.
  pub taken-entry : (steps : ℕ) → accepted_steps l ≤ steps → (t chosen : ℕ) → EntryFits l.plan steps n (record { what = made_by l n m.what; time = t; origin = made from m.time; before = m.origin; set = chosen })
  taken-entry steps later t chosen =
      record {
        limits = made_within l.plan s.plan_fits_lem n m.what taken-message.limits;
        origin = (enters_parent l.plan n b (can.here, refl), no_source l.plan b can.here, taken-message.later, omega (arith, taken-message.within));
        before = origin-later l.plan later from m.origin taken-message.origin;
      }

  module _ (stands_up : (node_at l (channel_at l.plan b).receiver).status ≡ up) where
    room : length (node_at l n).log < log_limit
    unfolding take_lacks
    room =
        leb-false log_limit (length (node_at l n).log)
        (sym (ap (λ (x : Status). cond (is_replay x) (to_hold l n (first_record was.queue) && leb held_limit (length (node_at l n).held)) (leb log_limit (length (node_at l n).log))) stands_up) ∙ p.space)

    -- No source takes: an entry that may not repeat has a time of its own.
    once_timed : (r : Record) → may_repeat l.plan n r ≡ false → timed l.plan n r ≡ true
    unfolding may_repeat
    once_timed r e = not-false (timed l.plan n r) (sym (ap (λ (t : Bool). not t && not (timed l.plan n r)) (no_source l.plan b can.here)) ∙ e)

    taken_sound : Sound (counted who (taken_up b m (taken_lane b m can.rest l)))
    unfolding counted taken_up taken_lane with_node with_lane
    taken_sound =
        let what = made_by l n m.what in
        let at : ℕ = time_for l.plan n (made_by l n m.what) (node_at l n).time in
        let on : (node_at l n).time ≤ at = time_later l.plan n (made_by l n m.what) (node_at l n).time in
        let far : at ≤ suc (node_at l n).time = time_near l.plan n (made_by l n m.what) (node_at l n).time in
        let late : may_repeat l.plan n (made_by l n m.what) ≡ false → (node_at l n).time < at = λ q. timed_late l.plan n (made_by l n m.what) (node_at l n).time (once_timed (made_by l n m.what) q) in
        let new = taken-entry (suc (accepted_steps l)) (omega arith) at (set_of l.plan n what) in
        let counts = sound.standing.counts in
        let fits = more_fit counts p.console p.steps_left in
        let rise = counts_rise counts p.console p.steps_left in
        let origin : Origin = made from m.time in
        let steps = one_more who l.steps in
        let nodes = (after l sound fits rise n inside stands_up room at on far what late (set_of l.plan n what) refl origin m.origin new lanes).nodes in
        log_sound l sound fits rise n inside stands_up room at on far what late (set_of l.plan n what) refl origin m.origin new lanes (length-set l.lanes b now) (raised steps nodes) (own steps nodes)
        (channels steps nodes (omega (arith, rise)) (status_same l sound fits rise n inside stands_up room at on far what late (set_of l.plan n what) refl origin m.origin new lanes) (mark_same l sound fits rise n inside stands_up room at on far what late (set_of l.plan n what) refl origin m.origin new lanes))
        (entries steps nodes) (λ j q. triple_else j from m.time m.origin (not_silent j q)) (lows steps nodes)

    taken_is : effect l (take b) ≡ some (taken_up b m (taken_lane b m can.rest l))
    unfolding effect taken_line
    taken_is = ap (λ (q : List Message). taken_first b q l) can.first ∙ first_up b m can.rest l (ap is_replay stands_up)

    pub take_up_sound : (k : Line) → effect l (take b) ≡ some k → Sound (counted who k)
    take_up_sound k e = subst (λ (x : Line). Sound (counted who x)) (some_same (sym taken_is ∙ e)) taken_sound
