-- A channel is damaged exactly if it is not right item by item.
use Prim.Native.Nat.{ℕ, ◌<◌, ◌≤◌}
use mathlib.Core.Path.{◌≡◌, refl, sym, ap, ◌∙◌}
use mathlib.Core.Bool.{Bool, true, false, not, ◌&&◌, ◌||◌, true≢false}
use mathlib.Core.List.{List, [], ◌∷◌, map}
use native.Mathlib.Omega.{arith}
use lib.ListN.{length}
use lib.Dec.{leb, ltb, eqb}
use borrow.Author.Tests.{leb-true, le-ltb, ne_eqb, not-true, not-false}
use Rattle.basics.specs.Bools.{both_true, neither_true}
use Rattle.rules.specs.Lists.{is_empty, all_of, any_of}
use Rattle.rules.specs.Line.{queue_limit, Message, Lane, Line, lane_at, sender_of, receiver_of, accepted_steps}
use Rattle.rules.specs.Step.{node_down, end_down, replaying}
use Rattle.rules.specs.Damaged.{record_past_limits, channel_past_limits, not_parent, channel_wrong_parent, origin_times, channel_named_times, channel_other_times, channel_time_past, channel_time_zero, origin_wrong, channel_maker_wrong, rises_to, queue_wrong, marks_joined, channel_holds, low_wrong, channel_damaged}
use Rattle.rules.proofs.Lists.Members.{In, in_none, none_any, all_in}
use Rattle.items.specs.Items.{record_right, named_right, times_rise, message_right, clock_right, queue_right, channel_right}
use Rattle.items.proofs.Tests.{opposite, not_above, above, all_true, all_false, false_all, each_all, each_none, any_opposite, any_append, any_joined}
use Rattle.items.proofs.Origins.{Named, named_right_lem, right_named}
use Rattle.items.proofs.Rises.{rise_same, rise_within}

-- ---- the conditions with several parts

abbrev times_in : Message → List ℕ
times_in m = m.time ∷ origin_times m.origin

module _ (steps : ℕ) (s : Lane) where
  clock_is : any_of (ltb steps) (channel_other_times s) ≡ not (clock_right steps s)
  unfolding clock_right
  clock_is =
      rw (not_above s.mark steps, not_above s.taken steps, any_opposite (ltb steps) (λ (t : ℕ). leb t steps) s.heard (λ t i. above t steps))
      (one (ltb steps s.mark) (ltb steps s.taken) (all_of (λ (t : ℕ). leb t steps) s.heard))
    where
      one : (a b c : Bool) → (a || (b || not c)) ≡ not (not a && not b && c)
      one true b c = refl
      one false true c = refl
      one false false c = refl

  past_is : channel_time_past steps s ≡ (any_of (λ (m : Message). any_of (ltb steps) (times_in m)) s.queue || not (clock_right steps s))
  unfolding channel_time_past
  past_is = any_append (ltb steps) (channel_named_times s) (channel_other_times s) ∙ rw (any_joined (ltb steps) times_in s.queue, clock_is)

zero_is : (s : Lane) → channel_time_zero s ≡ any_of (λ (m : Message). any_of (eqb 0) (times_in m)) s.queue
unfolding channel_time_zero
zero_is s = any_joined (eqb 0) times_in s.queue

module _ (l : Line) (b : ℕ) where
  abbrev s : Lane
  s = lane_at l b

  abbrev queue_rises : Bool
  queue_rises = end_down l b || (leb s.taken s.mark && times_rise (λ (m : Message). m.time) s.taken s.mark s.queue)

  queue_is : queue_wrong l b ≡ not queue_rises
  unfolding queue_wrong
  queue_is =
      rw (not_above s.taken s.mark, rise_same (λ (m : Message). m.time) s.taken s.mark s.queue)
      (one (end_down l b) (ltb s.mark s.taken) (rises_to s.taken s.mark (map (λ (m : Message). m.time) s.queue)))
    where
      one : (d p r : Bool) → (not d && (p || not r)) ≡ not (d || (not p && r))
      one true p r = refl
      one false true r = refl
      one false false r = refl

  -- With an end down nothing is on the channel.
  down_empty : channel_holds l b ≡ false → end_down l b ≡ true → is_empty s.queue ≡ true
  unfolding channel_holds
  down_empty h e =
      let (first, _) = all_false (end_down l b && not (eqb s.mark 0 && is_empty s.queue)) ((node_down l (receiver_of l b) && any_of (ltb 0) (s.taken ∷ s.heard)) ∷ (replaying l (sender_of l b) && not (is_empty s.queue)) ∷ []) h in
      (both_true (eqb s.mark 0) (is_empty s.queue) (not-false (eqb s.mark 0 && is_empty s.queue) (ap (λ (t : Bool). t && not (eqb s.mark 0 && is_empty s.queue)) (sym e) ∙ first))).1

  -- ---- a message

  record Sent (m : Message) : Type 0 where
    fits : record_past_limits m.what ≡ false
    named : Named l (sender_of l b) m.origin

  sent_right : (m : Message) → Sent m → message_right l b m ≡ true
  unfolding message_right
  sent_right m c = rw (not-false (record_right m.what) c.fits, named_right_lem l (sender_of l b) m.origin c.named)

  right_sent : (m : Message) → message_right l b m ≡ true → Sent m
  unfolding message_right
  right_sent m r =
      let (fits, named) = both_true (record_right m.what) (named_right l (sender_of l b) m.origin) r in
      record { fits = ap not fits; named = right_named l (sender_of l b) m.origin named }

  -- ---- the channel: between its conditions and its items

  record Sound : Type 0 where
    clock : clock_right (accepted_steps l) s ≡ true
    count : leb (length s.queue) queue_limit ≡ true
    sent : (m : Message) → In m s.queue → Sent m
    queue_rises_lem : queue_rises ≡ true
    apart : marks_joined l b ≡ false
    holds : channel_holds l b ≡ false
    low : low_wrong s ≡ false

  sound_right : Sound → channel_right l b ≡ true
  unfolding channel_right queue_right
  sound_right c = rw (c.clock, c.count, each_all (message_right l b) s.queue (λ m i. sent_right m (c.sent m i)), c.queue_rises_lem, c.apart, c.holds, c.low)

  right_sound : channel_right l b ≡ true → Sound
  unfolding channel_right queue_right
  right_sound e =
      let (clock, (queue, (apart, (holds, low)))) = all_true (clock_right (accepted_steps l) s) (queue_right l b s.queue ∷ not (marks_joined l b) ∷ not (channel_holds l b) ∷ not (low_wrong s) ∷ []) e in
      let (count, (messages, queue_rises_lem)) = all_true (leb (length s.queue) queue_limit) (all_of (message_right l b) s.queue ∷ queue_rises ∷ []) queue in
      record {
        clock = clock;
        count = count;
        sent = λ m i. right_sent m (all_in (message_right l b) messages i);
        queue_rises_lem = queue_rises_lem;
        apart = not-true (marks_joined l b) apart;
        holds = not-true (channel_holds l b) holds;
        low = not-true (low_wrong s) low;
      }

  -- The conditions on a message, and those that stand beside its record's.
  abbrev wrong_parent : Message → Bool
  wrong_parent m = not_parent l.plan (sender_of l b) m.origin

  abbrev late : Message → Bool
  late m = any_of (ltb (accepted_steps l)) (times_in m)

  abbrev nought : Message → Bool
  nought m = any_of (eqb 0) (times_in m)

  abbrev wrong_maker : Message → Bool
  wrong_maker m = origin_wrong l.plan (sender_of l b) m.origin

  abbrev past_limits : Message → Bool
  past_limits m = record_past_limits m.what

  abbrev others : List Bool
  others = channel_wrong_parent l.plan b s ∷ channel_time_past (accepted_steps l) s ∷ channel_time_zero s ∷ channel_maker_wrong l.plan b s ∷ queue_wrong l b ∷ marks_joined l b ∷ channel_holds l b ∷ low_wrong s ∷ []

  clean_sound : channel_damaged l b ≡ false → Sound
  unfolding channel_damaged channel_past_limits channel_wrong_parent channel_maker_wrong
  clean_sound e =
      let (limits, (parents, (past, (noughts, (makers, (queue, (apart, (holds, low)))))))) = all_false (channel_past_limits s) others e in
      let (count, records) = neither_true (ltb queue_limit (length s.queue)) (any_of past_limits s.queue) limits in
      let (lates, clock) = neither_true (any_of late s.queue) (not (clock_right (accepted_steps l) s)) (sym (past_is (accepted_steps l) s) ∙ past) in
      record {
        clock = not-false (clock_right (accepted_steps l) s) clock;
        count = not_above (length s.queue) queue_limit ∙ ap not count;
        sent = λ m i. record {
          fits = none_any past_limits records i;
          named = record {
            parent = none_any wrong_parent parents i;
            past = (neither_true (ltb (accepted_steps l) m.time) (any_of (ltb (accepted_steps l)) (origin_times m.origin)) (none_any late lates i)).1;
            nought = (neither_true (eqb 0 m.time) (any_of (eqb 0) (origin_times m.origin)) (none_any nought (sym (zero_is s) ∙ noughts) i)).1;
            maker = none_any wrong_maker makers i;
          };
        };
        queue_rises_lem = not-false queue_rises (sym queue_is ∙ queue);
        apart = apart;
        holds = holds;
        low = low;
      }

  mark-within : Sound → s.mark ≤ accepted_steps l
  unfolding clock_right
  mark-within c = leb-true s.mark (accepted_steps l) (all_true (leb s.mark (accepted_steps l)) (leb s.taken (accepted_steps l) ∷ all_of (λ (t : ℕ). leb t (accepted_steps l)) s.heard ∷ []) c.clock).0

  -- A message's time is within the steps and not 0.
  sent_when : Sound → (m : Message) → In m s.queue → (0 < m.time) × (m.time ≤ accepted_steps l)
  sent_when c m i = one (end_down l b) refl c.queue_rises_lem
    where
      no_messages : (q : List Message) → is_empty q ≡ true → In m q → ⊥
      no_messages [] e j = in_none j
      no_messages (x ∷ q) e j = true≢false (sym e)

      one : (d : Bool) → end_down l b ≡ d → (d || (leb s.taken s.mark && times_rise (λ (m : Message). m.time) s.taken s.mark s.queue)) ≡ true → (0 < m.time) × (m.time ≤ accepted_steps l)
      one true e k = absurd (no_messages s.queue (down_empty c.holds e) i)
      one false e k =
          let (later, inside) = rise_within (λ (m : Message). m.time) s.taken s.mark (both_true (leb s.taken s.mark) (times_rise (λ (m : Message). m.time) s.taken s.mark s.queue) k).1 i in
          omega (arith, mark-within c)

  sound_clean : Sound → channel_damaged l b ≡ false
  unfolding channel_damaged channel_past_limits channel_wrong_parent channel_maker_wrong
  sound_clean c =
      let when : (m : Message) → In m s.queue → (0 < m.time) × (m.time ≤ accepted_steps l) = sent_when c in
      let lates = each_none late s.queue (λ m i. rw (le-ltb (accepted_steps l) m.time (when m i).1, (c.sent m i).named.past)) in
      let records = each_none past_limits s.queue (λ m i. (c.sent m i).fits) in
      let limits : channel_past_limits s ≡ false = rw (le-ltb queue_limit (length s.queue) (leb-true (length s.queue) queue_limit c.count), records) in
      let parents = each_none wrong_parent s.queue (λ m i. (c.sent m i).named.parent) in
      let past : channel_time_past (accepted_steps l) s ≡ false = past_is (accepted_steps l) s ∙ rw (lates, c.clock) in
      let noughts = zero_is s ∙ each_none nought s.queue (λ m i. rw (ne_eqb 0 m.time (λ q. omega (arith, when m i)), (c.sent m i).named.nought)) in
      let makers = each_none wrong_maker s.queue (λ m i. (c.sent m i).named.maker) in
      let queue = queue_is ∙ ap not c.queue_rises_lem in
      false_all (channel_past_limits s) others (limits, (parents, (past, (noughts, (makers, (queue, (c.apart, (c.holds, c.low))))))))

  pub channel_items : channel_damaged l b ≡ not (channel_right l b)
  channel_items = opposite (channel_damaged l b) (channel_right l b) (λ e. sound_right (clean_sound e)) (λ e. sound_clean (right_sound e))
