-- The conditions of Damaged that are of a channel, and the facts of which they are the failure.
use Prim.Native.Nat.{ℕ, suc, ◌<◌, ◌≤◌}
use mathlib.Core.Path.{◌≡◌, ap, subst}
use mathlib.Core.Logic.{inl, inr}
use mathlib.Core.Bool.{true, false, not, ◌&&◌, ◌||◌}
use mathlib.Core.List.{List, [], ◌∷◌, ◌++◌, map}
use native.Mathlib.Omega.{arith}
use lib.ListN.{length}
use lib.Dec.{ltb, eqb}
use borrow.Author.Tests.{ltb-false, le-ltb, eqb-true, eqb-false, ne_eqb, not-true, not-false}
use Rattle.basics.specs.Bools.{both_true, neither_true}
use Rattle.plan.specs.Plan.{Plan, channel_at}
use Rattle.rules.specs.Lists.{is_empty, any_of}
use Rattle.rules.specs.Line.{queue_limit, Message, down, replay, Lane, Line, node_at, lane_at, parents, sender_of, receiver_of, is_down, is_replay, accepted_steps}
use Rattle.rules.specs.Step.{end_down, node_down, replaying}
use Rattle.rules.specs.Damaged.{record_past_limits, channel_past_limits, not_parent, channel_wrong_parent, origin_times, channel_named_times, channel_other_times, channel_time_past, channel_time_zero, origin_wrong, channel_maker_wrong, rises_to, queue_wrong, marks_joined, channel_holds, low_wrong, channel_damaged}
use Rattle.rules.proofs.Theorem.Accepted.{is_down_lem}
use Rattle.rules.proofs.Lists.Members.{In, here, there, in_first, in_left, in_right, append_in, in_map, map_in, in_joined, joined_in, none_any}
use Rattle.rules.proofs.Invariant.Inv.{time_of}
use Rattle.rules.proofs.Lists.ListLaws.{empty_none}
use Rattle.rules.proofs.Undamaged.TestLaws.{is_replay_lem, none_by, all_false, unless, by_unless, to_of, of_to}
use Rattle.rules.proofs.Undamaged.Standing.{LaneFits, Flows, ChannelSound}
use Rattle.rules.proofs.Undamaged.UndamagedNode.{origin_fits, fits_parent, fits_maker, fits_times}

-- A channel by itself.
abbrev message_times : Message → List ℕ
message_times m = m.time ∷ origin_times m.origin

module _ (p : Plan) (steps b : ℕ) (s : Lane) where
  abbrev sender : ℕ
  sender = (channel_at p b).sender

  few_messages : channel_past_limits s ≡ false → (length s.queue ≤ queue_limit) × ((m : Message) → In m s.queue → record_past_limits m.what ≡ false)
  unfolding channel_past_limits
  few_messages e =
      let (a, c) = neither_true (ltb queue_limit (length s.queue)) (any_of (λ (m : Message). record_past_limits m.what) s.queue) e in
      (ltb-false queue_limit (length s.queue) a, λ m i. none_any (λ (m : Message). record_past_limits m.what) c i)

  message-parents : channel_wrong_parent p b s ≡ false → (m : Message) → In m s.queue → not_parent p sender m.origin ≡ false
  unfolding channel_wrong_parent
  message-parents e m i = none_any (λ (m : Message). not_parent p sender m.origin) e i

  lane_times : channel_time_past steps s ≡ false → (t : ℕ) → In t (channel_named_times s ++ channel_other_times s) → t ≤ steps
  unfolding channel_time_past
  lane_times e t i = ltb-false steps t (none_any (ltb steps) e i)

  lane_above : channel_time_zero s ≡ false → (t : ℕ) → In t (channel_named_times s) → 0 < t
  unfolding channel_time_zero
  lane_above e t i = let d = eqb-false 0 t (none_any (eqb 0) e i) in omega arith

  message_makers : channel_maker_wrong p b s ≡ false → (m : Message) → In m s.queue → origin_wrong p sender m.origin ≡ false
  unfolding channel_maker_wrong
  message_makers e m i = none_any (λ (m : Message). origin_wrong p sender m.origin) e i

  lane_fits : length s.heard ≡ length (parents p sender) → length s.low ≡ suc (length (parents p sender)) → low_wrong s ≡ false → channel_past_limits s ≡ false → channel_wrong_parent p b s ≡ false → channel_time_past steps s ≡ false → channel_time_zero s ≡ false → channel_maker_wrong p b s ≡ false → LaneFits p steps b s
  lane_fits long lows_long below few parent past zeros maker =
      let (a, limits) = few_messages few in
      let other : (t : ℕ) → In t (channel_other_times s) → t ≤ steps = λ t i. lane_times past t (in_right (channel_named_times s) i) in
      let named : (m : Message) → In m s.queue → (t : ℕ) → In t (message_times m) → (0 < t) × (t ≤ steps) =
      λ m i t j. (let k : In t (channel_named_times s) = in_joined j (in_map message_times i) in (lane_above zeros t k, lane_times past t (in_left (channel_other_times s) k))) in
      record {
        heard_long = long;
        low_long = lows_long;
        low_below = below;
        few = a;
        messages = λ m i. record {
          limits = limits m i;
          origin = origin_fits p steps sender m.origin (message-parents parent m i) (message_makers maker m i) (λ t j. named m i t (there j));
          later = (named m i m.time here).0;
          within = (named m i m.time here).1;
        };
        mark = other s.mark here;
        taken = other s.taken (there here);
        heard = λ t i. other t (there (there i));
      }

  module _ (f : LaneFits p steps b s) where
    messages_few : channel_past_limits s ≡ false
    unfolding channel_past_limits
    messages_few = rw (le-ltb queue_limit (length s.queue) f.few) (none_by (λ (m : Message). record_past_limits m.what) s.queue (λ m i. (f.messages m i).limits))

    parents_right : channel_wrong_parent p b s ≡ false
    unfolding channel_wrong_parent
    parents_right = none_by (λ (m : Message). not_parent p sender m.origin) s.queue (λ m i. fits_parent p steps sender m.origin (f.messages m i).origin)

    makers_right : channel_maker_wrong p b s ≡ false
    unfolding channel_maker_wrong
    makers_right = none_by (λ (m : Message). origin_wrong p sender m.origin) s.queue (λ m i. fits_maker p steps sender m.origin (f.messages m i).origin)

    lane-named : (t : ℕ) → In t (channel_named_times s) → (0 < t) × (t ≤ steps)
    lane-named t i =
        let (ns, j, k) = joined_in (map message_times s.queue) i in
        let (m, a, q) = map_in message_times s.queue j in
        let g = f.messages m a in
        elim (in_first (subst (λ (z : List ℕ). In t z) q k)) [
          | inl e ↦ (omega (arith, g.later), omega (arith, g.within))
          | inr h ↦ fits_times p steps sender m.origin g.origin t h
        ]

    lane_other : (t : ℕ) → In t (channel_other_times s) → t ≤ steps
    lane_other t i = elim (in_first i) [
      | inl e ↦ omega (arith, f.mark)
      | inr j ↦ elim (in_first j) [ inl e ↦ omega (arith, f.taken) | inr k ↦ f.heard t k ]
    ]

    lane-within : channel_time_past steps s ≡ false
    unfolding channel_time_past
    lane-within = none_by (ltb steps) (channel_named_times s ++ channel_other_times s) (λ t i. le-ltb steps t (elim (append_in (channel_named_times s) i) [ inl j ↦ (lane-named t j).1 | inr j ↦ lane_other t j ]))

    lane_nonzero : channel_time_zero s ≡ false
    unfolding channel_time_zero
    lane_nonzero = none_by (eqb 0) (channel_named_times s) (λ t i. ne_eqb 0 t (λ q. (let h = (lane-named t i).0 in omega arith)))

-- A channel with its ends.
module _ (l : Line) (b : ℕ) where
  abbrev lane : Lane
  lane = lane_at l b

  flows_of : queue_wrong l b ≡ false → end_down l b ≡ false → Flows (lane_at l b)
  unfolding queue_wrong
  flows_of e q =
      let right = rises_to lane.taken lane.mark (map time_of lane.queue) in
      let (a, c) = neither_true (ltb lane.mark lane.taken) (not right) (unless (not (end_down l b)) (ltb lane.mark lane.taken || not right) e (ap not q)) in
      let (r, w) = to_of time_of lane.taken lane.mark lane.queue (not-false right c) in
      record { marked = ltb-false lane.mark lane.taken a; rises = r; within = w }

  of_flows : (end_down l b ≡ false → Flows (lane_at l b)) → queue_wrong l b ≡ false
  unfolding queue_wrong
  of_flows f =
      by_unless (not (end_down l b)) (ltb lane.mark lane.taken || not (rises_to lane.taken lane.mark (map time_of lane.queue)))
      (λ q. (let g = f (not-true (end_down l b) q) in rw (le-ltb lane.mark lane.taken g.marked, of_to time_of g.rises g.within)))

  apart_of : marks_joined l b ≡ false → (node_at l (sender_of l b)).crashed ≡ true → (node_at l (receiver_of l b)).crashed ≡ false
  unfolding marks_joined
  apart_of e q = unless (node_at l (sender_of l b)).crashed (node_at l (receiver_of l b)).crashed e q

  of-apart : ((node_at l (sender_of l b)).crashed ≡ true → (node_at l (receiver_of l b)).crashed ≡ false) → marks_joined l b ≡ false
  unfolding marks_joined
  of-apart f = by_unless (node_at l (sender_of l b)).crashed (node_at l (receiver_of l b)).crashed f

  abbrev Rests : Type 0
  Rests =
      (end_down l b ≡ true → ((lane_at l b).mark ≡ 0) × ((lane_at l b).queue ≡ []))
      × ((node_at l (receiver_of l b)).status ≡ down → (t : ℕ) → In t ((lane_at l b).taken ∷ (lane_at l b).heard) → t ≡ 0)
      × ((node_at l (sender_of l b)).status ≡ replay → (lane_at l b).queue ≡ [])

  rests-of : channel_holds l b ≡ false → Rests
  unfolding channel_holds
  rests-of e =
      let clean = eqb lane.mark 0 && is_empty lane.queue in
      let heard : List ℕ = lane.taken ∷ lane.heard in
      let (a, (c, (d, _))) = all_false (end_down l b && not clean) ((node_down l (receiver_of l b) && any_of (ltb 0) heard) ∷ (replaying l (sender_of l b) && not (is_empty lane.queue)) ∷ []) e in (
        λ q.
            (let (x, y) = both_true (eqb lane.mark 0) (is_empty lane.queue) (not-false clean (unless (end_down l b) (not clean) a q)) in
            (eqb-true lane.mark 0 x, empty_none lane.queue y)),
        λ q t i. (let z = ltb-false 0 t (none_any (ltb 0) (unless (node_down l (receiver_of l b)) (any_of (ltb 0) heard) c (ap is_down q)) i) in omega arith),
        λ q. empty_none lane.queue (not-false (is_empty lane.queue) (unless (replaying l (sender_of l b)) (not (is_empty lane.queue)) d (ap is_replay q))),
      )

  of-rests : Rests → channel_holds l b ≡ false
  unfolding channel_holds
  of-rests (f, g, h) =
      rw (
        by_unless (end_down l b) (not (eqb lane.mark 0 && is_empty lane.queue)) (λ q. rw ((f q).0, (f q).1)),
        by_unless (node_down l (receiver_of l b)) (any_of (ltb 0) (lane.taken ∷ lane.heard)) (λ q. none_by (ltb 0) (lane.taken ∷ lane.heard) (λ t i. (let z = g (is_down_lem (node_at l (receiver_of l b)).status q) t i in le-ltb 0 t (omega arith)))),
        by_unless (replaying l (sender_of l b)) (not (is_empty lane.queue)) (λ q. rw (h (is_replay_lem (node_at l (sender_of l b)).status q))),
      )

  pub channel_sound : length (lane_at l b).heard ≡ length (parents l.plan (sender_of l b)) → length (lane_at l b).low ≡ suc (length (parents l.plan (sender_of l b))) → channel_damaged l b ≡ false → ChannelSound l b
  unfolding channel_damaged
  channel_sound long lows_long e =
      let p = l.plan in
      let (few, (parent, (past, (zeros, (maker, (flow, (joins, (hold, (below, _))))))))) =
      all_false (channel_past_limits lane) (channel_wrong_parent p b lane ∷ channel_time_past (accepted_steps l) lane ∷ channel_time_zero lane ∷ channel_maker_wrong p b lane ∷ queue_wrong l b ∷ marks_joined l b ∷ channel_holds l b ∷ low_wrong lane ∷ []) e in
      let (stop, clear, quiet) = rests-of hold in
      record { fits = lane_fits p (accepted_steps l) b lane long lows_long below few parent past zeros maker; flows = flows_of flow; apart = apart_of joins; stopped = stop; cleared = clear; silent = quiet }

  pub sound_channel : ChannelSound l b → channel_damaged l b ≡ false
  unfolding channel_damaged
  sound_channel f =
      let p = l.plan in
      rw (
        messages_few p (accepted_steps l) b lane f.fits,
        parents_right p (accepted_steps l) b lane f.fits,
        lane-within p (accepted_steps l) b lane f.fits,
        lane_nonzero p (accepted_steps l) b lane f.fits,
        makers_right p (accepted_steps l) b lane f.fits,
        of_flows f.flows,
        of-apart f.apart,
        of-rests (f.stopped, f.cleared, f.silent),
        f.fits.low_below,
      )
