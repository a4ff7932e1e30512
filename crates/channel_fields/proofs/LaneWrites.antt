-- A channel's fields written over: the line that the state then holds.
use Prim.Native.Nat.{ℕ, zero, suc, ◌+◌, ◌-◌, ◌*◌, ◌≤◌, ◌<◌, max}
use mathlib.Core.Path.{◌≡◌, refl, sym, ap, subst, ◌∙◌}
use mathlib.Core.List.{List, [], ◌∷◌, ◌++◌}
use native.Mathlib.Nat.{add-zero}
use native.Mathlib.Omega.{arith}
use lib.ListN.{length, get_or, set, take, drop, replicate, length-append, length-drop, length-set, length-replicate}
use Rattle.basics.specs.Put.{put, put-replicate}
use Rattle.plan.specs.Layout.{bytes_of}
use Rattle.plan.specs.Lawful.{Each}
use Rattle.rules.specs.Line.{queue_limit, Message, Lane, lane_at, with_lane}
use Rattle.state.specs.Sizes.{block_at, count_size, taken_at, heard_at, parent_limit, queue_at, message_size, low_at, low_limit, lane_rest_at}
use Rattle.rules.specs.Trim.{with_low}
use Rattle.state.specs.Pieces.{message_layout}
use Rattle.state.specs.Lane.{with_heard, queue_layout}
use Rattle.state.specs.Fits.{TimeFits, MessageFits, LaneFits}
use Rattle.state.specs.State.{line_of}
use Rattle.state.specs.Changes.{with_mark, with_taken, with_queue, nothing_heard, nothing_low, more_queued, first_gone}
use Rattle.state.proofs.ListLaws.{each_append, each_at, each_replicate}
use Rattle.state.proofs.PieceLaws.{message_sound}
use Rattle.state.proofs.Swapped.{swap_in, counts_long, more_put, cleared-put, gone_put}
use Rattle.state.proofs.Written.{lane-mark, lane-taken, lane-heard_at, lane_heard_none, lane_queue, lane-low_at, lane_low_none, low_bytes_long, heard_long}
use Rattle.buffer.specs.Holds.{Holds, AtLane, LaneNow}
use Rattle.slots.specs.List.{count_in}
use Rattle.buffer.proofs.HoldsLaws.{lane_same, lane_fits, lane_queue_counted, lane_over, lane-holds, lane-put, lane_now}
use Rattle.channel_fields.specs.Raised.{taken_to, heard_to, low_to}

-- Nothing is written.
pub lane_kept : (s : List ℕ) (b : ℕ) → AtLane s b → (x : Lane) → x ≡ lane_at (line_of s) b → Holds s (with_lane b x (line_of s))
lane_kept s b at x e = subst (Holds s) (sym (ap (λ (y : Lane). with_lane b y (line_of s)) e ∙ lane_same b (line_of s))) at.holds

each_set : (P : ℕ → Type 0) (xs : List ℕ) (i x : ℕ) → Each P xs → P x → Each P (set xs i x)
each_set P [] i x h p = tt
each_set P (y ∷ xs) zero x h p = (p, h.1)
each_set P (y ∷ xs) (suc i) x h p = (h.0, each_set P xs i x h.1 p)

each_behind : {A : Type 0} (P : A → Type 0) (xs : List A) → Each P xs → Each P (drop 1 xs)
each_behind P [] h = tt
each_behind P (x ∷ xs) h = h.1

module _ (s t : List ℕ) (b : ℕ) (at : AtLane s b) where
  abbrev on : Lane
  on = lane_at (line_of s) b

  abbrev fit : LaneFits on
  fit = lane_fits at

  pub mark-put : (v : ℕ) → TimeFits v → t ≡ put s (block_at b) (bytes_of 4 v) → LaneNow s b (with_mark v) t
  mark-put v h r =
      lane_now (with_mark v) at (lane-put at (with_mark v on) (record { mark = h; taken = fit.taken; heard = fit.heard; queue = fit.queue; low = fit.low }) refl refl (lane-mark on v) (counts_long 4 on.mark v) (block_at b) (sym (add-zero (block_at b))) r)

  pub taken-put : (v : ℕ) → TimeFits v → t ≡ put s (block_at b + taken_at) (bytes_of 4 v) → LaneNow s b (with_taken v) t
  taken-put v h r =
      lane_now (with_taken v) at (lane-put at (with_taken v on) (record { mark = fit.mark; taken = h; heard = fit.heard; queue = fit.queue; low = fit.low }) refl refl (lane-taken on v) (counts_long 4 on.taken v) (block_at b + taken_at) refl r)

  pub heard_put : (i v : ℕ) → i < length on.heard → i < parent_limit → TimeFits v → t ≡ put s (block_at b + heard_at + 4 * i) (bytes_of 4 v) → LaneNow s b (λ x. with_heard (set x.heard i v) x) t
  heard_put i v inside few h r =
      lane_now (λ x. with_heard (set x.heard i v) x) at (lane-put at (with_heard (set on.heard i v) on) (record { mark = fit.mark; taken = fit.taken; heard = each_set TimeFits on.heard i v fit.heard h; queue = fit.queue; low = fit.low })
      (length-set on.heard i v) refl (lane-heard_at on i v inside few) (counts_long 4 (get_or on.heard i 0) v) (block_at b + heard_at + 4 * i) (omega arith) r)

  -- Raised, or as late already.
  pub taken_raised : (v : ℕ) → TimeFits v → t ≡ put s (block_at b + taken_at) (bytes_of 4 (max on.taken v)) → LaneNow s b (taken_to v) t
  taken_raised v h r = let now = taken-put (max on.taken v) (omega (arith, h, fit.taken)) r in record { holds = now.holds; on = now.on }

  pub heard_raised : (i v : ℕ) → i < length on.heard → i < parent_limit → TimeFits v → t ≡ put s (block_at b + heard_at + 4 * i) (bytes_of 4 (max (get_or on.heard i 0) v)) → LaneNow s b (heard_to i v) t
  heard_raised i v inside few h r =
      let now = heard_put i (max (get_or on.heard i 0) v) inside few (omega (arith, h, each_at TimeFits on.heard 0 fit.heard i inside)) r in
      record { holds = now.holds; on = now.on }

  pub heard_cleared : t ≡ take (block_at b + heard_at) s ++ replicate (block_at b + queue_at - (block_at b + heard_at)) 0 ++ drop (block_at b + queue_at) s → LaneNow s b nothing_heard t
  heard_cleared r =
      lane_now nothing_heard at (lane-put at (nothing_heard on) (record { mark = fit.mark; taken = fit.taken; heard = each_replicate TimeFits (length on.heard) 0 (omega arith); queue = fit.queue; low = fit.low })
      (length-replicate (length on.heard) 0) refl (lane_heard_none on) (heard_long on.heard) (block_at b + heard_at) refl (r ∙ put-replicate s (block_at b + heard_at) (block_at b + queue_at) 16 0 (omega arith)))

  -- ---- the low clock

  low_fits : (ks : List ℕ) → Each TimeFits ks → LaneFits (with_low ks on)
  low_fits ks each = record { mark = fit.mark; taken = fit.taken; heard = fit.heard; queue = fit.queue; low = each }

  pub low_raised : (i v : ℕ) → i < length on.low → i < low_limit → TimeFits v → t ≡ put s (block_at b + low_at + 4 * i) (bytes_of 4 (max (get_or on.low i 0) v)) → LaneNow s b (low_to i v) t
  low_raised i v inside few h r =
      let most = max (get_or on.low i 0) v in
      lane_now (low_to i v) at (lane-put at (low_to i v on) (low_fits (set on.low i most) (each_set TimeFits on.low i most fit.low (omega (arith, h, each_at TimeFits on.low 0 fit.low i inside)))) refl
      (length-set on.low i most) (lane-low_at on i most inside few) (counts_long 4 (get_or on.low i 0) most) (block_at b + low_at + 4 * i) (omega arith) r)

  pub low_cleared : t ≡ take (block_at b + low_at) s ++ replicate (block_at b + lane_rest_at - (block_at b + low_at)) 0 ++ drop (block_at b + lane_rest_at) s → LaneNow s b nothing_low t
  low_cleared r =
      lane_now nothing_low at (lane-put at (nothing_low on) (low_fits (replicate (length on.low) 0) (each_replicate TimeFits (length on.low) 0 (omega arith))) refl
      (length-replicate (length on.low) 0) (lane_low_none on) (low_bytes_long on.low) (block_at b + low_at) refl (r ∙ put-replicate s (block_at b + low_at) (block_at b + lane_rest_at) 20 0 (omega arith)))

  -- ---- the queue

  queued : (ms : List Message) → length ms ≤ queue_limit → Each MessageFits ms → LaneFits (with_queue ms on)
  queued ms few each = record { mark = fit.mark; taken = fit.taken; heard = fit.heard; queue = (few, each); low = fit.low }

  pub queue_cleared : t ≡ take (block_at b + queue_at) s ++ replicate (block_at b + queue_at + count_size + message_size * count_in (block_at b + queue_at) s - (block_at b + queue_at)) 0 ++ drop (block_at b + queue_at + count_size + message_size * count_in (block_at b + queue_at) s) s
      → LaneNow s b (with_queue []) t
  unfolding queue_layout
  queue_cleared r =
      let to = block_at b + queue_at + count_size + message_size * count_in (block_at b + queue_at) s in
      let end = ap (λ (k : ℕ). block_at b + queue_at + count_size + message_size * k) (lane_queue_counted at) in
      lane_now (with_queue []) at (lane-holds at (with_queue [] on) (queued [] (omega arith) tt) refl refl
      (r ∙ sym (cleared-put message_sound count_size queue_limit on.queue (swap_in (lane_over at (with_queue [] on)) (lane_queue on [])) fit.queue.0 to end)))

  pub queue_more : (m : Message) → MessageFits m → length on.queue < queue_limit → (u : List ℕ) (next : ℕ) → u ≡ put s (block_at b + queue_at) (bytes_of 4 (count_in (block_at b + queue_at) s + 1))
      → next ≡ block_at b + queue_at + count_size + message_size * count_in (block_at b + queue_at) s → t ≡ put u next (message_layout.write m) → LaneNow s b (more_queued m) t
  unfolding queue_layout
  queue_more m h few u next first place r =
      let ms = on.queue ++ m ∷ [] in
      let counted = lane_queue_counted at in
      lane_now (more_queued m) at (lane-holds at (with_queue ms on) (queued ms (rw length-append (omega arith)) (each_append MessageFits on.queue (m ∷ []) fit.queue.1 (h, tt))) refl refl
      (r ∙ ap (λ (v : List ℕ). put v next (message_layout.write m)) (rw counted at first)
      ∙ sym (more_put message_sound count_size queue_limit on.queue m (swap_in (lane_over at (with_queue ms on)) (lane_queue on ms)) few next (rw counted at place))))

  pub queue_gone : 0 < length on.queue → (u : List ℕ) → u ≡ put s (block_at b + queue_at) (bytes_of 4 (length on.queue - 1))
      → t ≡ put u (block_at b + queue_at + count_size) (take (message_size * (length on.queue - 1)) (drop (block_at b + queue_at + count_size + message_size) u) ++ replicate message_size 0) → LaneNow s b first_gone t
  unfolding queue_layout
  queue_gone some u first r =
      let ms = drop 1 on.queue in
      let long : length ms ≡ length on.queue - 1 = length-drop 1 on.queue in
      lane_now first_gone at (lane-holds at (with_queue ms on) (queued ms (omega (arith, fit.queue.0)) (each_behind MessageFits on.queue fit.queue.1)) refl refl
      (r ∙ sym (rw long at (gone_put message_sound count_size queue_limit on.queue (swap_in (lane_over at (with_queue ms on)) (lane_queue on ms)) some fit.queue.0 u (rw long first)))))
