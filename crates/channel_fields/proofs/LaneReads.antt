-- A channel's fields where they lie in a state.
use Prim.Native.Nat.{ℕ, ◌+◌, ◌*◌, ◌≤◌, ◌<◌}
use mathlib.Core.Path.{◌≡◌, sym, ap, ◌∙◌}
use mathlib.Core.List.{List}
use native.Mathlib.Nat.{add-zero}
use native.Mathlib.Omega.{arith}
use lib.ListN.{length, get_or, take, drop}
use Rattle.plan.specs.Plan.{plan_channels}
use Rattle.rules.specs.Line.{queue_limit, Lane, lane_at}
use Rattle.state.specs.Sizes.{block_at, taken_at, heard_at, parent_limit, queue_at, count_size, message_size, low_at, low_limit}
use Rattle.state.specs.Pieces.{message_layout}
use Rattle.state.specs.State.{line_of}
use Rattle.state.specs.Right.{word_at}
use Rattle.state.proofs.OffsetLaws.{line-mark, line_taken, line-heard_at, line-queue_at, line-low_at}
use Rattle.state.proofs.PlanFitting.{few_heard, heard_long, low_long}
use Rattle.slots.specs.List.{Whole}
use lib.Dec.{lit<}
use Rattle.buffer.specs.Ready.{Ready}
use Rattle.buffer.specs.Holds.{AtLane}
use Rattle.buffer.specs.Nothing.{no_message}
use Rattle.buffer.proofs.ReadyLaws.{counted}
use Rattle.buffer.proofs.HoldsLaws.{lane_fits, lane_queue_counted}

module _ (s : List ℕ) (b : ℕ) (ready : Ready s) (below : b < plan_channels s) where
  pub mark_word : word_at (block_at b) s ≡ (lane_at (line_of s) b).mark
  mark_word = ap (λ (a : ℕ). word_at a s) (sym (add-zero (block_at b))) ∙ sym (line-mark s (counted ready) b below)

  pub taken_word : word_at (block_at b + taken_at) s ≡ (lane_at (line_of s) b).taken
  taken_word = sym (line_taken s (counted ready) b below)

  pub heard_four : length (lane_at (line_of s) b).heard ≤ parent_limit
  heard_four = rw (heard_long s ready.fits b below) (few_heard s ready.fits b below)

  pub heard_word : (i : ℕ) → i < length (lane_at (line_of s) b).heard → word_at (block_at b + heard_at + 4 * i) s ≡ get_or (lane_at (line_of s) b).heard i 0
  heard_word i h =
      let place : block_at b + heard_at + 4 * i ≡ block_at b + (heard_at + 4 * i) = omega arith in
      ap (λ (a : ℕ). word_at a s) place ∙ sym (line-heard_at s (counted ready) b below i (omega (arith, heard_long s ready.fits b below)) (omega (arith, heard_four)))

  pub low_five : length (lane_at (line_of s) b).low ≤ low_limit
  low_five = rw (low_long s ready.fits b below) (omega (arith, few_heard s ready.fits b below))

  pub low_word : (i : ℕ) → i < length (lane_at (line_of s) b).low → word_at (block_at b + low_at + 4 * i) s ≡ get_or (lane_at (line_of s) b).low i 0
  low_word i h =
      let place : block_at b + low_at + 4 * i ≡ block_at b + (low_at + 4 * i) = omega arith in
      ap (λ (a : ℕ). word_at a s) place ∙ sym (line-low_at s (counted ready) b below i (omega (arith, low_long s ready.fits b below)) (omega (arith, low_five)))

module _ (s : List ℕ) (b : ℕ) (at : AtLane s b) where
  abbrev on : Lane
  on = lane_at (line_of s) b

  pub queue_word : word_at (block_at b + queue_at) s ≡ length on.queue
  queue_word = lane_queue_counted at

  pub queue_few : length on.queue ≤ queue_limit
  queue_few = (lane_fits at).queue.0

  pub first_read : 0 < length on.queue → message_layout.read (take message_size (drop (block_at b + (queue_at + count_size)) s)) ≡ get_or on.queue 0 no_message
  first_read h = sym (line-queue_at s (counted at.holds.ready) b at.below 0 no_message (rw queue_word h) (omega arith))

  -- The queue with its slots lies within the state.
  pub queue_whole : Whole (record { at = queue_at; slot = message_size }) s (block_at b)
  queue_whole = record { long = omega (arith, at.holds.ready.long); slots = omega (arith, queue_word, queue_few, at.below, at.holds.ready.channels, at.holds.ready.long); size = lit< tt; few = omega (arith, queue_word, queue_few) }
