-- The line's fields by their offsets in the whole state.
use Prim.Native.Nat.{ℕ, suc, ◌+◌, ◌*◌, min, ◌≤◌, ◌<◌}
use mathlib.Core.Path.{◌≡◌, sym, ap, ◌∙◌}
use mathlib.Core.List.{List}
use mathlib.Core.Option.{none, some}
use native.Mathlib.Omega.{arith}
use lib.Dec.{lit≤, lit<}
use lib.ListN.{length, get_or, take, drop}
use lib.Seq.{get_or-take}
use Rattle.plan.specs.Layout.{Layout, spelled}
use Rattle.plan.specs.Plan.{plan_of, plan_nodes, plan_channels, channel_at}
use Rattle.rules.specs.Line.{log_limit, queue_limit, held_limit, target_limit, Message, Entry, Held, Target, Asked, Node, Lane, node_at, lane_at}
use Rattle.state.specs.Sizes.{page_size, block_size, count_size, page_at, block_at, low_at, low_limit, status_at, crashed_at, time_at, log_at, entry_size, held_at, held_size, targets_at, target_size, kept_at, kept_size, mark_at, taken_at, heard_at, parent_limit, queue_at, message_size}
use Rattle.state.specs.Pieces.{message_layout, entry_layout, held_layout, target_layout, asked_numbers, asked_layout}
use Rattle.state.specs.Node.{status_of, crash_of, node_layout}
use Rattle.state.specs.Lane.{lane_layout, cut_lane, heard_count}
use Rattle.state.specs.State.{line_of}
use Rattle.state.proofs.ReadLaws.{part_part, byte_part}
use Rattle.state.proofs.FieldLaws.{low_at_lem, count_at, status_at_lem, crashed_at_lem, time_at_lem, log_count, log_at_lem, held_count, held-at, targets_count, target_at, kept_none, kept_some, kept_number, mark-at, taken_at_lem, heard_at_lem, queue_count, queue_at_lem}
use Rattle.state.proofs.InPlace.{Counted, page_of, block_of, node_in, lane_in}

-- ---- a node's fields

module _ (s : List ℕ) (few : Counted s) (k : ℕ) (h : k < plan_nodes s) where
  abbrev at : Node
  at = node_at (line_of s) k

  page : {A : Type 0} (f : Node → A) → f at ≡ f (node_layout.read (page_of k s))
  page f = ap f (node_in s few k h)

  page_number : (a : ℕ) → a + 4 ≤ page_size → spelled 0 (take 4 (drop a (page_of k s))) ≡ count_at (page_at k + a) s
  page_number a l = ap (spelled 0) (part_part 4 a page_size (page_at k) s l)

  page_slot : {A : Type 0} (l : Layout A) (w a : ℕ) → a + w ≤ page_size → l.read (take w (drop a (page_of k s))) ≡ l.read (take w (drop (page_at k + a) s))
  page_slot l w a q = ap l.read (part_part w a page_size (page_at k) s q)

  pub line_status : at.status ≡ status_of (get_or s (page_at k + status_at) 0)
  line_status = page (λ x. x.status) ∙ status_at_lem (page_of k s) ∙ ap status_of (byte_part status_at page_size (page_at k) s (lit< tt))

  pub line_crashed : at.crashed ≡ crash_of (get_or s (page_at k + crashed_at) 0)
  line_crashed = page (λ x. x.crashed) ∙ crashed_at_lem (page_of k s) ∙ ap crash_of (byte_part crashed_at page_size (page_at k) s (lit< tt))

  pub line_time : at.time ≡ spelled 0 (take 4 (drop (page_at k + time_at) s))
  line_time = page (λ x. x.time) ∙ time_at_lem (page_of k s) ∙ page_number time_at (lit≤ tt)

  pub line_log_count : length at.log ≡ min (count_at (page_at k + log_at) s) log_limit
  line_log_count = page (λ x. length x.log) ∙ log_count (page_of k s) ∙ ap (λ (c : ℕ). min c log_limit) (page_number log_at (lit≤ tt))

  pub line-log_at : (i : ℕ) (d : Entry) → i < count_at (page_at k + log_at) s → i < log_limit
      → get_or at.log i d ≡ entry_layout.read (take entry_size (drop (page_at k + (log_at + count_size + entry_size * i)) s))
  line-log_at i d c l =
      page (λ x. get_or x.log i d) ∙ log_at_lem (page_of k s) i d (rw (page_number log_at (lit≤ tt)) c) l ∙ page_slot entry_layout entry_size (log_at + count_size + entry_size * i) (omega arith)

  pub line_held_count : length at.held ≡ min (count_at (page_at k + held_at) s) held_limit
  line_held_count = page (λ x. length x.held) ∙ held_count (page_of k s) ∙ ap (λ (c : ℕ). min c held_limit) (page_number held_at (lit≤ tt))

  pub line-held_at : (i : ℕ) (d : Held) → i < count_at (page_at k + held_at) s → i < held_limit
      → get_or at.held i d ≡ held_layout.read (take held_size (drop (page_at k + (held_at + count_size + held_size * i)) s))
  line-held_at i d c l =
      page (λ x. get_or x.held i d) ∙ held-at (page_of k s) i d (rw (page_number held_at (lit≤ tt)) c) l ∙ page_slot held_layout held_size (held_at + count_size + held_size * i) (omega arith)

  pub line_targets_count : length at.targets ≡ min (count_at (page_at k + targets_at) s) target_limit
  line_targets_count = page (λ x. length x.targets) ∙ targets_count (page_of k s) ∙ ap (λ (c : ℕ). min c target_limit) (page_number targets_at (lit≤ tt))

  pub line-target_at : (i : ℕ) (d : Target) → i < count_at (page_at k + targets_at) s → i < target_limit
      → get_or at.targets i d ≡ target_layout.read (take target_size (drop (page_at k + (targets_at + count_size + target_size * i)) s))
  line-target_at i d c l =
      page (λ x. get_or x.targets i d) ∙ target_at (page_of k s) i d (rw (page_number targets_at (lit≤ tt)) c) l
      ∙ page_slot target_layout target_size (targets_at + count_size + target_size * i) (omega arith)

  pub line_kept_none : count_at (page_at k + kept_at) s ≡ 0 → at.asked ≡ none
  line_kept_none e = page (λ x. x.asked) ∙ kept_none (page_of k s) (page_number kept_at (lit≤ tt) ∙ e)

  pub line_kept_some : 0 < count_at (page_at k + kept_at) s → at.asked ≡ some (asked_layout.read (take kept_size (drop (page_at k + (kept_at + count_size)) s)))
  line_kept_some h = page (λ x. x.asked) ∙ kept_some (page_of k s) (rw (page_number kept_at (lit≤ tt)) h) ∙ ap some (page_slot asked_layout kept_size (kept_at + count_size) (lit≤ tt))

  pub line_kept_number : (a : Asked) → at.asked ≡ some a → (i : ℕ) → i < 6 → get_or (asked_numbers a) i 0 ≡ spelled 0 (take 4 (drop (page_at k + (kept_at + count_size + 4 * i)) s))
  line_kept_number a e i h = kept_number (page_of k s) a (sym (page (λ x. x.asked)) ∙ e) i h ∙ page_number (kept_at + count_size + 4 * i) (omega arith)

-- ---- a lane's fields

module _ (s : List ℕ) (few : Counted s) (b : ℕ) (h : b < plan_channels s) where
  abbrev on : Lane
  on = lane_at (line_of s) b

  abbrev count : ℕ
  count = heard_count (plan_of s) (channel_at (plan_of s) b)

  block : {A : Type 0} (f : Lane → A) → f on ≡ f (cut_lane count (lane_layout.read (block_of b s)))
  block f = ap f (lane_in s few b h)

  block_number : (a : ℕ) → a + 4 ≤ block_size → spelled 0 (take 4 (drop a (block_of b s))) ≡ count_at (block_at b + a) s
  block_number a l = ap (spelled 0) (part_part 4 a block_size (block_at b) s l)

  pub line-mark : on.mark ≡ spelled 0 (take 4 (drop (block_at b + mark_at) s))
  unfolding cut_lane
  line-mark = block (λ x. x.mark) ∙ mark-at (block_of b s) ∙ block_number mark_at (lit≤ tt)

  pub line_taken : on.taken ≡ spelled 0 (take 4 (drop (block_at b + taken_at) s))
  unfolding cut_lane
  line_taken = block (λ x. x.taken) ∙ taken_at_lem (block_of b s) ∙ block_number taken_at (lit≤ tt)

  pub line-heard_at : (i : ℕ) → i < count → i < parent_limit → get_or on.heard i 0 ≡ spelled 0 (take 4 (drop (block_at b + (heard_at + 4 * i)) s))
  unfolding cut_lane
  line-heard_at i l q =
      block (λ x. get_or x.heard i 0) ∙ get_or-take count (lane_layout.read (block_of b s)).heard i 0 l ∙ heard_at_lem (block_of b s) i q ∙ block_number (heard_at + 4 * i) (omega arith)

  pub line-low_at : (i : ℕ) → i < suc count → i < low_limit → get_or on.low i 0 ≡ spelled 0 (take 4 (drop (block_at b + (low_at + 4 * i)) s))
  unfolding cut_lane
  line-low_at i l q =
      block (λ x. get_or x.low i 0) ∙ get_or-take (suc count) (lane_layout.read (block_of b s)).low i 0 l ∙ low_at_lem (block_of b s) i q ∙ block_number (low_at + 4 * i) (omega arith)

  pub line_queue_count : length on.queue ≡ min (count_at (block_at b + queue_at) s) queue_limit
  unfolding cut_lane
  line_queue_count = block (λ x. length x.queue) ∙ queue_count (block_of b s) ∙ ap (λ (c : ℕ). min c queue_limit) (block_number queue_at (lit≤ tt))

  pub line-queue_at : (i : ℕ) (d : Message) → i < count_at (block_at b + queue_at) s → i < queue_limit
      → get_or on.queue i d ≡ message_layout.read (take message_size (drop (block_at b + (queue_at + count_size + message_size * i)) s))
  unfolding cut_lane
  line-queue_at i d c l =
      block (λ x. get_or x.queue i d) ∙ queue_at_lem (block_of b s) i d (rw (block_number queue_at (lit≤ tt)) c) l
      ∙ ap message_layout.read (part_part message_size (queue_at + count_size + message_size * i) block_size (block_at b) s (omega arith))
