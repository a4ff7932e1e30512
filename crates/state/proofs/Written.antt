-- Where the parts of a line lie in its bytes: a line with one of them changed is written as the same bytes with that part changed.
use Prim.Native.Nat.{ℕ, zero, suc, ◌+◌, ◌*◌, ◌-◌, ◌^◌, ◌≤◌, ◌<◌}
use mathlib.Core.Path.{◌≡◌, refl, sym, ap, ◌∙◌}
use mathlib.Core.Bool.{Bool}
use mathlib.Core.List.{List, [], ◌∷◌, ◌++◌, map}
use mathlib.Core.Option.{Option}
use native.Mathlib.Omega.{arith}
use lib.Dec.{lit<}
use lib.ListN.{length, get_or, take, set, replicate, length-append, length-take, length-set, length-map, get_or-map, get_or-append, replicate-append-replicate}
use lib.Seq.{take-set-lt, set-append_left, get_or-take}
use Rattle.plan.specs.Layout.{bytes_of, write_fields, fields, sum_of}
use Rattle.plan.specs.Plan.{node_count, channel_count, channel_at, head_numbers}
use Rattle.plan.proofs.NumberLaws.{length-bytes_of}
use Rattle.plan.proofs.FitsLaws.{fitting}
use Rattle.rules.specs.Line.{Entry, Held, Target, Asked, Message, Status, Node, Lane, Line, node_at, lane_at, fresh_node, no_lane, with_node, with_lane, console_count, steps_from, with_steps}
use Rattle.state.specs.Sizes.{steps_at, steps_rest, page_size, page_at, node_pages, block_size, low_at, low_limit, block_at, lane_blocks, tail_size, status_at, crashed_at, time_at, log_at, held_at, targets_at, kept_at, node_rest, mark_at, taken_at, heard_at, parent_limit, queue_at, lane_rest, steps_widths, steps_of_at, count_size}
use Rattle.state.specs.Node.{status_number, crash_number, node_widths, node_head_numbers, log_layout, held_list_layout, targets_layout, kept_layout, node_layout}
use Rattle.rules.specs.Trim.{with_low, with_log}
use Rattle.state.specs.Lane.{heard_widths, lane_widths, low_widths, low_fields, with_heard, pad_lane, queue_layout, lane_layout, heard_count}
use Rattle.state.specs.State.{plan_part, steps_part, nodes_part, lanes_part, line_bytes}
use Rattle.state.specs.Fits.{TimeFits, NodeFits, LaneFits, LineFits}
use Rattle.state.specs.Changes.{with_status, with_crashed, with_time, with_held, with_targets, with_asked, with_mark, with_taken, with_queue, nothing_heard, nothing_low}
use Rattle.state.proofs.SoundLaws.{fields_sound}
use Rattle.state.proofs.BlockLaws.{queue_sound, log_sound, held_list_sound, targets_sound, node_sound, lane_sound, four_words_known}
use Rattle.state.proofs.LineLaws.{plan_part_sound, steps_part_sound, nodes_part_sound}
use Rattle.state.proofs.ListLaws.{take-replicate}
use Rattle.state.proofs.InPlace.{plan_long, nodes_long}
use Rattle.state.proofs.Swapped.{Swapped, swap_whole, swap_in, swap_front, swap_behind, swap_at, field_set, slot_set}
use Rattle.plan.specs.Lawful.{FieldsFit}

-- ---- a node's page

module _ (x : Node) where
  abbrev heads : Node → List ℕ
  heads y = write_fields node_widths (node_head_numbers y)

  abbrev lists : List ℕ
  lists = log_layout.write x.log ++ (held_list_layout.write x.held ++ (targets_layout.write x.targets ++ kept_layout.write x.asked))

  head_swap : {o : ℕ} {old new : List ℕ} (hs : List ℕ) → Swapped o old new (heads x) hs → Swapped o old new (node_layout.write x) (hs ++ lists ++ replicate node_rest 0)
  unfolding node_layout
  head_swap hs w = swap_front (swap_front w lists) (replicate node_rest 0)

  pub node_status : (v : Status) → Swapped status_at (bytes_of 1 (status_number x.status)) (bytes_of 1 (status_number v)) (node_layout.write x) (node_layout.write (with_status v x))
  unfolding node_layout
  node_status v = head_swap (heads (with_status v x)) (field_set node_widths (node_head_numbers x) 0 (status_number v) (lit< tt) (lit< tt))

  pub node_crashed : (v : Bool) → Swapped crashed_at (bytes_of 1 (crash_number x.crashed)) (bytes_of 1 (crash_number v)) (node_layout.write x) (node_layout.write (with_crashed v x))
  unfolding node_layout
  node_crashed v = head_swap (heads (with_crashed v x)) (field_set node_widths (node_head_numbers x) 1 (crash_number v) (lit< tt) (lit< tt))

  pub node_time : (v : ℕ) → Swapped time_at (bytes_of 4 x.time) (bytes_of 4 v) (node_layout.write x) (node_layout.write (with_time v x))
  unfolding node_layout
  node_time v = head_swap (heads (with_time v x)) (field_set node_widths (node_head_numbers x) 3 v (lit< tt) (lit< tt))

  -- Each list, whole.
  abbrev rest : List ℕ
  rest = replicate node_rest 0

  heads_long : length (heads x) ≡ log_at
  unfolding fields
  heads_long = (fields_sound node_widths).sized (node_head_numbers x)

  pub node_log : (v : List Entry) → Swapped log_at (log_layout.write x.log) (log_layout.write v) (node_layout.write x) (node_layout.write (with_log v x))
  unfolding node_layout
  node_log v =
      swap_front (swap_behind (swap_front (swap_whole (log_layout.write x.log) (log_layout.write v)) (held_list_layout.write x.held ++ (targets_layout.write x.targets ++ kept_layout.write x.asked))) (heads x) log_at heads_long)
      rest

  pub node-held : (v : List Held) → Swapped held_at (held_list_layout.write x.held) (held_list_layout.write v) (node_layout.write x) (node_layout.write (with_held v x))
  unfolding node_layout
  node-held v =
      swap_front
      (swap_behind
      (swap_behind (swap_front (swap_whole (held_list_layout.write x.held) (held_list_layout.write v)) (targets_layout.write x.targets ++ kept_layout.write x.asked)) (log_layout.write x.log) log_layout.size (log_sound.sized x.log))
      (heads x) log_at heads_long)
      rest

  pub node_targets : (v : List Target) → Swapped targets_at (targets_layout.write x.targets) (targets_layout.write v) (node_layout.write x) (node_layout.write (with_targets v x))
  unfolding node_layout
  node_targets v =
      swap_front
      (swap_behind
      (swap_behind
      (swap_behind (swap_front (swap_whole (targets_layout.write x.targets) (targets_layout.write v)) (kept_layout.write x.asked)) (held_list_layout.write x.held) held_list_layout.size (held_list_sound.sized x.held))
      (log_layout.write x.log) log_layout.size (log_sound.sized x.log))
      (heads x) log_at heads_long)
      rest

  pub node_kept : (v : Option Asked) → Swapped kept_at (kept_layout.write x.asked) (kept_layout.write v) (node_layout.write x) (node_layout.write (with_asked v x))
  unfolding node_layout
  node_kept v =
      swap_front
      (swap_behind
      (swap_behind
      (swap_behind
      (swap_behind (swap_whole (kept_layout.write x.asked) (kept_layout.write v)) (targets_layout.write x.targets) targets_layout.size (targets_sound.sized x.targets))
      (held_list_layout.write x.held) held_list_layout.size (held_list_sound.sized x.held))
      (log_layout.write x.log) log_layout.size (log_sound.sized x.log))
      (heads x) log_at heads_long)
      rest

-- ---- a channel's block

-- What is heard, as it is written.
abbrev pub four_heard : List ℕ → List ℕ
four_heard hs = take parent_limit (hs ++ replicate parent_limit 0)

pub four_set : (hs : List ℕ) (i v : ℕ) → i < length hs → i < parent_limit → four_heard (set hs i v) ≡ set (four_heard hs) i v
four_set hs i v h k = ap (take parent_limit) (sym (set-append_left hs (replicate parent_limit 0) i v h)) ∙ take-set-lt parent_limit (hs ++ replicate parent_limit 0) i v k

pub four_at : (hs : List ℕ) (i : ℕ) → i < length hs → i < parent_limit → get_or (four_heard hs) i 0 ≡ get_or hs i 0
four_at hs i h k = get_or-take parent_limit (hs ++ replicate parent_limit 0) i 0 k ∙ get_or-append hs (replicate parent_limit 0) 0 i h

pub four_long : (hs : List ℕ) → length (four_heard hs) ≡ parent_limit
four_long hs = simp (length-take, length-append) (omega arith)

pub heard_long : (hs : List ℕ) → length (write_fields heard_widths (four_heard hs)) ≡ 16
unfolding fields
heard_long hs = (fields_sound heard_widths).sized (four_heard hs)

four_none : (hs : List ℕ) → four_heard (replicate (length hs) 0) ≡ replicate parent_limit 0
four_none hs = rw replicate-append-replicate (take-replicate parent_limit (length hs + parent_limit) 0 (omega arith))

four_field : (vs : List ℕ) (i v : ℕ) → length vs ≡ parent_limit → i < parent_limit → Swapped (4 * i) (bytes_of 4 (get_or vs i 0)) (bytes_of 4 v) (write_fields heard_widths vs) (write_fields heard_widths (set vs i v))
four_field vs zero v e h = field_set heard_widths vs 0 v (lit< tt) (omega arith)
four_field vs (suc zero) v e h = field_set heard_widths vs 1 v (lit< tt) (omega arith)
four_field vs (suc (suc zero)) v e h = field_set heard_widths vs 2 v (lit< tt) (omega arith)
four_field vs (suc (suc (suc zero))) v e h = field_set heard_widths vs 3 v (lit< tt) (omega arith)
four_field vs (suc (suc (suc (suc i)))) v e h = let no : ⊥ = omega arith in absurd no

-- The low clock's part, as it is written.
abbrev pub five_low : List ℕ → List ℕ
five_low ks = take low_limit (ks ++ replicate low_limit 0)

pub five_set : (ks : List ℕ) (i v : ℕ) → i < length ks → i < low_limit → five_low (set ks i v) ≡ set (five_low ks) i v
five_set ks i v h k = ap (take low_limit) (sym (set-append_left ks (replicate low_limit 0) i v h)) ∙ take-set-lt low_limit (ks ++ replicate low_limit 0) i v k

pub five_at : (ks : List ℕ) (i : ℕ) → i < length ks → i < low_limit → get_or (five_low ks) i 0 ≡ get_or ks i 0
five_at ks i h k = get_or-take low_limit (ks ++ replicate low_limit 0) i 0 k ∙ get_or-append ks (replicate low_limit 0) 0 i h

pub five_long : (ks : List ℕ) → length (five_low ks) ≡ low_limit
five_long ks = simp (length-take, length-append) (omega arith)

pub low_bytes_long : (ks : List ℕ) → length (write_fields low_widths (five_low ks)) ≡ 20
unfolding fields
low_bytes_long ks = (fields_sound low_widths).sized (five_low ks)

five_none : (ks : List ℕ) → five_low (replicate (length ks) 0) ≡ replicate low_limit 0
five_none ks = rw replicate-append-replicate (take-replicate low_limit (length ks + low_limit) 0 (omega arith))

five_field : (vs : List ℕ) (i v : ℕ) → length vs ≡ low_limit → i < low_limit → Swapped (4 * i) (bytes_of 4 (get_or vs i 0)) (bytes_of 4 v) (write_fields low_widths vs) (write_fields low_widths (set vs i v))
five_field vs zero v e h = field_set low_widths vs 0 v (lit< tt) (omega arith)
five_field vs (suc zero) v e h = field_set low_widths vs 1 v (lit< tt) (omega arith)
five_field vs (suc (suc zero)) v e h = field_set low_widths vs 2 v (lit< tt) (omega arith)
five_field vs (suc (suc (suc zero))) v e h = field_set low_widths vs 3 v (lit< tt) (omega arith)
five_field vs (suc (suc (suc (suc zero)))) v e h = field_set low_widths vs 4 v (lit< tt) (omega arith)
five_field vs (suc (suc (suc (suc (suc i))))) v e h = let no : ⊥ = omega arith in absurd no

module _ (x : Lane) where
  abbrev numbers : Lane → List ℕ
  numbers y = y.mark ∷ y.taken ∷ four_heard y.heard

  abbrev block : Lane → List ℕ
  block y = lane_layout.write (pad_lane y)

  abbrev end : List ℕ
  end = replicate lane_rest 0

  abbrev lowed : List ℕ
  lowed = write_fields low_widths (five_low x.low)

  abbrev queued : List ℕ
  queued = queue_layout.write x.queue ++ write_fields low_widths (five_low x.low)

  pub lane-mark : (v : ℕ) → Swapped mark_at (bytes_of 4 x.mark) (bytes_of 4 v) (block x) (block (with_mark v x))
  unfolding lane_layout pad_lane
  lane-mark v = swap_front (swap_front (field_set lane_widths (numbers x) 0 v (lit< tt) (omega arith)) queued) end

  pub lane-taken : (v : ℕ) → Swapped taken_at (bytes_of 4 x.taken) (bytes_of 4 v) (block x) (block (with_taken v x))
  unfolding lane_layout pad_lane
  lane-taken v = swap_front (swap_front (field_set lane_widths (numbers x) 1 v (lit< tt) (omega arith)) queued) end

  -- All that is heard.
  pub lane_heard : (hs : List ℕ) → Swapped heard_at (write_fields heard_widths (four_heard x.heard)) (write_fields heard_widths (four_heard hs)) (block x) (block (with_heard hs x))
  unfolding lane_layout pad_lane
  lane_heard hs =
      swap_front
      (swap_front
      (swap_behind
      (swap_behind (swap_whole (write_fields heard_widths (four_heard x.heard)) (write_fields heard_widths (four_heard hs))) (bytes_of 4 x.taken) 4 (length-bytes_of 4 x.taken))
      (bytes_of 4 x.mark) 4 (length-bytes_of 4 x.mark))
      queued)
      end

  -- One entry of it.
  pub lane-heard_at : (i v : ℕ) → i < length x.heard → i < parent_limit
      → Swapped (heard_at + 4 * i) (bytes_of 4 (get_or x.heard i 0)) (bytes_of 4 v) (block x) (block (with_heard (set x.heard i v) x))
  lane-heard_at i v h k =
      swap_in (lane_heard (set x.heard i v)) (rw (four_set x.heard i v h k, ← four_at x.heard i h k) (four_field (four_heard x.heard) i v (four_long x.heard) k))

  -- None of it.
  pub lane_heard_none : Swapped heard_at (write_fields heard_widths (four_heard x.heard)) (replicate 16 0) (block x) (block (nothing_heard x))
  lane_heard_none = rw (four_none x.heard) at (lane_heard (replicate (length x.heard) 0))

  pub lane_queue : (v : List Message) → Swapped queue_at (queue_layout.write x.queue) (queue_layout.write v) (block x) (block (with_queue v x))
  unfolding lane_layout pad_lane
  lane_queue v =
      swap_front (swap_behind (swap_front (swap_whole (queue_layout.write x.queue) (queue_layout.write v)) lowed) (write_fields lane_widths (numbers x)) queue_at ((fields_sound lane_widths).sized (numbers x))) end

  -- All of the low clock's part, one number of it, and none.
  pub lane_low : (ks : List ℕ) → Swapped low_at (write_fields low_widths (five_low x.low)) (write_fields low_widths (five_low ks)) (block x) (block (with_low ks x))
  unfolding lane_layout pad_lane low_fields
  lane_low ks =
      swap_front
      (swap_behind
      (swap_behind (swap_whole (write_fields low_widths (five_low x.low)) (write_fields low_widths (five_low ks))) (queue_layout.write x.queue) 164 (queue_sound.sized x.queue))
      (write_fields lane_widths (numbers x)) queue_at ((fields_sound lane_widths).sized (numbers x)))
      end

  pub lane-low_at : (i v : ℕ) → i < length x.low → i < low_limit → Swapped (low_at + 4 * i) (bytes_of 4 (get_or x.low i 0)) (bytes_of 4 v) (block x) (block (with_low (set x.low i v) x))
  lane-low_at i v h k =
      swap_in (lane_low (set x.low i v)) (rw (five_set x.low i v h k, ← five_at x.low i h k) (five_field (five_low x.low) i v (five_long x.low) k))

  pub lane_low_none : Swapped low_at (write_fields low_widths (five_low x.low)) (replicate 20 0) (block x) (block (nothing_low x))
  lane_low_none = rw (five_none x.low) at (lane_low (replicate (length x.low) 0))

-- ---- the line

map-set : {A B : Type 0} (f : A → B) (xs : List A) (i : ℕ) (x : A) → set (map f xs) i (f x) ≡ map f (set xs i x)
map-set f [] i x = refl
map-set f (y ∷ xs) zero x = refl
map-set f (y ∷ xs) (suc i) x = ap (λ (ys : List _). f y ∷ ys) (map-set f xs i x)

-- What holds of each thing in a list by its place still does where one is replaced.
set_keeps : {A : Type 0} (P : ℕ → A → Type 0) (xs : List A) (n : ℕ) (x d : A) (i : ℕ) → P n x → P i (get_or xs i d) → P i (get_or (set xs n x) i d)
set_keeps P [] n x d i p q = q
set_keeps P (y ∷ xs) zero x d zero p q = p
set_keeps P (y ∷ xs) zero x d (suc i) p q = q
set_keeps P (y ∷ xs) (suc n) x d zero p q = q
set_keeps P (y ∷ xs) (suc n) x d (suc i) p q = set_keeps (λ (j : ℕ). P (suc j)) xs n x d i p q

-- Numbers for fields still fit where one that fits is put in.
fields-set : (ws vs : List ℕ) (i v : ℕ) → v < 256 ^ (get_or ws i 0) → FieldsFit ws vs → FieldsFit ws (set vs i v)
fields-set [] [] i v h f = f
fields-set [] (u ∷ vs) i v h f = absurd f
fields-set (w ∷ ws) [] i v h f = absurd f
fields-set (w ∷ ws) (u ∷ vs) zero v h f = (h, f.1)
fields-set (w ∷ ws) (u ∷ vs) (suc i) v h f = (f.0, fields-set ws vs i v h f.1)

-- Where a console's count stands among the four, and its width.
count_place : (c : ℕ) → c < console_count → (sum_of (take c steps_widths) ≡ count_size * c) × (get_or steps_widths c 0 ≡ count_size)
count_place zero h = (refl, refl)
count_place (suc zero) h = (refl, refl)
count_place (suc (suc zero)) h = (refl, refl)
count_place (suc (suc (suc zero))) h = (refl, refl)
count_place (suc (suc (suc (suc c)))) h = let no : ⊥ = omega arith in absurd no

module _ (l : Line) (fits : LineFits l) where
  abbrev n : ℕ
  n = node_count l.plan

  abbrev m : ℕ
  m = channel_count l.plan

  few_nodes : n ≤ node_pages
  few_nodes = (fitting l.plan fits.plan).nodes_most

  few_channels : m ≤ lane_blocks
  few_channels = (fitting l.plan fits.plan).channels_most

  abbrev planned : List ℕ
  planned = (plan_part l.plan.version n m).write (head_numbers l.plan, l.plan)

  abbrev stepped : List ℕ
  stepped = steps_part.write l.steps

  abbrev noded : List ℕ
  noded = (nodes_part n).write l.nodes

  abbrev laned : List ℕ
  laned = (lanes_part m).write (map pad_lane l.lanes)

  planned_long : length planned ≡ steps_at
  planned_long = (plan_part_sound l.plan.version n m).sized (head_numbers l.plan, l.plan) ∙ plan_long l.plan.version n m few_nodes few_channels

  stepped_long : length stepped ≡ page_size - steps_at
  unfolding steps_part
  stepped_long = steps_part_sound.sized l.steps

  noded_long : length noded ≡ node_pages * page_size
  noded_long = (nodes_part_sound n).sized l.nodes ∙ nodes_long l.plan.version n m few_nodes few_channels

  -- All four counts, and console c's.
  pub line_steps_swap : (ks : List ℕ) → Swapped steps_at (write_fields steps_widths l.steps) (write_fields steps_widths ks) (line_bytes l) (line_bytes (with_steps ks l))
  unfolding line_bytes steps_part
  line_steps_swap ks =
      swap_front (swap_behind (swap_front (swap_front (swap_whole (write_fields steps_widths l.steps) (write_fields steps_widths ks)) (replicate steps_rest 0)) (noded ++ laned)) planned steps_at planned_long) (replicate tail_size 0)

  pub line_count_swap : (c k : ℕ) → c < console_count → Swapped (steps_of_at c) (bytes_of 4 (steps_from l c)) (bytes_of 4 k) (line_bytes l) (line_bytes (with_steps (set l.steps c k) l))
  line_count_swap c k h =
      let one = field_set steps_widths l.steps c k h (omega (arith, (four_words_known l.steps fits.steps).0)) in
      let (place, width) = count_place c h in
      swap_at (swap_in (line_steps_swap (set l.steps c k)) (rw width at one)) (steps_of_at c) (ap (λ (a : ℕ). steps_at + a) place)

  pub line_node_swap : (k : ℕ) (x : Node) → k < node_count l.plan → Swapped (page_at k) (node_layout.write (node_at l k)) (node_layout.write x) (line_bytes l) (line_bytes (with_node k x l))
  unfolding line_bytes nodes_part with_node
  line_node_swap k x h =
      let slot = slot_set node_sound n l.nodes k x fresh_node (omega (arith, fits.nodes)) (omega (arith, fits.nodes)) in
      let part = swap_front slot (replicate ((node_pages - n) * page_size) 0) in
      swap_at
      (swap_front (swap_behind (swap_behind (swap_front part laned) stepped (page_size - steps_at) stepped_long) planned steps_at planned_long) (replicate tail_size 0))
      (page_at k) (let same : steps_at + (page_size - steps_at + page_size * k) ≡ page_at k = omega arith in same)

  pub line_lane_swap : (b : ℕ) (x : Lane) → b < channel_count l.plan
      → Swapped (block_at b) (lane_layout.write (pad_lane (lane_at l b))) (lane_layout.write (pad_lane x)) (line_bytes l) (line_bytes (with_lane b x l))
  unfolding line_bytes lanes_part with_lane
  line_lane_swap b x h =
      let long : length (map pad_lane l.lanes) ≡ m = length-map l.lanes pad_lane ∙ fits.lanes in
      let slot = slot_set lane_sound m (map pad_lane l.lanes) b (pad_lane x) (pad_lane no_lane) (omega arith) (omega arith) in
      let part = swap_front (rw (map-set pad_lane l.lanes b x, get_or-map pad_lane l.lanes b no_lane) at slot) (replicate ((lane_blocks - m) * block_size) 0) in
      swap_at
      (swap_front (swap_behind (swap_behind (swap_behind part noded (node_pages * page_size) noded_long) stepped (page_size - steps_at) stepped_long) planned steps_at planned_long) (replicate tail_size 0))
      (block_at b) (let same : steps_at + (page_size - steps_at + (node_pages * page_size + block_size * b)) ≡ block_at b = omega arith in same)

  -- ---- the changed line fits

  pub fits_steps : (ks : List ℕ) → FieldsFit steps_widths ks → LineFits (with_steps ks l)
  fits_steps ks h = record { plan = fits.plan; steps = h; nodes = fits.nodes; lanes = fits.lanes; node = fits.node; lane = fits.lane; heard = fits.heard; low = fits.low }

  pub fits_count : (c k : ℕ) → c < console_count → TimeFits k → LineFits (with_steps (set l.steps c k) l)
  fits_count c k h f = fits_steps (set l.steps c k) (fields-set steps_widths l.steps c k (rw (count_place c h).1 f) fits.steps)

  pub fits_node : (k : ℕ) (x : Node) → NodeFits x → LineFits (with_node k x l)
  unfolding with_node
  fits_node k x h = record {
    plan = fits.plan;
    steps = fits.steps;
    nodes = length-set l.nodes k x ∙ fits.nodes;
    lanes = fits.lanes;
    node = λ i p. set_keeps (λ (j : ℕ). NodeFits) l.nodes k x fresh_node i h (fits.node i p);
    lane = fits.lane;
    heard = fits.heard;
    low = fits.low;
  }

  pub fits_lane : (b : ℕ) (x : Lane) → LaneFits x → length x.heard ≡ length (lane_at l b).heard → length x.low ≡ length (lane_at l b).low → b < channel_count l.plan → LineFits (with_lane b x l)
  unfolding with_lane
  fits_lane b x h e f below = record {
    plan = fits.plan;
    steps = fits.steps;
    nodes = fits.nodes;
    lanes = length-set l.lanes b x ∙ fits.lanes;
    node = fits.node;
    lane = λ i p. set_keeps (λ (j : ℕ). LaneFits) l.lanes b x no_lane i h (fits.lane i p);
    heard = λ i p.
        set_keeps (λ (j : ℕ) (y : Lane). length y.heard ≡ heard_count l.plan (channel_at l.plan j)) l.lanes b x no_lane i (e ∙ fits.heard b below) (fits.heard i p);
    low = λ i p.
        set_keeps (λ (j : ℕ) (y : Lane). length y.low ≡ suc (heard_count l.plan (channel_at l.plan j))) l.lanes b x no_lane i (f ∙ fits.low b below) (fits.low i p);
  }
