-- Right bytes, said part by part: what the check of a state looks at besides the line itself. Each piece lies at an offset in some bytes.
use Rattle.std.specs.Prelude.{ℕ, ◌+◌, ◌*◌, ◌-◌, ◌≤◌, ◌<◌, ◌≡◌, List, get_or, take, drop}
use Rattle.plan.specs.Layout.{spelled}
use Rattle.plan.specs.Lawful.{Zeros}
use Rattle.plan.specs.Plan.{plan_of, plan_bytes, size_by_head, plan_nodes, plan_channels, channel_at}
use Rattle.rules.specs.Line.{log_limit, queue_limit, held_limit, target_limit}
use Rattle.state.specs.Sizes.{page_size, plan_area, steps_at, count_size, steps_size, steps_rest, node_pages, page_at, lane_blocks, block_size, block_at, tail_at, tail_size, status_at, crashed_at, log_at, entry_size, held_at, held_size, targets_at, target_size, kept_at, kept_size, node_rest_at, node_rest, heard_at, parent_limit, queue_at, message_size, low_at, low_limit, lane_rest_at, lane_rest}
use Rattle.state.specs.Lane.{heard_count}

-- So many bytes at an offset are 0.
abbrev pub ZerosAt : ℕ → ℕ → List ℕ → Type 0
ZerosAt a n s = Zeros (take n (drop a s))

-- A number of four bytes.
abbrev pub word_at : ℕ → List ℕ → ℕ
word_at a s = spelled 0 (take 4 (drop a s))

-- A record's zero byte is 0.
abbrev pub RecordRight : ℕ → List ℕ → Type 0
RecordRight a s = get_or s (a + 5) 0 ≡ 0

-- An origin without a sender has no time.
abbrev pub OriginRight : ℕ → List ℕ → Type 0
OriginRight a s = get_or s a 0 ≡ 0 → word_at (a + 1) s ≡ 0

pub record MessageRight (a : ℕ) (s : List ℕ) : Type 0 where
  pub what : RecordRight a s
  pub origin : OriginRight (a + 12) s
  pub unused : ZerosAt (a + 17) 3 s

pub record EntryRight (a : ℕ) (s : List ℕ) : Type 0 where
  pub what : RecordRight a s
  pub origin : OriginRight (a + 12) s
  pub before : OriginRight (a + 17) s
  pub unused : ZerosAt (a + 23) 1 s

pub record HeldRight (a : ℕ) (s : List ℕ) : Type 0 where
  pub what : RecordRight a s
  pub before : OriginRight (a + 13) s
  pub unused : ZerosAt (a + 18) 2 s

abbrev pub TargetRight : ℕ → List ℕ → Type 0
TargetRight a s = ZerosAt (a + 9) 3 s

-- A kept answer has no unused bytes.
abbrev pub AskedRight : ℕ → List ℕ → Type 0
AskedRight a s = Unit {0}

-- A list: its count is within the limit, the slots used are right, and the bytes of the others are 0.
pub record ListRight (SlotRight : ℕ → List ℕ → Type 0) (limit size a : ℕ) (s : List ℕ) : Type 0 where
  pub few : word_at a s ≤ limit
  pub used : (i : ℕ) → i < word_at a s → SlotRight (a + count_size + size * i) s
  pub unused : ZerosAt (a + count_size + size * word_at a s) (size * (limit - word_at a s)) s

pub record NodeRight (a : ℕ) (s : List ℕ) : Type 0 where
  pub status : get_or s (a + status_at) 0 ≤ 2
  pub crashed : get_or s (a + crashed_at) 0 ≤ 1
  pub unused : ZerosAt (a + 2) 2 s
  pub log : ListRight EntryRight log_limit entry_size (a + log_at) s
  pub held : ListRight HeldRight held_limit held_size (a + held_at) s
  pub targets : ListRight TargetRight target_limit target_size (a + targets_at) s
  pub kept : ListRight AskedRight 1 kept_size (a + kept_at) s
  pub rest : ZerosAt (a + node_rest_at) node_rest s

-- A channel on which so many are heard.
pub record LaneRight (count a : ℕ) (s : List ℕ) : Type 0 where
  pub heard : (i : ℕ) → count ≤ i → i < parent_limit → word_at (a + heard_at + 4 * i) s ≡ 0
  pub queue : ListRight MessageRight queue_limit message_size (a + queue_at) s
  pub low : (i : ℕ) → count < i → i < low_limit → word_at (a + low_at + 4 * i) s ≡ 0
  pub rest : ZerosAt (a + lane_rest_at) lane_rest s

pub record StateRight (s : List ℕ) : Type 0 where
  pub plan : plan_bytes (plan_of s) ≡ take (size_by_head s) s
  pub plan_rest : ZerosAt (size_by_head s) (plan_area - size_by_head s) s
  pub steps_rest : ZerosAt (steps_at + steps_size) steps_rest s
  pub node : (k : ℕ) → k < plan_nodes s → NodeRight (page_at k) s
  pub nodes_rest : ZerosAt (page_at (plan_nodes s)) (page_size * (node_pages - plan_nodes s)) s
  pub lane : (b : ℕ) → b < plan_channels s → LaneRight (heard_count (plan_of s) (channel_at (plan_of s) b)) (block_at b) s
  pub lanes_rest : ZerosAt (block_at (plan_channels s)) (block_size * (lane_blocks - plan_channels s)) s
  pub tail : ZerosAt tail_at tail_size s
