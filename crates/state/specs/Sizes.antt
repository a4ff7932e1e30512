-- Sizes and offsets in the state's bytes, each named once (docs/LAYOUT.md has them as a table).
use Rattle.std.specs.Prelude.{ℕ, ◌+◌, ◌*◌, ◌≡◌, refl, List, [], ◌∷◌}
use Rattle.plan.specs.Layout.{sum_of}

-- "a lent buffer of 61,440 bytes": fifteen pages.
abbrev pub state_size : ℕ
state_size = 61_440

abbrev pub page_size : ℕ
page_size = 4096

-- The first page: the plan's own bytes, then the accepted steps of each console, and nothing.
abbrev pub plan_area : ℕ
plan_area = 512

abbrev pub steps_at : ℕ
steps_at = 512

abbrev pub count_size : ℕ
count_size = 4

-- Console c's count, and all four.
abbrev pub steps_of_at : ℕ → ℕ
steps_of_at c = steps_at + count_size * c

abbrev pub steps_widths : List ℕ
steps_widths = count_size ∷ count_size ∷ count_size ∷ count_size ∷ []

abbrev pub steps_size : ℕ
steps_size = 16

abbrev pub steps_rest : ℕ
steps_rest = 3568

-- A page for each of twelve nodes.
abbrev pub node_pages : ℕ
node_pages = 12

abbrev pub page_at : ℕ → ℕ
page_at n = page_size * (1 + n)

-- A block for each of 24 channels.
abbrev pub lane_blocks : ℕ
lane_blocks = 24

abbrev pub block_size : ℕ
block_size = 320

abbrev pub blocks_at : ℕ
blocks_at = 53_248

abbrev pub block_at : ℕ → ℕ
block_at b = blocks_at + block_size * b

abbrev pub tail_at : ℕ
tail_at = 60_928

abbrev pub tail_size : ℕ
tail_size = 512

-- In a node's page: status, crash mark and time; then each list's count, with its slots behind it.
abbrev pub status_at : ℕ
status_at = 0

abbrev pub crashed_at : ℕ
crashed_at = 1

abbrev pub time_at : ℕ
time_at = 4

abbrev pub log_at : ℕ
log_at = 8

abbrev pub entry_size : ℕ
entry_size = 24

abbrev pub held_at : ℕ
held_at = 1548

abbrev pub held_size : ℕ
held_size = 20

abbrev pub targets_at : ℕ
targets_at = 2832

abbrev pub target_size : ℕ
target_size = 12

-- 2026-07: a kept answer, as a list of at most one: its count, low, high and four restored entries.
abbrev pub kept_at : ℕ
kept_at = 3604

abbrev pub kept_size : ℕ
kept_size = 24

abbrev pub node_rest_at : ℕ
node_rest_at = 3632

abbrev pub node_rest : ℕ
node_rest = 464

-- In a channel's block: mark, taken, four heard, and the queue's count with its slots behind it.
abbrev pub mark_at : ℕ
mark_at = 0

abbrev pub taken_at : ℕ
taken_at = 4

abbrev pub heard_at : ℕ
heard_at = 8

-- "At most 4 belts enter": a node has at most so many parents.
abbrev pub parent_limit : ℕ
parent_limit = 4

abbrev pub queue_at : ℕ
queue_at = 24

abbrev pub message_size : ℕ
message_size = 20

-- 2026-04: what the receiver's low clock holds for the sender and then for its parents, five numbers.
abbrev pub low_at : ℕ
low_at = 188

abbrev pub low_limit : ℕ
low_limit = 5

abbrev pub lane_rest_at : ℕ
lane_rest_at = 208

abbrev pub lane_rest : ℕ
lane_rest = 112

-- They add up.
pub steps_size_lem : sum_of steps_widths ≡ steps_size
steps_size_lem = refl

pub head_page : steps_at + steps_size + steps_rest ≡ page_size
head_page = refl

pub pages_end : page_at node_pages ≡ blocks_at
pages_end = refl

pub blocks_end : block_at lane_blocks ≡ tail_at
blocks_end = refl

pub tail_end : tail_at + tail_size ≡ state_size
tail_end = refl
