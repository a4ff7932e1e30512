-- Right bytes as the check goes over them: each piece lies at an offset in some bytes. The crate state says the same of bytes as a property (its Right.antt); the outer contract does not rest on believing this.
use Rattle.std.specs.Prelude.{ℕ, zero, suc, ◌+◌, ◌*◌, ◌-◌, Bool, true, not, ◌&&◌, ◌||◌, List, get_or, take, drop, leb, eqb}
use Rattle.rules.specs.Line.{log_limit, queue_limit, held_limit, target_limit}
use Rattle.state.specs.Sizes.{count_size, status_at, crashed_at, log_at, entry_size, held_at, held_size, targets_at, target_size, kept_at, kept_size, node_rest_at, node_rest, heard_at, parent_limit, queue_at, message_size, low_at, lane_rest_at, lane_rest}
use Rattle.state.specs.Right.{word_at}
use Rattle.buffer.specs.Zero.{zero_bytes}

abbrev pub zero_at : ℕ → ℕ → List ℕ → Bool
zero_at a n s = zero_bytes (take n (drop a s))

abbrev pub record_exact : ℕ → List ℕ → Bool
record_exact a s = eqb (get_or s (a + 5) 0) 0

-- A time stands with a name only; 0 names nothing.
abbrev pub time_named : ℕ → ℕ → Bool
time_named from time = not (eqb from 0) || eqb time 0

abbrev pub origin_exact : ℕ → List ℕ → Bool
origin_exact a s = time_named (get_or s a 0) (word_at (a + 1) s)

unfoldable pub message_exact : ℕ → List ℕ → Bool
message_exact a s = record_exact a s && origin_exact (a + 12) s && zero_at (a + 17) 3 s

unfoldable pub entry_exact : ℕ → List ℕ → Bool
entry_exact a s = record_exact a s && origin_exact (a + 12) s && origin_exact (a + 17) s && zero_at (a + 23) 1 s

unfoldable pub held_exact : ℕ → List ℕ → Bool
held_exact a s = record_exact a s && origin_exact (a + 13) s && zero_at (a + 18) 2 s

unfoldable pub target_exact : ℕ → List ℕ → Bool
target_exact a s = zero_at (a + 9) 3 s

-- A kept answer has no unused bytes.
abbrev pub asked_exact : ℕ → List ℕ → Bool
asked_exact a s = true

-- So many slots from an offset on.
abbrev pub slots_exact : (ℕ → List ℕ → Bool) → ℕ → ℕ → ℕ → List ℕ → Bool
slots_exact slot size a zero s = true
slots_exact slot size a (suc n) s = slot a s && slots_exact slot size (a + size) n s

-- A list: its count, the slots used, and zero bytes behind them.
unfoldable pub list_exact : (ℕ → List ℕ → Bool) → ℕ → ℕ → ℕ → List ℕ → Bool
list_exact slot limit size a s = leb (word_at a s) limit && slots_exact slot size (a + count_size) (word_at a s) s && zero_at (a + count_size + size * word_at a s) (size * (limit - word_at a s)) s

-- A node's page at a.
unfoldable pub page_exact : ℕ → List ℕ → Bool
unfolding entry_exact held_exact target_exact list_exact
page_exact a s =
    leb (get_or s (a + status_at) 0) 2 && leb (get_or s (a + crashed_at) 0) 1 && zero_at (a + 2) 2 s && list_exact entry_exact log_limit entry_size (a + log_at) s
    && list_exact held_exact held_limit held_size (a + held_at) s && list_exact target_exact target_limit target_size (a + targets_at) s && list_exact asked_exact 1 kept_size (a + kept_at) s && zero_at (a + node_rest_at) node_rest s

-- A channel's block at a, on which so many are heard.
unfoldable pub block_exact : ℕ → ℕ → List ℕ → Bool
unfolding message_exact list_exact
block_exact count a s =
    zero_at (a + heard_at + 4 * count) (4 * (parent_limit - count)) s && list_exact message_exact queue_limit message_size (a + queue_at) s && zero_at (a + low_at + 4 + 4 * count) (4 * (parent_limit - count)) s
    && zero_at (a + lane_rest_at) lane_rest s
