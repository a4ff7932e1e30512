-- What the check of a node's page goes by: where it starts, its head, its slots one by one, and what a node of a status may not hold.
use Rattle.std.specs.Prelude.{ℕ, zero, suc, ◌+◌, ◌*◌, ◌-◌, ◌≤◌, ◌<◌, ◌≡◌, Bool, true, false, not, ◌&&◌, ◌||◌, List, get_or, take, drop, leb, eqb}
use Rattle.plan.specs.Plan.{plan_nodes}
use Rattle.rules.specs.Line.{Entry, Held, Target, Line, made, node_at}
use Rattle.state.specs.Sizes.{page_at, count_size, status_at, crashed_at, entry_size, held_size, target_size, kept_at, kept_size, node_rest_at, node_rest}
use Rattle.state.specs.Pieces.{entry_layout, held_layout, target_layout}
use Rattle.state.specs.State.{line_of}
use Rattle.state.specs.Right.{word_at}
use Rattle.buffer.specs.Exact.{zero_at, record_exact, origin_exact, entry_exact, asked_exact, list_exact}
use Rattle.buffer.specs.Check.{record_in}
use Rattle.buffer.specs.Ready.{Ready}
use Rattle.items.specs.Items.{record_right, origin_right, is_inner, may_follow, entry_right}

-- A node of a state that is ready, and where its page starts.
pub record PageOf (s : List ℕ) (n at : ℕ) : Type 0 where
  pub ready : Ready s
  pub within : n < plan_nodes s
  pub start : at ≡ page_at n

-- What stands in a slot at a.
abbrev pub entry_in : ℕ → List ℕ → Entry
entry_in a s = entry_layout.read (take entry_size (drop a s))

abbrev pub held_in : ℕ → List ℕ → Held
held_in a s = held_layout.read (take held_size (drop a s))

abbrev pub target_in : ℕ → List ℕ → Target
target_in a s = target_layout.read (take target_size (drop a s))

-- The head of a page at a: status, crash mark, two bytes unused.
abbrev pub head_exact : ℕ → List ℕ → Bool
head_exact a s = leb (get_or s (a + status_at) 0) 2 && leb (get_or s (a + crashed_at) 0) 1 && zero_at (a + 2) 2 s

-- A log entry at a, its set aside: its record and a byte unused; what it was made from.
unfoldable pub entry_plain : ℕ → List ℕ → Bool
entry_plain a s = record_exact a s && record_right (record_in a s) && zero_at (a + 23) 1 s

unfoldable pub entry_made : ℕ → ℕ → List ℕ → Bool
unfolding origin_right
entry_made n a s = origin_exact (a + 12) s && origin_exact (a + 17) s && origin_right (line_of s) n (entry_in a s).origin (entry_in a s).before

-- The same of a held record.
unfoldable pub held_plain : ℕ → List ℕ → Bool
held_plain a s = record_exact a s && record_right (record_in a s) && zero_at (a + 18) 2 s

unfoldable pub held_made : ℕ → ℕ → List ℕ → Bool
unfolding origin_right
held_made n a s = origin_exact (a + 13) s && origin_right (line_of s) n (made (held_in a s).sender (held_in a s).time) (held_in a s).before

-- The end of a page at a: a kept answer or none, and what is unused.
abbrev pub page_end_exact : ℕ → List ℕ → Bool
page_end_exact a s = list_exact asked_exact 1 kept_size (a + kept_at) s && zero_at (a + node_rest_at) node_rest s

-- What a node of a status may not hold is not there: by the status, the time and the counts of log, held records, targets and kept answers.
abbrev pub holds_nothing : ℕ → ℕ → ℕ → ℕ → ℕ → ℕ → Bool
holds_nothing zero time log held targets kept = eqb held 0 && eqb targets 0 && eqb kept 0
holds_nothing (suc zero) time log held targets kept = eqb time 0 && eqb log 0 && eqb held 0 && (eqb targets 0 || not (eqb kept 0))
holds_nothing (suc (suc n)) time log held targets kept = eqb log 0 && eqb kept 0

-- So many slots from an offset on, their bytes and what stands in them together: a test of each in turn, that goes by what came before.
abbrev pub slots_pass : {A S : Type 0} → (ℕ → List ℕ → A) → ℕ → List ℕ → (ℕ → List ℕ → Bool) → (S → A → Bool) → (S → A → S) → S → ℕ → ℕ → Bool
slots_pass item size s exact test next st a zero = true
slots_pass item size s exact test next st a (suc k) = (exact a s && test st (item a s)) && slots_pass item size s exact test next (next st (item a s)) (a + size) k

-- A log entry behind one of a time, and the entries from an offset on.
abbrev pub entry_passes : Line → ℕ → ℕ → ℕ → Entry → Bool
entry_passes l n top last e = entry_right l n e && (may_follow (is_inner l.plan n) last e.time e.set && leb e.time top)

abbrev pub entry_next : ℕ → Entry → ℕ
entry_next last e = e.time

abbrev pub log_pass : List ℕ → ℕ → ℕ → ℕ → ℕ → Bool
log_pass s n last a k = slots_pass entry_in entry_size s entry_exact (entry_passes (line_of s) n (node_at (line_of s) n).time) entry_next last a k

-- What is found of a list at a: false where its count is past the limit; else what a test says of so many slots, and whether the bytes behind them are 0.
pub record ListFound (says : ℕ → Bool → Type 0) (limit size a : ℕ) (s : List ℕ) (found : Bool) : Type 0 where
  pub many : limit < word_at a s → found ≡ false
  pub few : word_at a s ≤ limit → (used : Bool) × says (word_at a s) used × (found ≡ (used && zero_at (a + count_size + size * word_at a s) (size * (limit - word_at a s)) s))
