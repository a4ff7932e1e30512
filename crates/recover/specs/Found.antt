-- What Recover finds, as the code goes over the state's bytes.
use Rattle.std.specs.Prelude.{ℕ, ◌+◌, ◌≤◌, ◌<◌, max, ◌≡◌, Bool, true, not, cond, ◌&&◌, ◌||◌, List, [], ◌∷◌, ◌++◌, map, leb, ltb, eqb, length, get_or, take, drop, Option, Some, None, Result, MatchResult}
use Rattle.answers.specs.declared.Refusal.{Refusal}
use Rattle.answers.specs.declared.Refusal.TheVariants.{NoSpace}
use Rattle.plan.specs.Plan.{plan_of, plan_nodes, channel_at, entering}
use Rattle.rules.specs.Lists.{is_empty, keep, all_of, greatest_of}
use Rattle.rules.specs.Line.{log_limit, Entry, Target, Asked, Line, node_at, lane_at, sender_of, target_limit}
use Rattle.rules.specs.Recover.{low_through, triple, triples, same_target, target_before, add_target, sort_targets, restored, conflict, row_goal, answer_of}
use Rattle.rules.specs.Damaged.{same_targets, same_answer}
use Rattle.state.specs.Sizes.{page_at, log_at}
use Rattle.state.specs.Right.{word_at}
use Rattle.state.specs.State.{line_of}
use Rattle.buffer.specs.Nothing.{no_entry}
use Rattle.buffer.specs.Rows.{rows_long, Rows}
use Rattle.slots.specs.declared.Goal.{Goal}
use Rattle.slots.specs.Slots.{target_is}

-- Every node's log is within its limit.
abbrev pub LogsCounted : List ℕ → Type 0
LogsCounted s = (k : ℕ) → k < plan_nodes s → word_at (page_at k + log_at) s ≤ log_limit

-- ---- triples

-- What an entry of a node's log says of node n: a triple or nothing.
abbrev pub entry_at : Line → ℕ → ℕ → Entry
entry_at l k i = get_or (node_at l k).log i no_entry

abbrev pub triple_of : ℕ → Entry → List Target
triple_of n e = triple n e.origin e.before

-- What the code reads of it, as a list.
abbrev pub goal_list : Option Goal → List Target
goal_list None = []
goal_list (Some g) = target_is g ∷ []

-- The log at channel b's end, and what the channel adds to node n's triples.
abbrev pub child_log : List ℕ → ℕ → List Entry
child_log s b = (node_at (line_of s) (channel_at (plan_of s) b).receiver).log

abbrev pub triples_on : List ℕ → ℕ → ℕ → List Target
triples_on s n b = cond (eqb (channel_at (plan_of s) b).sender n) (triples n (child_log s b)) []

-- The restored entry for a parent, by some triples.
abbrev pub restored_over : ℕ → ℕ → List Target → ℕ
restored_over low parent ts = greatest_of (map (λ (t : Target). t.parent_time) (keep (λ (t : Target). eqb t.parent parent && leb t.time low) ts))

-- ---- low clocks

-- The low clock on channel b holds nothing behind the sender's entry.
abbrev pub NoLow : List ℕ → ℕ → Type 0
NoLow s b = (i : ℕ) → 0 < i → i < length (lane_at (line_of s) b).low → get_or (lane_at (line_of s) b).low i 0 ≡ 0

-- What the low clock on channel b adds to node n's restored entry for a parent: nothing, if another node sends on it.
abbrev pub child_low : List ℕ → ℕ → ℕ → ℕ → ℕ
child_low s n b parent = cond (eqb (channel_at (plan_of s) b).sender n) (low_through (line_of s) n parent b) 0

-- ---- targets

-- Those that stand in a slice.
abbrev pub targets_in : List Goal → List Target
targets_in = map target_is

-- Targets in their order: each is before all behind it.
abbrev pub in_order : List Target → Bool
in_order [] = true
in_order (t ∷ ts) = all_of (target_before t) ts && in_order ts

-- A target's place among some: it goes behind all before it, and there it is before the next or the same.
pub record PlaceOf (t : Target) (ts : List Target) (r : ℕ) : Type 0 where
  pub within : r ≤ length ts
  pub behind : add_target t ts ≡ take r ts ++ add_target t (drop r ts)
  pub stops : r < length ts → (target_before t (get_or ts r t) || same_target t (get_or ts r t)) ≡ true

-- Some triples above low, added to those there are.
abbrev pub add_above : ℕ → List Target → List Target → List Target
add_above low ts sorted = sort_targets sorted (keep (λ (t : Target). ltb low t.time) ts)

-- Too many for a node.
abbrev pub TooMany : List Target → Refusal → Type 0
TooMany ts e = (e ≡ NoSpace) × (target_limit < length ts)

-- These are what is left, or they are too many.
abbrev pub Gathered : {A : Type 0} → List Target → Result A Refusal → List Target → Type 0
Gathered ts r us = MatchResult r (λ _. us ≡ ts) (TooMany ts)

-- ---- a number for each parent

-- The greater of what stood and a time, of one parent; and of what stood and what a function says, of each.
abbrev pub raised_at : List ℕ → ℕ → ℕ → ℕ → ℕ
raised_at rows parent time q = cond (eqb parent q) (max (get_or rows q 0) time) (get_or rows q 0)

abbrev pub raised_by : List ℕ → (ℕ → ℕ) → ℕ → ℕ
raised_by rows f q = max (get_or rows q 0) (f q)

-- Whether a time is above what stands for a parent, if it has a row.
abbrev pub is_above : List ℕ → ℕ → ℕ → Bool
is_above rows parent time = ltb parent rows_long && ltb (get_or rows parent 0) time

-- ---- what some triples tell

-- Those above low are added to the targets, or these are too many, and those up to low are in their parents' rows, whatever the targets are.
pub record Gained {A : Type 0} (low : ℕ) (ts before : List Target) (rows : List ℕ) (r : Result A Refusal) (after : List Target) (next : List ℕ) : Type 0 where
  pub targets : Gathered (add_above low ts before) r after
  pub raised : Rows next (raised_by rows (λ q. restored_over low q ts))

-- What channel b tells of node n: its triples, and in the parents' rows what its low clock holds, too.
pub record GainedOn {A : Type 0} (s : List ℕ) (n b low : ℕ) (before : List Target) (rows : List ℕ) (r : Result A Refusal) (after : List Target) (next : List ℕ) : Type 0 where
  pub targets : Gathered (add_above low (triples_on s n b) before) r after
  pub raised : Rows next (raised_by rows (λ q. max (child_low s n b q) (restored_over low q (triples_on s n b))))

-- ---- rows

-- Whether a parent's row is complete by all goals and all entries.
abbrev pub row_reached : List ℕ → List ℕ → ℕ → Bool
row_reached goals entries parent = leb (get_or goals parent 0) (get_or entries parent 0)

-- Whether a parent's row is complete in the restored node, by some targets; and whether all rows are.
abbrev pub row_in : Line → ℕ → List Target → ℕ → Bool
row_in l n ts parent = leb (row_goal ts parent) (restored l n parent)

abbrev pub rows_in : Line → ℕ → List Target → Bool
rows_in l n ts = all_of (λ (c : ℕ). row_in l n ts (sender_of l c)) (entering l.plan n)

-- Targets that conflict, or all of whose rows are complete at once: nothing is held then, and no target is.
abbrev pub no_outcome : Line → ℕ → List Target → Bool
no_outcome l n ts = not (is_empty ts) && (conflict ts || rows_in l n ts)

-- ---- a replaying node

-- What is left of the test when targets are found, neither none nor too many.
abbrev pub replay_found : Line → ℕ → ℕ → List Target → Bool
replay_found l n low ts = not (conflict ts) && not (rows_in l n ts) && eqb (node_at l n).time low && same_targets (node_at l n).targets ts

-- ---- a kept answer

-- What is left of the test when the targets found are not too many.
abbrev pub answer_found : Line → ℕ → Asked → List Target → Bool
answer_found l n a ts = not (no_outcome l n ts) && (same_answer a (answer_of l n) && same_targets (node_at l n).targets ts)
