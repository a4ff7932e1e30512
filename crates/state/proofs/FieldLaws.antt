-- The fields of a node's page and of a channel's block, each where it lies.
use Prim.Native.Nat.{ℕ, zero, suc, ◌+◌, ◌*◌, min, ◌<◌}
use mathlib.Core.Path.{◌≡◌, refl, sym, ap, ◌∙◌}
use mathlib.Core.List.{List, [], ◌∷◌}
use mathlib.Core.Option.{none, some}
use native.Mathlib.Omega.{arith}
use native.Mathlib.Decide.{dec_lt}
use lib.Dec.{lit<}
use lib.ListN.{length, get_or, take, drop}
use lib.Seq.{drop-drop}
use Rattle.plan.specs.Layout.{spelled, read_fields, up_to_slots}
use Rattle.rules.specs.Line.{log_limit, queue_limit, held_limit, target_limit, Message, Entry, Held, Target, Asked, Node, Lane}
use Rattle.state.specs.Sizes.{count_size, status_at, crashed_at, time_at, log_at, entry_size, held_at, held_size, targets_at, target_size, kept_at, kept_size, mark_at, taken_at, heard_at, low_at, low_limit, parent_limit, queue_at, message_size}
use Rattle.state.specs.Pieces.{message_layout, entry_layout, held_layout, target_layout, asked_widths, asked_numbers, asked_of, asked_layout}
use Rattle.state.specs.Node.{status_of, crash_of, log_layout, held_list_layout, targets_layout, first_kept, kept_layout, node_layout}
use Rattle.state.specs.Lane.{heard_widths, low_widths, queue_layout, lane_layout}
use Rattle.rules.proofs.Lists.Options.{some_same, none_some}
use Rattle.state.proofs.ReadLaws.{part_part, list_count, list_at, node_read, lane_read}

-- A count of four bytes.
abbrev pub count_at : ℕ → List ℕ → ℕ
count_at a b = spelled 0 (take count_size (drop a b))

-- ---- numbers of four bytes, one behind the other

next_word : (s : List ℕ) (i : ℕ) → spelled 0 (take 4 (drop (4 * i) (drop 4 s))) ≡ spelled 0 (take 4 (drop (4 * suc i) s))
next_word s i = ap (λ (t : List ℕ). spelled 0 (take 4 t)) (drop-drop (4 * i) 4 s ∙ ap (λ (j : ℕ). drop j s) (let e : 4 + 4 * i ≡ 4 * suc i = omega arith in e))

four_at : (s : List ℕ) (i : ℕ) → i < parent_limit → get_or (read_fields heard_widths s) i 0 ≡ spelled 0 (take 4 (drop (4 * i) s))
four_at s zero h = refl
four_at s (suc zero) h = refl
four_at s (suc (suc zero)) h = ap (λ (t : List ℕ). spelled 0 (take 4 t)) (drop-drop 4 4 s)
four_at s (suc (suc (suc zero))) h = ap (λ (t : List ℕ). spelled 0 (take 4 t)) (ap (drop 4) (drop-drop 4 4 s) ∙ drop-drop 4 8 s)
four_at s (suc (suc (suc (suc i)))) h = let no : ⊥ = omega arith in absurd no

five_at : (s : List ℕ) (i : ℕ) → i < low_limit → get_or (read_fields low_widths s) i 0 ≡ spelled 0 (take 4 (drop (4 * i) s))
five_at s zero h = refl
five_at s (suc i) h = four_at (drop 4 s) i (omega arith) ∙ next_word s i

six_at : (s : List ℕ) (i : ℕ) → i < 6 → get_or (read_fields asked_widths s) i 0 ≡ spelled 0 (take 4 (drop (4 * i) s))
six_at s zero h = refl
six_at s (suc i) h = five_at (drop 4 s) i (omega arith) ∙ next_word s i

first_none : (xs : List Asked) → length xs ≡ 0 → first_kept xs ≡ none
first_none [] e = refl
first_none (a ∷ xs) e = let no : ⊥ = omega arith in absurd no

first_some : (xs : List Asked) (d : Asked) {a : Asked} → 0 < length xs → get_or xs 0 d ≡ a → first_kept xs ≡ some a
first_some [] d h e = let no : ⊥ = omega arith in absurd no
first_some (x ∷ xs) d h e = ap some e

module _ (b : List ℕ) where
  -- ---- a node's page

  pub status_at_lem : (node_layout.read b).status ≡ status_of (get_or b status_at 0)
  status_at_lem = ap (λ (x : Node). x.status) (node_read b)

  pub crashed_at_lem : (node_layout.read b).crashed ≡ crash_of (get_or b crashed_at 0)
  crashed_at_lem = ap (λ (x : Node). x.crashed) (node_read b)

  pub time_at_lem : (node_layout.read b).time ≡ spelled 0 (take 4 (drop time_at b))
  time_at_lem = ap (λ (x : Node). x.time) (node_read b)

  pub log_count : length (node_layout.read b).log ≡ min (count_at log_at b) log_limit
  unfolding log_layout
  log_count = ap (λ (x : Node). length x.log) (node_read b) ∙ list_count entry_layout log_limit log_at b

  pub log_at_lem : (i : ℕ) (d : Entry) → i < count_at log_at b → i < log_limit → get_or (node_layout.read b).log i d ≡ entry_layout.read (take entry_size (drop (log_at + count_size + entry_size * i) b))
  unfolding log_layout
  log_at_lem i d h k = ap (λ (x : Node). get_or x.log i d) (node_read b) ∙ list_at entry_layout log_limit log_at b i d h k

  pub held_count : length (node_layout.read b).held ≡ min (count_at held_at b) held_limit
  unfolding held_list_layout
  held_count = ap (λ (x : Node). length x.held) (node_read b) ∙ list_count held_layout held_limit held_at b

  pub held-at : (i : ℕ) (d : Held) → i < count_at held_at b → i < held_limit → get_or (node_layout.read b).held i d ≡ held_layout.read (take held_size (drop (held_at + count_size + held_size * i) b))
  unfolding held_list_layout
  held-at i d h k = ap (λ (x : Node). get_or x.held i d) (node_read b) ∙ list_at held_layout held_limit held_at b i d h k

  pub targets_count : length (node_layout.read b).targets ≡ min (count_at targets_at b) target_limit
  unfolding targets_layout
  targets_count = ap (λ (x : Node). length x.targets) (node_read b) ∙ list_count target_layout target_limit targets_at b

  pub target_at : (i : ℕ) (d : Target) → i < count_at targets_at b → i < target_limit
      → get_or (node_layout.read b).targets i d ≡ target_layout.read (take target_size (drop (targets_at + count_size + target_size * i) b))
  unfolding targets_layout
  target_at i d h k = ap (λ (x : Node). get_or x.targets i d) (node_read b) ∙ list_at target_layout target_limit targets_at b i d h k

  -- The kept answer: none, or the one that there is.
  pub kept_none : count_at kept_at b ≡ 0 → (node_layout.read b).asked ≡ none
  unfolding kept_layout
  kept_none e = ap (λ (x : Node). x.asked) (node_read b) ∙ first_none ((up_to_slots count_size 1 asked_layout).read (drop kept_at b)) (list_count asked_layout 1 kept_at b ∙ ap (λ (c : ℕ). min c 1) e)

  pub kept_some : 0 < count_at kept_at b → (node_layout.read b).asked ≡ some (asked_layout.read (take kept_size (drop (kept_at + count_size) b)))
  unfolding kept_layout
  kept_some h =
      ap (λ (x : Node). x.asked) (node_read b)
      ∙ first_some ((up_to_slots count_size 1 asked_layout).read (drop kept_at b)) (asked_of []) (rw (list_count asked_layout 1 kept_at b) (omega (arith, h))) (list_at asked_layout 1 kept_at b 0 (asked_of []) h (lit< tt))

  -- Its numbers: low, high and the entries.
  pub kept_number : (a : Asked) → (node_layout.read b).asked ≡ some a → (i : ℕ) → i < 6 → get_or (asked_numbers a) i 0 ≡ spelled 0 (take 4 (drop (kept_at + count_size + 4 * i) b))
  unfolding asked_layout
  kept_number a e i h = elim (dec_lt 0 (count_at kept_at b)) [
    | yes some_there ↦
        (let c = take kept_size (drop (kept_at + count_size) b) in
        ap (λ (x : Asked). get_or (asked_numbers x) i 0) (some_same (sym e ∙ kept_some some_there)) ∙ six_at c i h ∙ ap (spelled 0) (part_part 4 (4 * i) kept_size (kept_at + count_size) b (omega arith)))
    | no not_there ↦ none_some (sym (kept_none (omega (arith, not_there))) ∙ e)
  ]

  -- ---- a channel's block

  pub mark-at : (lane_layout.read b).mark ≡ spelled 0 (take 4 (drop mark_at b))
  mark-at = ap (λ (x : Lane). x.mark) (lane_read b)

  pub taken_at_lem : (lane_layout.read b).taken ≡ spelled 0 (take 4 (drop taken_at b))
  taken_at_lem = ap (λ (x : Lane). x.taken) (lane_read b)

  pub heard_at_lem : (i : ℕ) → i < parent_limit → get_or (lane_layout.read b).heard i 0 ≡ spelled 0 (take 4 (drop (heard_at + 4 * i) b))
  heard_at_lem i h = ap (λ (x : Lane). get_or x.heard i 0) (lane_read b) ∙ four_at (drop heard_at b) i h ∙ ap (λ (t : List ℕ). spelled 0 (take 4 t)) (drop-drop (4 * i) heard_at b)

  pub heard_four : length (lane_layout.read b).heard ≡ parent_limit
  heard_four = ap (λ (x : Lane). length x.heard) (lane_read b)

  pub low_at_lem : (i : ℕ) → i < low_limit → get_or (lane_layout.read b).low i 0 ≡ spelled 0 (take 4 (drop (low_at + 4 * i) b))
  low_at_lem i h = ap (λ (x : Lane). get_or x.low i 0) (lane_read b) ∙ five_at (drop low_at b) i h ∙ ap (λ (t : List ℕ). spelled 0 (take 4 t)) (drop-drop (4 * i) low_at b)

  pub low_five : length (lane_layout.read b).low ≡ low_limit
  low_five = ap (λ (x : Lane). length x.low) (lane_read b)

  pub queue_count : length (lane_layout.read b).queue ≡ min (count_at queue_at b) queue_limit
  unfolding queue_layout
  queue_count = ap (λ (x : Lane). length x.queue) (lane_read b) ∙ list_count message_layout queue_limit queue_at b

  pub queue_at_lem : (i : ℕ) (d : Message) → i < count_at queue_at b → i < queue_limit → get_or (lane_layout.read b).queue i d ≡ message_layout.read (take message_size (drop (queue_at + count_size + message_size * i) b))
  unfolding queue_layout
  queue_at_lem i d h k = ap (λ (x : Lane). get_or x.queue i d) (lane_read b) ∙ list_at message_layout queue_limit queue_at b i d h k
