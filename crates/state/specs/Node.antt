-- A node's page: status, crash mark, time, log, held records, targets, kept answer.
use Rattle.std.specs.Prelude.{ℕ, zero, suc, ◌+◌, ◌*◌, Bool, true, false, List, [], ◌∷◌, ◌≡◌, refl, get_or}
use Rattle.std.proofs.Math.Option.{Option, none, some}
use Rattle.plan.specs.Layout.{Layout, fields, via, pair, up_to_slots, padded}
use Rattle.rules.specs.Line.{log_limit, held_limit, target_limit, Entry, Held, Target, Status, up, down, replay, Asked, Node}
use Rattle.state.specs.Sizes.{page_size, count_size, log_at, entry_size, held_at, held_size, targets_at, target_size, kept_at, kept_size, node_rest_at, node_rest}
use Rattle.state.specs.Pieces.{entry_layout, held_layout, target_layout, asked_layout}

-- The status is 0 for up, 1 for down, 2 for replay; the crash mark is 0 or 1.
abbrev pub status_number : Status → ℕ
status_number up = 0
status_number down = 1
status_number replay = 2

abbrev pub status_of : ℕ → Status
status_of zero = up
status_of (suc zero) = down
status_of (suc (suc n)) = replay

abbrev pub crash_number : Bool → ℕ
crash_number false = 0
crash_number true = 1

abbrev pub crash_of : ℕ → Bool
crash_of zero = false
crash_of (suc n) = true

-- Status, crash mark, two bytes unused, time.
abbrev pub node_widths : List ℕ
node_widths = 1 ∷ 1 ∷ 2 ∷ 4 ∷ []

abbrev pub node_head_numbers : Node → List ℕ
node_head_numbers x = status_number x.status ∷ crash_number x.crashed ∷ 0 ∷ x.time ∷ []

unfoldable pub node_fields : Layout (List ℕ)
unfolding fields
node_fields = fields node_widths

-- Each list is a count of four bytes and its slots.
unfoldable pub log_layout : Layout (List Entry)
unfolding entry_layout up_to_slots
log_layout = up_to_slots count_size log_limit entry_layout

unfoldable pub held_list_layout : Layout (List Held)
unfolding held_layout up_to_slots
held_list_layout = up_to_slots count_size held_limit held_layout

unfoldable pub targets_layout : Layout (List Target)
unfolding target_layout up_to_slots
targets_layout = up_to_slots count_size target_limit target_layout

-- A kept answer as a list of at most one.
abbrev pub kept_list : Option Asked → List Asked
kept_list none = []
kept_list (some a) = a ∷ []

abbrev pub first_kept : List Asked → Option Asked
first_kept [] = none
first_kept (a ∷ rest) = some a

unfoldable pub kept_layout : Layout (Option Asked)
unfolding asked_layout up_to_slots via
kept_layout = via (up_to_slots count_size 1 asked_layout) kept_list first_kept

abbrev pub NodeParts : Type 0
NodeParts = List ℕ × (List Entry × (List Held × (List Target × Option Asked)))

abbrev pub node_seen : Node → NodeParts
node_seen x = (node_head_numbers x, (x.log, (x.held, (x.targets, x.asked))))

abbrev pub node_from : NodeParts → Node
node_from p = record { status = status_of (get_or p.0 0 0); crashed = crash_of (get_or p.0 1 0); time = get_or p.0 3 0; log = p.1.0; held = p.1.1.0; targets = p.1.1.1.0; asked = p.1.1.1.1 }

unfoldable pub node_parts : Layout NodeParts
unfolding node_fields log_layout held_list_layout targets_layout kept_layout pair
node_parts = pair node_fields (pair log_layout (pair held_list_layout (pair targets_layout kept_layout)))

unfoldable pub node_layout : Layout Node
unfolding node_parts via padded
node_layout = padded node_rest (via node_parts node_seen node_from)

-- The offsets add up.
pub log_end : log_at + count_size + log_limit * entry_size ≡ held_at
log_end = refl

pub held_end : held_at + count_size + held_limit * held_size ≡ targets_at
held_end = refl

pub targets_end : targets_at + count_size + target_limit * target_size ≡ kept_at
targets_end = refl

pub kept_end : kept_at + count_size + kept_size ≡ node_rest_at
kept_end = refl

pub node_size : node_layout.size ≡ page_size
unfolding node_layout
node_size = refl
