-- What stands in the slots: origins, messages, log entries, held records, targets and kept answers.
use Rattle.std.specs.Prelude.{ℕ, zero, suc, List, [], ◌∷◌, ◌≡◌, refl, get_or, drop}
use Rattle.plan.specs.declared.Record.{Record}
use Rattle.plan.specs.Layout.{Layout, number, fields, via, pair, padded}
use Rattle.plan.specs.Record.{record_layout}
use Rattle.rules.specs.Line.{Origin, fed, made, Message, Entry, Held, Target, Asked}
use Rattle.state.specs.Sizes.{entry_size, held_size, target_size, message_size, kept_size}

-- An origin, in five bytes: 0 for none, else the sender and 1; then the time, 0 for none.
abbrev pub origin_numbers : Origin → List ℕ
origin_numbers fed = 0 ∷ 0 ∷ []
origin_numbers (made s t) = suc s ∷ t ∷ []

abbrev pub origin_from : ℕ → ℕ → Origin
origin_from zero t = fed
origin_from (suc s) t = made s t

abbrev pub origin_of : List ℕ → Origin
origin_of ns = origin_from (get_or ns 0 0) (get_or ns 1 0)

abbrev pub origin_widths : List ℕ
origin_widths = 1 ∷ 4 ∷ []

unfoldable pub origin_fields : Layout (List ℕ)
unfolding fields
origin_fields = fields origin_widths

unfoldable pub origin_layout : Layout Origin
unfolding origin_fields via
origin_layout = via origin_fields origin_numbers origin_of

-- A message on a channel: record, time, origin, and three bytes unused.
abbrev pub MessageParts : Type 0
MessageParts = Record × (ℕ × Origin)

abbrev pub message_seen : Message → MessageParts
message_seen m = (m.what, (m.time, m.origin))

abbrev pub message_from : MessageParts → Message
message_from p = record { what = p.0; time = p.1.0; origin = p.1.1 }

unfoldable pub message_parts : Layout MessageParts
unfolding record_layout number origin_layout pair
message_parts = pair record_layout (pair (number 4) origin_layout)

unfoldable pub message_layout : Layout Message
unfolding message_parts via padded
message_layout = padded 3 (via message_parts message_seen message_from)

-- A log entry: record, time, origin, what its input was made from, the set of channels that take it (2026-06), and a byte unused.
abbrev pub EntryParts : Type 0
EntryParts = Record × (ℕ × (Origin × (Origin × ℕ)))

abbrev pub entry_seen : Entry → EntryParts
entry_seen e = (e.what, (e.time, (e.origin, (e.before, e.set))))

abbrev pub entry_from : EntryParts → Entry
entry_from p = record { what = p.0; time = p.1.0; origin = p.1.1.0; before = p.1.1.1.0; set = p.1.1.1.1 }

unfoldable pub entry_parts : Layout EntryParts
unfolding record_layout number origin_layout pair
entry_parts = pair record_layout (pair (number 4) (pair origin_layout (pair origin_layout (number 1))))

unfoldable pub entry_layout : Layout Entry
unfolding entry_parts via padded
entry_layout = padded 1 (via entry_parts entry_seen entry_from)

-- A held record: record, sender, time, what that message was made from, and two bytes unused.
abbrev pub HeldParts : Type 0
HeldParts = Record × (ℕ × (ℕ × Origin))

abbrev pub held_seen : Held → HeldParts
held_seen h = (h.what, (h.sender, (h.time, h.before)))

abbrev pub held_from : HeldParts → Held
held_from p = record { what = p.0; sender = p.1.0; time = p.1.1.0; before = p.1.1.1 }

unfoldable pub held_parts : Layout HeldParts
unfolding record_layout number origin_layout pair
held_parts = pair record_layout (pair (number 1) (pair (number 4) origin_layout))

unfoldable pub held_layout : Layout Held
unfolding held_parts via padded
held_layout = padded 2 (via held_parts held_seen held_from)

-- A target: the node's time, the parent's time, the parent, and three bytes unused.
abbrev pub target_numbers : Target → List ℕ
target_numbers t = t.time ∷ t.parent_time ∷ t.parent ∷ []

abbrev pub target_of : List ℕ → Target
target_of ns = record { time = get_or ns 0 0; parent = get_or ns 2 0; parent_time = get_or ns 1 0 }

abbrev pub target_widths : List ℕ
target_widths = 4 ∷ 4 ∷ 1 ∷ []

unfoldable pub target_fields : Layout (List ℕ)
unfolding fields
target_fields = fields target_widths

unfoldable pub target_layout : Layout Target
unfolding target_fields via padded
target_layout = padded 3 (via target_fields target_numbers target_of)

-- A kept answer: low, high and four restored entries.
abbrev pub asked_numbers : Asked → List ℕ
asked_numbers a = a.low ∷ a.high ∷ a.entries

abbrev pub asked_of : List ℕ → Asked
asked_of ns = record { low = get_or ns 0 0; high = get_or ns 1 0; entries = drop 2 ns }

abbrev pub asked_widths : List ℕ
asked_widths = 4 ∷ 4 ∷ 4 ∷ 4 ∷ 4 ∷ 4 ∷ []

unfoldable pub asked_fields : Layout (List ℕ)
unfolding fields
asked_fields = fields asked_widths

unfoldable pub asked_layout : Layout Asked
unfolding asked_fields via
asked_layout = via asked_fields asked_numbers asked_of

-- They are as long as they should be.
pub message_size_lem : message_layout.size ≡ message_size
unfolding message_layout
message_size_lem = refl

pub entry_size_lem : entry_layout.size ≡ entry_size
unfolding entry_layout
entry_size_lem = refl

pub held_size_lem : held_layout.size ≡ held_size
unfolding held_layout
held_size_lem = refl

pub target_size_lem : target_layout.size ≡ target_size
unfolding target_layout
target_size_lem = refl

pub asked_size : asked_layout.size ≡ kept_size
unfolding asked_layout
asked_size = refl
