-- What stands in the slots, as the code holds it and as the line has it.
use Rattle.std.specs.Prelude.{ℕ, zero, suc, ◌<◌, ◌≡◌}
use Rattle.std.specs.declared.option.Option.{Option}
use Rattle.std.specs.declared.option.Option.TheVariants.{None, Some}
use Rattle.rules.specs.Line.{Origin, fed, made, Message, Entry, Held, Target}
use Rattle.state.specs.Pieces.{origin_from}
use Rattle.slots.specs.declared.Made.{Made}
use Rattle.slots.specs.declared.Sent.{Sent}
use Rattle.slots.specs.declared.Logged.{Logged}
use Rattle.slots.specs.declared.Waiting.{Waiting}
use Rattle.slots.specs.declared.Goal.{Goal}

-- The time that is written beside what something was made from: 0 beside nothing.
abbrev pub time_of : ℕ → ℕ → ℕ
time_of zero t = 0
time_of (suc s) t = t

abbrev pub origin_is : Made → Origin
origin_is m = origin_from m.from m.time

-- The sender that something was made from, or none.
abbrev pub SenderIs : Made → Option ℕ → Type 0
SenderIs m None = origin_is m ≡ fed
SenderIs m (Some q) = (origin_is m ≡ made q m.time) × (q < 255)

abbrev pub message_is : Sent → Message
message_is m = record { what = m.what; time = m.time; origin = origin_is m.made }

abbrev pub entry_is : Logged → Entry
entry_is e = record { what = e.what; time = e.time; origin = origin_is e.made; before = origin_is e.before; set = e.set }

abbrev pub held_is : Waiting → Held
held_is h = record { what = h.what; sender = h.sender; time = h.time; before = origin_is h.before }

abbrev pub target_is : Goal → Target
target_is g = record { time = g.time; parent = g.parent; parent_time = g.sent }
