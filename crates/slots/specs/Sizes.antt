-- How many bytes a piece is written in.
use mathlib.Core.Path.{◌≡◌}
use lib.ListN.{length}
use Rattle.plan.specs.declared.Record.{Record}
use Rattle.plan.specs.Record.{record_layout}
use Rattle.rules.specs.Line.{Origin, Message, Entry, Held, Target}
use Rattle.state.specs.Pieces.{origin_layout, message_layout, entry_layout, held_layout, target_layout}
use Rattle.state.proofs.PieceLaws.{record_sound, origin_sound, message_sound, entry_sound, held_sound, target_sound}

pub record-long : (r : Record) → length (record_layout.write r) ≡ 8
unfolding record_layout
record-long = record_sound.sized

pub origin-long : (o : Origin) → length (origin_layout.write o) ≡ 5
unfolding origin_layout
origin-long = origin_sound.sized

pub message-long : (m : Message) → length (message_layout.write m) ≡ 20
unfolding message_layout
message-long = message_sound.sized

pub entry-long : (e : Entry) → length (entry_layout.write e) ≡ 24
unfolding entry_layout
entry-long = entry_sound.sized

pub held-long : (h : Held) → length (held_layout.write h) ≡ 20
unfolding held_layout
held-long = held_sound.sized

pub target-long : (t : Target) → length (target_layout.write t) ≡ 12
unfolding target_layout
target-long = target_sound.sized
