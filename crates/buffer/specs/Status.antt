-- A node's status as the code holds it and as the line has it.
use Rattle.rules.specs.Line.{Status, up, down, replay}
use Rattle.buffer.specs.declared.status.Status.{Status as StatusHeld}
use Rattle.buffer.specs.declared.status.Status.TheVariants.{Up, Down, Replaying}

abbrev pub status_is : StatusHeld → Status
status_is Up = up
status_is Down = down
status_is Replaying = replay
