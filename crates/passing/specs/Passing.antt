-- What Feed, Send and Take go by.
use Rattle.std.specs.Prelude.{ℕ, ◌≤◌, ◌<◌, ◌≡◌, false, List, length, take, drop}
use Rattle.std.specs.Prelude.{Option, Some, None}
use Rattle.std.proofs.Math.Option as maybe
use Rattle.plan.specs.Lawful.{Each}
use Rattle.plan.specs.Plan.{plan_channels}
use Rattle.rules.specs.Line as line
use Rattle.rules.specs.Line.{log_limit, node_at, lane_at, receiver_of, time_limit}
use Rattle.rules.specs.Step.{end_down, replaying}
use Rattle.state.specs.State.{line_of}
use Rattle.buffer.specs.Holds.{AtNode, Undamaged}
use Rattle.slots.specs.declared.Logged.{Logged}
use Rattle.slots.specs.Slots.{entry_is}

-- What a Send finds in the sender's log, as the line has it.
abbrev pub next_is : Option Logged → maybe.Option line.Entry
next_is (Some e) = maybe.some (entry_is e)
next_is None = maybe.none

-- The first r entries of a log are not later than a mark, and all behind them are.
pub record LaterFrom (mark : ℕ) (log : List line.Entry) (r : ℕ) : Type 0 where
  pub within : r ≤ length log
  pub early : Each (λ (e : line.Entry). e.time ≤ mark) (take r log)
  pub late : Each (λ (e : line.Entry). mark < e.time) (drop r log)

-- A node whose log has space, and whose time can rise.
pub record Loggable (s : List ℕ) (n : ℕ) : Type 0 where
  pub at : AtNode s n
  pub room : length (node_at (line_of s) n).log < log_limit
  pub time : (node_at (line_of s) n).time ≤ time_limit

-- A channel with something to take, whose receiver is up.
pub record Taking (s : List ℕ) (b : ℕ) : Type 0 where
  pub undamaged : Undamaged s
  pub below : b < plan_channels s
  pub standing : end_down (line_of s) b ≡ false
  pub waiting : 0 < length (lane_at (line_of s) b).queue
  pub live : replaying (line_of s) (receiver_of (line_of s) b) ≡ false
