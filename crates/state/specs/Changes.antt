-- The changes that a node and a lane are written by, a field at a time.
use Rattle.std.specs.Prelude.{ℕ, Bool, List, [], ◌∷◌, ◌++◌, length, drop, replicate}
use Rattle.std.proofs.Math.Option.{Option}
use Rattle.rules.specs.Line.{Message, Entry, Held, Target, Asked, Status, Node, Lane}
use Rattle.rules.specs.Trim.{with_low, with_log}
use Rattle.state.specs.Lane.{with_heard}

-- ---- a node

abbrev pub with_status : Status → Node → Node
with_status v x = record { status = v; crashed = x.crashed; time = x.time; log = x.log; held = x.held; targets = x.targets; asked = x.asked }

abbrev pub with_crashed : Bool → Node → Node
with_crashed v x = record { status = x.status; crashed = v; time = x.time; log = x.log; held = x.held; targets = x.targets; asked = x.asked }

abbrev pub with_time : ℕ → Node → Node
with_time v x = record { status = x.status; crashed = x.crashed; time = v; log = x.log; held = x.held; targets = x.targets; asked = x.asked }

abbrev pub with_held : List Held → Node → Node
with_held v x = record { status = x.status; crashed = x.crashed; time = x.time; log = x.log; held = v; targets = x.targets; asked = x.asked }

abbrev pub with_targets : List Target → Node → Node
with_targets v x = record { status = x.status; crashed = x.crashed; time = x.time; log = x.log; held = x.held; targets = v; asked = x.asked }

abbrev pub with_asked : Option Asked → Node → Node
with_asked v x = record { status = x.status; crashed = x.crashed; time = x.time; log = x.log; held = x.held; targets = x.targets; asked = v }

abbrev pub more_logged : Entry → Node → Node
more_logged e x = with_log (x.log ++ e ∷ []) x

abbrev pub more_held : Held → Node → Node
more_held h x = with_held (x.held ++ h ∷ []) x

abbrev pub more_targets : Target → Node → Node
more_targets t x = with_targets (x.targets ++ t ∷ []) x

-- ---- a lane

abbrev pub with_mark : ℕ → Lane → Lane
with_mark v x = record { mark = v; taken = x.taken; heard = x.heard; queue = x.queue; low = x.low }

abbrev pub with_taken : ℕ → Lane → Lane
with_taken v x = record { mark = x.mark; taken = v; heard = x.heard; queue = x.queue; low = x.low }

abbrev pub with_queue : List Message → Lane → Lane
with_queue v x = record { mark = x.mark; taken = x.taken; heard = x.heard; queue = v; low = x.low }

abbrev pub nothing_heard : Lane → Lane
nothing_heard x = with_heard (replicate (length x.heard) 0) x

abbrev pub more_queued : Message → Lane → Lane
more_queued m x = with_queue (x.queue ++ m ∷ []) x

abbrev pub first_gone : Lane → Lane
first_gone x = with_queue (drop 1 x.queue) x

-- The low clock's part emptied.
abbrev pub nothing_low : Lane → Lane
nothing_low x = with_low (replicate (length x.low) 0) x
