-- What stands at an offset.
use Rattle.std.specs.Prelude.{ℕ, List, take, drop}
use Rattle.plan.specs.declared.Record.{Record}
use Rattle.plan.specs.Record.{record_layout}

abbrev pub record_in : ℕ → List ℕ → Record
record_in a s = record_layout.read (take 8 (drop a s))
