-- Lookups in the plan: what is found, or a number that stands for nothing.
use Rattle.std.specs.Prelude.{ℕ}
use Rattle.std.proofs.Math.Option.{Option, none, some}

abbrev pub number_or : ℕ → Option ℕ → ℕ
number_or d none = d
number_or d (some b) = b
