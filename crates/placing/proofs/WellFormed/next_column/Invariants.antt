use Prim.Native.Nat.{ℕ, ◌≤◌, ◌<◌}
use mathlib.Core.List.{List}
use lib.ListN.{get_or}
use Rattle.placing.proofs.WellFormed.next_column.Given as goal

-- Of the rows before r none is open by column `least`.
pub record Least (high : ℕ) (shut : List ℕ) (c least r : ℕ) : Type 0 where
  pub past : c ≤ least
  pub within : least ≤ high
  pub of : (q : ℕ) → q < r → least ≤ get_or shut q 0

abbrev pub invariant-loop-until : goal.invariant-loop-until
invariant-loop-until l = Least l.self.high l.shut l.c l.least l.until-index
