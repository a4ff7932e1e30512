use Prim.Native.Nat.{ℕ, ◌≤◌}
use mathlib.Core.Path.{◌≡◌}
use mathlib.Core.List.{List}
use Rattle.plan.specs.Plan.{plan_channels}
use Rattle.state.specs.State.{line_of}
use Rattle.replay.specs.After.{row_after, rows_after}
use Rattle.replay.proofs.RowLaws.{all_from}
use Rattle.replay.proofs.rows_after.Given as goal

-- All rows, by those left: the ones before are complete.
pub record RowsFrom (s : List ℕ) (n b time c : ℕ) : Type 0 where
  pub few : c ≤ plan_channels s
  pub now : rows_after (line_of s) n b time ≡ all_from (line_of s).plan n (row_after (line_of s) n b time) c

abbrev pub invariant-loop-c : goal.invariant-loop-c
invariant-loop-c l = RowsFrom l.s l.n l.b l.time l.c
