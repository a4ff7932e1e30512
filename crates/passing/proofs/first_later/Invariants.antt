use Prim.Native.Nat.{◌≤◌, ◌<◌}
use lib.ListN.{length, drop}
use Rattle.plan.specs.Lawful.{Each}
use Rattle.rules.specs.Line.{Entry, node_at}
use Rattle.state.specs.State.{line_of}
use Rattle.passing.proofs.first_later.Given as goal

abbrev pub invariant-loop-k : goal.invariant-loop-k
invariant-loop-k l = (l.k ≤ length (node_at (line_of l.s) l.n).log) × Each (λ (e : Entry). l.mark < e.time) (drop l.k (node_at (line_of l.s) l.n).log)
