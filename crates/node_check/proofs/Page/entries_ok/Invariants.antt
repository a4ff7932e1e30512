use Prim.Native.Nat.{◌+◌}
use mathlib.Core.Bool.{◌&&◌}
use Rattle.rules.specs.Line.{node_at}
use Rattle.state.specs.State.{line_of}
use Rattle.state.specs.Sizes.{page_at, log_at, count_size, entry_size}
use Rattle.items.specs.Items.{entries_right}
use Rattle.buffer.specs.Exact.{entry_exact, slots_exact}
use Rattle.node_check.specs.NodeCheck.{log_pass}
use Rattle.node_check.proofs.SlotLaws.{Going}
use Rattle.node_check.proofs.Page.entries_ok.Given as goal

abbrev pub invariant-loop-i : goal.invariant-loop-i
invariant-loop-i l =
    Going (log_pass l.s l.self.n) (l.self.at + 12) entry_size l.count (slots_exact entry_exact entry_size (page_at l.self.n + log_at + count_size) l.count l.s && entries_right (line_of l.s) l.self.n (node_at (line_of l.s) l.self.n).log) l.last l.i
