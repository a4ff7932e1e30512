use Prim.Native.Nat.{◌+◌, ◌*◌, ◌-◌}
use Rattle.node_check.specs.NodeCheck.{log_pass}
use Rattle.state.specs.Sizes.{entry_size}
use Rattle.node_check.proofs.SlotLaws.{Going}
use Rattle.node_check.proofs.Page.entries_on.Given as goal

abbrev pub invariant-loop-i : goal.invariant-loop-i
invariant-loop-i l = Going (log_pass l.s l.self.n) (l.self.at + 12) entry_size l.count (log_pass l.s l.self.n l.last (l.self.at + 12 + entry_size * l.first) (l.count - l.first)) l.so_far l.i
