use Prim.Native.Nat.{◌+◌}
use mathlib.Core.Path.{◌≡◌}
use mathlib.Core.Bool.{◌&&◌}
use lib.ListN.{length}
use Rattle.rules.specs.Line.{node_at}
use Rattle.state.specs.State.{line_of}
use Rattle.state.specs.Sizes.{page_at, held_at, count_size, held_size}
use Rattle.items.specs.Items.{held_all_right}
use Rattle.buffer.specs.Exact.{held_exact, slots_exact}
use Rattle.node_check.proofs.SlotLaws.{Going}
use Rattle.node_check.proofs.NodeLaws.{held_pass}
use Rattle.node_check.proofs.Page.held_each_ok.Given as goal

abbrev pub invariant-loop-i : goal.invariant-loop-i
invariant-loop-i l =
    (length l.rows ≡ 12) × Going (held_pass l.s l.self.n) (l.self.at + 1552) held_size l.count (slots_exact held_exact held_size (page_at l.self.n + held_at + count_size) l.count l.s && held_all_right (line_of l.s) l.self.n (node_at (line_of l.s) l.self.n).held) l.rows l.i
