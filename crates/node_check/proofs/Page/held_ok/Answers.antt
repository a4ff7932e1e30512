use Prim.Native.Nat.{◌+◌}
use mathlib.Core.Path.{◌≡◌}
use native.Mathlib.Omega.{arith}
use borrow.Author.Rules.{rules}
use Rattle.rules.specs.Line.{held_limit, node_at}
use Rattle.state.specs.State.{line_of}
use Rattle.state.specs.Sizes.{page_at, held_at, held_size}
use Rattle.items.specs.Items.{held_all_right}
use Rattle.buffer.specs.Exact.{held_exact}
use Rattle.node_check.proofs.NodeLaws.{list_found}
use Rattle.node_check.proofs.Page.held_ok.Goals as goal

pub returns : goal.returns
returns c =
    let p = c.args.self.now in
    let s = p.joins.state.now in
    let node = node_at (line_of s) p.n in
    let there : p.at + 1548 ≡ page_at p.n + held_at = omega (arith, p.there.start) in
    list_found held_exact held_limit held_size (page_at p.n + held_at) s (held_all_right (line_of s) p.n node.held) (rw there at c.list_ok.ensures) (λ used few k. search rules)
