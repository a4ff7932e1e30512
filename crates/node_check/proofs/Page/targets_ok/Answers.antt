use Prim.Native.Nat.{◌+◌}
use mathlib.Core.Path.{◌≡◌}
use native.Mathlib.Omega.{arith}
use borrow.Author.Rules.{rules}
use Rattle.rules.specs.Line.{target_limit, node_at}
use Rattle.rules.specs.Lists.{all_of}
use Rattle.state.specs.State.{line_of}
use Rattle.state.specs.Sizes.{page_at, targets_at, target_size}
use Rattle.items.specs.Items.{target_right}
use Rattle.buffer.specs.Exact.{target_exact}
use Rattle.node_check.proofs.NodeLaws.{list_found}
use Rattle.node_check.proofs.Page.targets_ok.Goals as goal

pub returns : goal.returns
returns c =
    let p = c.args.self.now in
    let s = p.joins.state.now in
    let node = node_at (line_of s) p.n in
    let there : p.at + 2832 ≡ page_at p.n + targets_at = omega (arith, p.there.start) in
    list_found target_exact target_limit target_size (page_at p.n + targets_at) s (all_of (target_right (line_of s) p.n) node.targets) (rw there at c.list_ok.ensures) (λ used few k. search rules)
