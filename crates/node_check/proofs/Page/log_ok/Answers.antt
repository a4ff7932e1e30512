use Prim.Native.Nat.{◌+◌}
use mathlib.Core.Path.{◌≡◌}
use mathlib.Core.Path.{◌∙◌}
use mathlib.Core.Bool.{◌&&◌}
use native.Mathlib.Omega.{arith}
use borrow.Author.Rules.{rules}
use Rattle.rules.specs.Line.{log_limit, node_at}
use Rattle.rules.specs.Lists.{all_of}
use Rattle.state.specs.State.{line_of}
use Rattle.state.specs.Right.{word_at}
use Rattle.plan.specs.Plan.{plan_of}
use Rattle.state.specs.Sizes.{count_size, page_at, log_at, entry_size}
use Rattle.items.specs.Items.{entries_right, set_right, log_right}
use Rattle.buffer.specs.Exact.{entry_exact, slots_exact}
use Rattle.node_check.proofs.NodeLaws.{list_found, log_both}
use Rattle.node_check.proofs.Page.log_ok.Goals as goal

pub returns : goal.returns
returns c =
    let p = c.args.self.now in
    let s = p.joins.state.now in
    let node = node_at (line_of s) p.n in
    let there : p.at + 8 ≡ page_at p.n + log_at = omega (arith, p.there.start) in
    list_found entry_exact log_limit entry_size (page_at p.n + log_at) s (log_right (line_of s) p.n node.log) (rw there at c.list_ok.ensures)
    (λ used few k.
    let slots = slots_exact entry_exact entry_size (page_at p.n + log_at + count_size) (word_at (page_at p.n + log_at) s) s in
    let both : used ≡ ((slots && entries_right (line_of s) p.n node.log) && all_of (set_right (plan_of s) p.n) node.log) = search rules in
    both ∙ log_both s p.n slots)
