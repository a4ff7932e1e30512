use Prim.Native.Nat.{◌+◌, ◌*◌}
use mathlib.Core.Path.{◌≡◌, refl, ap, sym, ◌∙◌}
use mathlib.Core.Bool.{◌&&◌}
use mathlib.Core.List.{List}
use native.Mathlib.Omega.{arith}
use borrow.Author.Rules.{rules}
use Rattle.node_check.proofs.WalkLaws.{all_below}
use Rattle.node_check.proofs.SlotLaws.{exact_slot}
use Rattle.node_check.proofs.NodeLaws.{target-slots}
use Rattle.node_check.specs.NodeCheck.{target_in}
use Rattle.buffer.specs.Exact.{target_exact, slots_exact}
use Rattle.state.specs.State.{line_of}
use Rattle.state.specs.Sizes.{page_at, targets_at, count_size, target_size}
use Rattle.rules.specs.Lists.{all_of}
use Rattle.rules.specs.Line.{Target}
use Rattle.items.specs.Items.{target_right}
use Rattle.node_check.proofs.Page.target_each_ok.Goals as goal

pub returns : goal.returns
returns c =
    let a = c.args in
    let p = a.self.now in
    let s = p.joins.state.now in
    let right = target_right (line_of s) p.n in
    let start = page_at p.n + targets_at + count_size in
    let from : p.at + 2836 ≡ start = omega (arith, p.there.start) in
    all_below _ _ _ (λ i. target_exact (start + target_size * i) s && right (target_in (start + target_size * i) s)) a.count c.all.ensures.ran refl (λ x t q k. search rules)
    ∙ exact_slot target_in target_size s right target_exact start a.count
    ∙ ap (λ (ts : List Target). slots_exact target_exact target_size start a.count s && all_of right ts) (sym (target-slots s p.n p.at p.there a.count c.requires.0 c.requires.1))
