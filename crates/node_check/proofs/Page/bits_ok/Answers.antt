use Prim.Native.Nat.{◌+◌, ◌*◌}
use mathlib.Core.Path.{refl, ◌∙◌}
use borrow.Author.Rules.{rules}
use Rattle.node_check.proofs.WalkLaws.{all_below}
use Rattle.node_check.proofs.SetLaws.{log_asked}
use Rattle.node_check.specs.NodeCheck.{entry_in}
use Rattle.node_check.specs.Sets.{bit_right}
use Rattle.state.specs.Sizes.{entry_size}
use Rattle.node_check.proofs.Page.bits_ok.Goals as goal

pub returns : goal.returns
returns c =
    let a = c.args in
    let p = a.self.now in
    let s = p.joins.state.now in
    let asked = bit_right a.c a.k in
    all_below _ _ _ (λ i. asked (entry_in (p.at + 12 + entry_size * i) s)) a.count c.all.ensures.ran refl (λ x t q k. search rules)
    ∙ log_asked s p.n p.at a.count c.requires.0 asked
