use Prim.Native.Nat.{◌+◌, ◌*◌, ◌/◌, ◌^◌}
use mathlib.Core.Path.{◌≡◌, refl, ◌∙◌}
use borrow.Author.Rules.{rules}
use lib.Dec.{eqb}
use lib.ListN.{get_or}
use Rattle.node_check.proofs.WalkLaws.{all_below}
use Rattle.node_check.proofs.SetLaws.{log_asked, past_in}
use Rattle.node_check.specs.NodeCheck.{entry_in}
use Rattle.node_check.specs.Sets.{none_past}
use Rattle.state.specs.Sizes.{entry_size}
use Rattle.node_check.proofs.Page.none_past.Goals as goal

pub returns : goal.returns
returns c =
    let a = c.args in
    let p = a.self.now in
    let s = p.joins.state.now in
    let asked = none_past a.k in
    all_below _ _ _ (λ i. asked (entry_in (p.at + 12 + entry_size * i) s)) a.count c.all.ensures.ran refl
    (λ x t q k. (
      search rules,
      λ h.
          let slot = p.at + 12 + entry_size * x in
          let is : t ≡ eqb (get_or s (slot + 22) 0 / (2 ^ a.k)) 0 = search rules in
          is ∙ past_in s slot a.k,
    ))
    ∙ log_asked s p.n p.at a.count c.requires.0 asked
