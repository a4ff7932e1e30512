use Prim.Native.Nat.{◌+◌, ◌*◌, ◌%◌}
use mathlib.Core.Path.{◌≡◌, refl, ◌∙◌}
use borrow.Author.Rules.{rules}
use lib.Dec.{eqb}
use lib.ListN.{get_or}
use Rattle.node_check.proofs.WalkLaws.{all_below}
use Rattle.node_check.proofs.SetLaws.{log_asked, record_known, entry_listed}
use Rattle.node_check.specs.NodeCheck.{entry_in}
use Rattle.plan.specs.Plan.{plan_of}
use Rattle.items.specs.Items.{set_right}
use Rattle.state.specs.Sizes.{entry_size}
use Rattle.node_check.proofs.Page.listed_ok.Goals as goal

pub returns : goal.returns
returns c =
    let a = c.args in
    let p = a.self.now in
    let s = p.joins.state.now in
    let asked = set_right (plan_of s) p.n in
    all_below _ _ _ (λ i. asked (entry_in (p.at + 12 + entry_size * i) s)) a.count c.all.ensures.ran refl
    (λ x t q k. (
      search rules,
      λ h.
          let slot = p.at + 12 + entry_size * x in
          let is : t ≡ eqb (get_or s (slot + 22) 0) (get_or a.sets.now (get_or s (slot + 4) 0 % 32) 0) = search rules in
          is ∙ entry_listed s slot p.n a.sets.now (get_or s (slot + 4) 0) c.requires.1 (record_known s p.n p.at a.count c.requires.0 x h) refl,
    ))
    ∙ log_asked s p.n p.at a.count c.requires.0 asked
