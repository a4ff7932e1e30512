use mathlib.Core.Path.{refl, ap, ◌∙◌}
use Prim.Native.Nat.{ℕ}
use borrow.Author.Rules.{rules}
use Rattle.rules.specs.Lists.{all_of, up_to}
use Rattle.node_check.proofs.WalkLaws.{all_below}
use Rattle.line.specs.Whole.{node_checked}
use Rattle.line.proofs.whole.pages_ok.Goals as goal

pub returns : goal.returns
unfolding node_checked
returns c =
    let s = c.args.joins.now.state.now in
    all_below _ _ _ (node_checked s) c.node_count.result c.all.ensures.ran refl (λ x t q k. search rules) ∙ ap (λ (n : ℕ). all_of (node_checked s) (up_to 0 n)) c.node_count.ensures.0
