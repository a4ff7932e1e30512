use mathlib.Core.Path.{refl, ap, ◌∙◌}
use Prim.Native.Nat.{ℕ}
use borrow.Author.Rules.{rules}
use Rattle.rules.specs.Lists.{all_of, up_to}
use Rattle.node_check.proofs.WalkLaws.{all_below}
use Rattle.items.specs.Items.{restart_right}
use Rattle.state.specs.State.{line_of}
use Rattle.line.proofs.whole.restarts_ok.Goals as goal

pub returns : goal.returns
returns c =
    let s = c.args.s.now in
    all_below _ _ _ (restart_right (line_of s)) c.node_count.result c.all.ensures.ran refl (λ x t q k. search rules) ∙ ap (λ (n : ℕ). all_of (restart_right (line_of s)) (up_to 0 n)) c.node_count.ensures.0
