use mathlib.Core.Path.{refl, ap, ◌∙◌}
use Prim.Native.Nat.{ℕ}
use borrow.Author.Rules.{rules}
use Rattle.rules.specs.Lists.{all_of, up_to}
use Rattle.node_check.proofs.WalkLaws.{all_below}
use Rattle.line.specs.Whole.{channel_checked}
use Rattle.line.proofs.whole.channels_ok.Goals as goal

pub returns : goal.returns
unfolding channel_checked
returns c =
    let s = c.args.joins.now.state.now in
    all_below _ _ _ (channel_checked s) c.channel_count.result c.all.ensures.ran refl (λ x t q k. search rules) ∙ ap (λ (n : ℕ). all_of (channel_checked s) (up_to 0 n)) c.channel_count.ensures.0
