use Prim.Native.Nat.{◌+◌, ◌-◌}
use mathlib.Core.Path.{◌≡◌, refl, ◌∙◌}
use native.Mathlib.Omega.{arith}
use borrow.Author.Rules.{rules}
use Rattle.state.specs.Sizes.{node_rest}
use Rattle.node_check.proofs.NodeLaws.{rest_found}
use Rattle.node_check.proofs.PieceBytes.{zero_part}
use Rattle.node_check.proofs.Page.rest_ok.Goals as goal

pub returns : goal.returns
returns c =
    let p = c.args.self.now in
    let s = p.joins.state.now in
    let wide : p.at + 4096 - (p.at + 3632) ≡ node_rest = omega arith in
    rest_found s p.at c.list_ok-kept.ensures (λ used k. search rules) c.all_zero.result (c.all_zero.ensures ∙ zero_part (p.at + 3632) (p.at + 4096) (p.at + 3632) node_rest s refl wide)
