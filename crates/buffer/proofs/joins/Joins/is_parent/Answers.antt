use mathlib.Core.Path.{◌∙◌}
use Rattle.buffer.proofs.JoinLaws.{parent_joined}
use Rattle.buffer.proofs.joins.Joins.is_parent.Goals as goal

pub returns : goal.returns
returns c =
    let a = c.args in
    c.is_some.ensures ∙ parent_joined a.self.now.state.now a.sender a.node c.joined.result c.joined.ensures
