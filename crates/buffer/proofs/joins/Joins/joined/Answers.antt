use mathlib.Core.Path.{◌∙◌}
use native.Mathlib.Omega.{arith}
use Rattle.buffer.proofs.JoinLaws.{missing, missing_outside, joining}
use Rattle.buffer.proofs.joins.Joins.joined.Goals.{then-sender-ge12-via-then-sender-ge12, then-sender-ge12-via-else-sender-ge12+then-node-ge12}
use Rattle.buffer.proofs.joins.Joins.joined.Goals as goal

pub returns-then-sender-ge12 : goal.returns-then-sender-ge12
returns-then-sender-ge12 c =
    let a = c.args in
    elim c.then-sender-ge12.branch [
      | then-sender-ge12-via-then-sender-ge12 w ↦ missing_outside a.self.now.state.now a.self.now.ready a.sender a.node (λ h. omega (arith, h.0, w.if-sender-ge12.true))
      | then-sender-ge12-via-else-sender-ge12+then-node-ge12 w ↦ missing_outside a.self.now.state.now a.self.now.ready a.sender a.node (λ h. omega (arith, h.1, w.if-node-ge12.true))
    ]

pub returns-then-code-eq255 : goal.returns-then-code-eq255
returns-then-code-eq255 c =
    let a = c.args in
    let j = a.self.now in
    missing j.state.now j.ready a.sender a.node c.from-code.result (c.from-code.ensures ∙ j.whole.joins a.sender a.node (omega arith) (omega arith)) c.if-code-eq255.true

pub returns : goal.returns
returns c =
    let a = c.args in
    let j = a.self.now in
    joining j.state.now j.ready a.sender a.node c.from-code.result (c.from-code.ensures ∙ j.whole.joins a.sender a.node (omega arith) (omega arith)) c.if-code-eq255.false
