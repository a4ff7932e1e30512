use Rattle.std.proofs.Common.{◌+◌, ◌*◌, sym, ◌∙◌, arith}
use Rattle.rules.specs.Line.{Entry}
use Rattle.state.specs.State.{line_of}
use Rattle.recover.specs.Found.{entry_at}
use Rattle.recover.proofs.TripleLaws.{made_from, made_before, fed_tells, other_tells, source_tells, made_tells}
use Rattle.recover.proofs.told.told_at.Goals as goal

pub returns-in_err-sender : goal.returns-in_err-sender
returns-in_err-sender c =
    let a = c.args in
    let p = c.requires in
    let e : Entry = entry_at (line_of a.s.now) a.k a.i in
    let made = sym (made_from a.s.now p.0 p.1 a.k p.3 a.i p.5 (4096 * (1 + a.k) + 12 + 24 * a.i + 12) (omega arith)) ∙ sym c.read-made.ensures in
    rw c.from_residual.ensures (fed_tells a.n e.origin e.before (made ∙ c.in_err-sender.ensures))

pub returns-then-branch-n : goal.returns-then-branch-n
returns-then-branch-n c =
    let a = c.args in
    let p = c.requires in
    let e : Entry = entry_at (line_of a.s.now) a.k a.i in
    let made = sym (made_from a.s.now p.0 p.1 a.k p.3 a.i p.5 (4096 * (1 + a.k) + 12 + 24 * a.i + 12) (omega arith)) ∙ sym c.read-made.ensures in
    other_tells a.n e.origin e.before c.in_ok-sender.field-0 c.read-made.result.time (made ∙ c.in_ok-sender.ensures.0) c.if-branch-n.true

pub returns-in_err-parent : goal.returns-in_err-parent
returns-in_err-parent c =
    let a = c.args in
    let p = c.requires in
    let e : Entry = entry_at (line_of a.s.now) a.k a.i in
    let made = sym (made_from a.s.now p.0 p.1 a.k p.3 a.i p.5 (4096 * (1 + a.k) + 12 + 24 * a.i + 12) (omega arith)) ∙ sym c.read-made.ensures in
    let before = sym (made_before a.s.now p.0 p.1 a.k p.3 a.i p.5 (4096 * (1 + a.k) + 12 + 24 * a.i + 17) (omega arith)) ∙ sym c.read-before.ensures in
    rw c.from_residual-in_err-parent.ensures (source_tells a.n e.origin e.before c.in_ok-sender.field-0 c.read-made.result.time (made ∙ c.in_ok-sender.ensures.0) (before ∙ c.in_err-parent.ensures))

pub returns : goal.returns
returns c =
    let a = c.args in
    let p = c.requires in
    let e : Entry = entry_at (line_of a.s.now) a.k a.i in
    let made = sym (made_from a.s.now p.0 p.1 a.k p.3 a.i p.5 (4096 * (1 + a.k) + 12 + 24 * a.i + 12) (omega arith)) ∙ sym c.read-made.ensures in
    let before = sym (made_before a.s.now p.0 p.1 a.k p.3 a.i p.5 (4096 * (1 + a.k) + 12 + 24 * a.i + 17) (omega arith)) ∙ sym c.read-before.ensures in
    made_tells a.n e.origin e.before c.in_ok-sender.field-0 c.read-made.result.time c.in_ok-parent.parent c.read-before.result.time (made ∙ c.in_ok-sender.ensures.0) c.if-branch-n.false (before ∙ c.in_ok-parent.ensures.0)
