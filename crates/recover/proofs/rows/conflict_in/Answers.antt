use Rattle.std.proofs.Common.{sym, ◌∙◌}
use Rattle.recover.proofs.RowLaws.{conflict_here, conflict_behind}
use Rattle.recover.proofs.rows.conflict_in.Goals as goal

pub returns-then-clashes : goal.returns-then-clashes
returns-then-clashes c =
    let w = c.in-Some in
    (sym (c.loop-g.invariant ∙ conflict_here c.loop-g.rest.now w.g.now w.behind.now w.ensures.cases.0 (sym c.if-clashes.ensures)), c.rising.ensures.1)

pub loop-g-preserved : goal.loop-g-preserved
loop-g-preserved c =
    let w = c.in-Some in
    c.loop-g.invariant ∙ conflict_behind c.loop-g.rest.now w.g.now w.behind.now w.ensures.cases.0 (sym c.if-clashes.ensures)
