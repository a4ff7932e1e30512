use mathlib.Core.Path.{sym, ◌∙◌}
use native.Mathlib.Omega.{arith}
use Rattle.marking.proofs.MarkLaws.{marks_malformed, marks_length, aligned, few_rows, marks_no, marks_yes}
use Rattle.marking.proofs.mark_of.Goals as goal

pub returns-then-is_malformed-clause-marked : goal.returns-then-is_malformed-clause-marked
returns-then-is_malformed-clause-marked c = rw c.from.ensures (marks_malformed _ _ _ _ _ _ _ (sym c.is_malformed.ensures ∙ c.if-is_malformed.true))

pub returns-then-columns-table-clause-marked : goal.returns-then-columns-table-clause-marked
returns-then-columns-table-clause-marked c = rw c.from-then-columns-table.ensures (marks_length _ _ _ _ _ _ _ (sym c.is_malformed.ensures ∙ c.if-is_malformed.false) c.if-columns-table.true)

pub first_broken-requires : goal.first_broken-requires
first_broken-requires c = aligned _ _ _ _ _ _ _ (sym c.is_malformed.ensures ∙ c.if-is_malformed.false) (omega arith)

pub overflow_cast-result : goal.overflow_cast-result
overflow_cast-result c =
    let t = c.args.table.now in
    omega (arith, c.in-Some.ensures.0, few_rows t.low t.high t.rows.now t.times.now t.fixed.now t.floors.now (sym c.is_malformed.ensures ∙ c.if-is_malformed.false))

pub returns-in-Some-clause-marked : goal.returns-in-Some-clause-marked
returns-in-Some-clause-marked c = marks_no _ _ _ _ _ _ _ (sym c.is_malformed.ensures ∙ c.if-is_malformed.false) (omega arith) _ c.in-Some.ensures

pub returns-in-Some-clause-small : goal.returns-in-Some-clause-small
returns-in-Some-clause-small c =
    let t = c.args.table.now in
    omega (arith, c.in-Some.ensures.0, few_rows t.low t.high t.rows.now t.times.now t.fixed.now t.floors.now (sym c.is_malformed.ensures ∙ c.if-is_malformed.false))

pub returns-in-None-clause-marked : goal.returns-in-None-clause-marked
returns-in-None-clause-marked c = marks_yes _ _ _ _ _ _ _ (sym c.is_malformed.ensures ∙ c.if-is_malformed.false) (omega arith) c.in-None.ensures
