use mathlib.Core.Path.{◌≡◌, refl, sym, ◌∙◌}
use mathlib.Core.Bool.{true}
use native.Mathlib.Omega.{arith}
use lib.Seq.{length-take-le}
use lib.ListN.{length}
use Rattle.std.proofs.lemmas.Result.{err_from_is_err_and}
use Rattle.answers.specs.Number.{refusal_number}
use Rattle.placing.specs.Item.{items_of}
use Rattle.placing.specs.Walk.{walked, none_wait}
use Rattle.placing.specs.Answer.{answer, columns_left}
use Rattle.placing.specs.Places.{Formed}
use Rattle.placing.proofs.AnswerLaws.{some_wait, all_placed, refuses_form, refuses_short, refuses_none, accepts}
use Rattle.placing.proofs.Formed.{formed}
use Rattle.placing.proofs.Table.place.Goals.{Else-is_malformed, In_err-walk, In_ok-walk}
use Rattle.placing.proofs.Table.place.Goals as goal

pub returns-then-is_malformed-clause-number : goal.returns-then-is_malformed-clause-number
returns-then-is_malformed-clause-number c =
    let t = c.args.self.now in
    (refuses_form t.low t.high t.rows.now t.times.now t.fixed.now t.floors.now c.args.columns.now (sym c.is_malformed.ensures ∙ c.if-is_malformed.true)).0

pub returns-then-is_malformed-clause-left : goal.returns-then-is_malformed-clause-left
returns-then-is_malformed-clause-left c =
    let t = c.args.self.now in
    (refuses_form t.low t.high t.rows.now t.times.now t.fixed.now t.floors.now c.args.columns.now (sym c.is_malformed.ensures ∙ c.if-is_malformed.true)).1

pub returns-then-columns-n-clause-number : goal.returns-then-columns-n-clause-number
returns-then-columns-n-clause-number c =
    let t = c.args.self.now in
    (refuses_short t.low t.high t.rows.now t.times.now t.fixed.now t.floors.now c.args.columns.now (sym c.is_malformed.ensures ∙ c.if-is_malformed.false) c.if-columns-n.true).0

pub returns-then-columns-n-clause-left : goal.returns-then-columns-n-clause-left
returns-then-columns-n-clause-left c =
    let t = c.args.self.now in
    (refuses_short t.low t.high t.rows.now t.times.now t.fixed.now t.floors.now c.args.columns.now (sym c.is_malformed.ensures ∙ c.if-is_malformed.false) c.if-columns-n.true).1

-- What a table that is not malformed tells.
form : (c : goal.Else-is_malformed)
    → let t = c.args.self.now in
    Formed t.low t.high t.rows.now t.fixed.now t.floors.now
form c = let t = c.args.self.now in formed t.low t.high t.rows.now t.times.now t.fixed.now t.floors.now (sym c.is_malformed.ensures ∙ c.if-is_malformed.false)

pub invariant_of-table : goal.invariant_of-table
invariant_of-table c = record { formed = form (goal.at.invariant_of-table c).Else-is_malformed }

-- Where the walk refuses.
unplaced : (c : goal.In_err-walk)
    → let t = c.args.self.now in
    (refusal_number c.in_err-walk.field-0.0 ≡ answer t.low t.high t.rows.now t.times.now t.fixed.now t.floors.now c.args.columns.now)
    × (c.args.columns.now ≡ columns_left t.low t.high t.rows.now t.times.now t.fixed.now t.floors.now c.args.columns.now)
unplaced c =
    let t = c.args.self.now in
    let (waits, number) = some_wait c.in_err-walk.field-0.0 _ (c.in_err-walk.ensures.number_is t.times.now) in
    let r = refuses_none t.low t.high t.rows.now t.times.now t.fixed.now t.floors.now c.args.columns.now (sym c.is_malformed.ensures ∙ c.if-is_malformed.false) c.if-columns-n.false waits in
    (number ∙ r.0, r.1)

pub returns-in_err-walk-clause-number : goal.returns-in_err-walk-clause-number
returns-in_err-walk-clause-number c =
    let p = err_from_is_err_and c.from_residual.result c.from_residual.ensures.1 in
    rw (p.1, p.2) (unplaced (goal.at.returns-in_err-walk-clause-number c).In_err-walk).0

pub returns-in_err-walk-clause-left : goal.returns-in_err-walk-clause-left
returns-in_err-walk-clause-left c = (unplaced (goal.at.returns-in_err-walk-clause-left c).In_err-walk).1

pub slice_bounds-work-end : goal.slice_bounds-work-end
slice_bounds-work-end c = omega (arith, c.walk.array_long, (form (goal.at.slice_bounds-work-end c).Else-is_malformed).ordered.few)

pub slice_bounds-copy_from_slice-end-3 : goal.slice_bounds-copy_from_slice-end-3
slice_bounds-copy_from_slice-end-3 c =
    sym (length-take-le (length c.args.self.now.rows.now) c.walk.new.work (omega (arith, c.walk.array_long, (form (goal.at.slice_bounds-copy_from_slice-end-3 c).Else-is_malformed).ordered.few)))

pub copy_from_slice-requires : goal.copy_from_slice-requires
copy_from_slice-requires c =
    let n = length c.args.self.now.rows.now in
    length-take-le n c.args.columns.now c.if-columns-n.false
    ∙ sym (length-take-le n c.walk.new.work (omega (arith, c.walk.array_long, (form (goal.at.copy_from_slice-requires c).Else-is_malformed).ordered.few)))

-- Where it accepts.
all_there : (c : goal.In_ok-walk)
    → let t = c.args.self.now in
    none_wait (walked t.low t.high (items_of t.rows.now t.times.now t.fixed.now t.floors.now)).waiting ≡ true
all_there c = all_placed 0 _ refl (c.in_ok-walk.ensures.number_is c.args.self.now.times.now)

pub returns-clause-number : goal.returns-clause-number
returns-clause-number c =
    let t = c.args.self.now in
    (accepts t.low t.high t.rows.now t.times.now t.fixed.now t.floors.now c.args.columns.now (sym c.is_malformed.ensures ∙ c.if-is_malformed.false) c.if-columns-n.false (all_there (goal.at.returns-clause-number c).In_ok-walk) _ refl).0

pub returns-clause-left : goal.returns-clause-left
returns-clause-left c =
    let t = c.args.self.now in
    (accepts t.low t.high t.rows.now t.times.now t.fixed.now t.floors.now c.args.columns.now (sym c.is_malformed.ensures ∙ c.if-is_malformed.false) c.if-columns-n.false (all_there (goal.at.returns-clause-left c).In_ok-walk) _
    (rw (c.copy_from_slice.ensures.after, c.walk.ensures.columns_are t.times.now))).1
