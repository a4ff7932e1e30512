use Prim.Native.Nat.{◌≤◌, ◌<◌}
use mathlib.Core.Path.{◌≡◌, refl}
use mathlib.Core.Logic.{◌⊎◌, inl, inr, ⊎_elim}
use mathlib.Core.Option.{none, some}
use native.Mathlib.Omega.{arith}
use lib.ListN.{get_or}
use lib.Dec.{ltb}
use borrow.Author.Tests.{eq-eqb, ne_eqb, leb-true, leb-false, ltb-true, ltb-false}
use Rattle.std.specs.Prelude.{Some}
use Rattle.placing.specs.Table.{most_items, row_count}
use Rattle.placing.specs.Walk.{or_else}
use Rattle.placing.specs.declared.Pick.{Pick}
use Rattle.placing.specs.Places.{candidate_of}
use Rattle.basics.specs.Bools.{both_true, one_false}
use Rattle.placing.proofs.Turn.{Begun, Chosen, searching_ended, turn_fixed, turn_free, turn_passed, turn_nothing, chosen_inside, column_taken, column_empty, shut_taken, goes_on_lem, walking_begun, shut_begun, walking_done}
use Rattle.placing.proofs.WellFormed.walk.Goals.{in-Free, in-Passed, in-Nothing, in-Some, in_default, then-loop-row-test+in-Fixed, else-loop-row-test, In-loop-left, Left-loop-row, After-loop-left}
use Rattle.placing.proofs.WellFormed.walk.Goals as goal

pub loop-left-init : goal.loop-left-init
loop-left-init c =
    let a = c.args in
    let t = a.self.now in
    let p : Begun t.low t.high t.rows.now t.fixed.now t.floors.now c.prepare.new.lasts c.prepare.new.next a.work.now = record { formed = t.formed; work_clear = c.requires; prepared = c.prepare.ensures } in
    (walking_begun t.low t.high t.rows.now t.fixed.now t.floors.now c.prepare.new.lasts c.prepare.new.next a.work.now p, shut_begun p c.shut_rows-shut.ensures)

going : (c : goal.In-loop-left) → (c.loop-left.c ≤ c.args.self.now.high) × (0 < c.loop-left.left)
going c = let t = both_true (ltb 0 c.loop-left.left) _ c.loop-left-test.true in omega (arith, leb-true, ltb-true, t.0, t.1)

pub loop-row-preserved : goal.loop-row-preserved
loop-row-preserved c =
    let w = c.loop-left.invariant.0 in
    let s = c.loop-row.invariant.0 in
    let all = c.loop-row.invariant.1 in
    let l : c.loop-row.row < 4 = omega arith in
    let q = (going (goal.at.loop-row-preserved c).In-loop-left).0 in
    let o = c.offered.ensures in
    elim c.match-offered.branch [
      | in-Free v ↦ rw (v.shut-is, v.best-is, v.sooner-best.ensures) (turn_free w s l all q o v.in-Free.last v.in-Free.is, all)
      | in-Passed v ↦ rw (v.shut-is, v.best-is) (turn_passed w s l all q o v.in-Passed.is)
      | in-Nothing v ↦ rw (v.shut-is, v.best-is) (turn_nothing w s l all q o v.in-Nothing.is, all)
    ]

-- What the search is left with is the walk's choice at the column.
chosen_now : (c : goal.Left-loop-row)
    → let t = c.args.self.now in
    Chosen t.high t.rows.now t.fixed.now t.floors.now c.loop-left.next c.loop-left.c (or_else none (candidate_of c.loop-row-test.chosen))
chosen_now c =
    let s = c.loop-row.invariant in
    let t = both_true (ltb 0 c.loop-left.left) _ c.loop-left-test.true in
    let q : c.loop-left.c ≤ c.args.self.now.high = omega (arith, leb-true, t.1) in
    elim c.loop-row-test.branch [
      | then-loop-row-test+in-Fixed v ↦ rw v.chosen-is (turn_fixed c.loop-left.invariant.0 s.0 (omega (arith, v.loop-row-test.true)) s.1 q v.offered.ensures v.in-Fixed.is)
      | else-loop-row-test v ↦ rw v.chosen-is (searching_ended (omega (arith, v.loop-row-test.false)) s.0)
    ]

pick_now : (c : goal.Left-loop-row) (pick : Pick) → c.loop-row-test.chosen ≡ Some pick
    → let t = c.args.self.now in
    Chosen t.high t.rows.now t.fixed.now t.floors.now c.loop-left.next c.loop-left.c (some pick.row)
pick_now c pick e times = rw e at (chosen_now c times)

inside_now : (c : goal.Left-loop-row) (pick : Pick) → c.loop-row-test.chosen ≡ Some pick → (pick.row < row_count) × (get_or c.loop-left.next pick.row 0 < most_items)
inside_now c pick e =
    let t = chosen_inside c.loop-left.invariant.0 pick.row (pick_now c pick e) in
    (t.0, omega (arith, t.1, c.loop-left.invariant.0.begun.formed.ordered.few))

pub offset_bounds-next-pick : goal.offset_bounds-next-pick
offset_bounds-next-pick c = let i = inside_now (goal.at.offset_bounds-next-pick c).Left-loop-row c.in-Some.pick c.in-Some.is in omega (arith, i.0, i.1, c.loop-left.invariant.0.next_long, c.loop-left.invariant.0.work_long)

pub bounds-next-pick : goal.bounds-next-pick
bounds-next-pick c = let i = inside_now (goal.at.bounds-next-pick c).Left-loop-row c.in-Some.pick c.in-Some.is in omega (arith, i.0, i.1, c.loop-left.invariant.0.next_long, c.loop-left.invariant.0.work_long)

pub offset_bounds-work-i : goal.offset_bounds-work-i
offset_bounds-work-i c = let i = inside_now (goal.at.offset_bounds-work-i c).Left-loop-row c.in-Some.pick c.in-Some.is in omega (arith, i.0, i.1, c.loop-left.invariant.0.next_long, c.loop-left.invariant.0.work_long)

pub bounds-work-i : goal.bounds-work-i
bounds-work-i c = let i = inside_now (goal.at.bounds-work-i c).Left-loop-row c.in-Some.pick c.in-Some.is in omega (arith, i.0, i.1, c.loop-left.invariant.0.next_long, c.loop-left.invariant.0.work_long)

pub overflow_add-next : goal.overflow_add-next
overflow_add-next c = let i = inside_now (goal.at.overflow_add-next c).Left-loop-row c.in-Some.pick c.in-Some.is in omega (arith, i.0, i.1, c.loop-left.invariant.0.next_long, c.loop-left.invariant.0.work_long)

pub offset_bounds-next-pick-in-Some : goal.offset_bounds-next-pick-in-Some
offset_bounds-next-pick-in-Some c = let i = inside_now (goal.at.offset_bounds-next-pick-in-Some c).Left-loop-row c.in-Some.pick c.in-Some.is in omega (arith, i.0, i.1, c.loop-left.invariant.0.next_long, c.loop-left.invariant.0.work_long)

pub bounds-next-pick-in-Some : goal.bounds-next-pick-in-Some
bounds-next-pick-in-Some c = let i = inside_now (goal.at.bounds-next-pick-in-Some c).Left-loop-row c.in-Some.pick c.in-Some.is in omega (arith, i.0, i.1, c.loop-left.invariant.0.next_long, c.loop-left.invariant.0.work_long)

pub overflow_add-i : goal.overflow_add-i
overflow_add-i c = let i = inside_now (goal.at.overflow_add-i c).Left-loop-row c.in-Some.pick c.in-Some.is in omega (arith, i.0, i.1, c.loop-left.invariant.0.next_long, c.loop-left.invariant.0.work_long)

pub offset_bounds-shut-pick : goal.offset_bounds-shut-pick
offset_bounds-shut-pick c = let i = inside_now (goal.at.offset_bounds-shut-pick c).Left-loop-row c.in-Some.pick c.in-Some.is in omega (arith, i.0, i.1, c.loop-left.invariant.0.next_long, c.loop-left.invariant.0.work_long)

pub bounds-shut-pick : goal.bounds-shut-pick
bounds-shut-pick c = let i = inside_now (goal.at.bounds-shut-pick c).Left-loop-row c.in-Some.pick c.in-Some.is in omega (arith, i.0, i.1, c.loop-left.invariant.0.next_long, c.loop-left.invariant.0.work_long)

pub loop-left-preserved : goal.loop-left-preserved
loop-left-preserved c =
    let w = c.loop-left.invariant.0 in
    let s = c.loop-row.invariant.1 in
    let q = (going (goal.at.loop-left-preserved c).In-loop-left).0 in
    let n = c.next_column-c.ensures in
    elim c.match-chosen.branch [
      | in-Some v ↦
          (let e = pick_now (goal.at.loop-left-preserved c).Left-loop-row v.in-Some.pick v.in-Some.is in
          goes_on_lem (rw (v.next-is, v.work-is, v.left-is) (column_taken w v.in-Some.pick.row q e)) (rw (v.next-is, v.shut-is, v.shut_until.ensures) (shut_taken w v.in-Some.pick.row e s)) n)
      | in_default v ↦ goes_on_lem (rw (v.next-is, v.work-is, v.left-is) (column_empty w q (λ times. rw v.in_default.is at (chosen_now (goal.at.loop-left-preserved c).Left-loop-row times)))) (rw (v.next-is, v.shut-is) s) n
    ]

-- The walk has ended.
over : (c : goal.After-loop-left) → (c.args.self.now.high < c.loop-left.c) ⊎ (c.loop-left.left ≡ 0)
over c = ⊎_elim (λ e. inr (omega (arith, ltb-false, e))) (λ e. inl (omega (arith, leb-false, ltb-false, e))) (one_false (ltb 0 c.loop-left.left) _ c.loop-left-test.false)

pub returns-then-left-ne0 : goal.returns-then-left-ne0
returns-then-left-ne0 c =
    walking_done c.loop-left.invariant.0 (over (goal.at.returns-then-left-ne0 c).After-loop-left) _ (rw (ne_eqb c.loop-left.left 0 c.if-left-ne0.true) refl)

pub returns : goal.returns
returns c =
    walking_done c.loop-left.invariant.0 (over (goal.at.returns c).After-loop-left) _ (rw (eq-eqb c.loop-left.left 0 c.if-left-ne0.false) refl)
