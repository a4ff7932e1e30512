use mathlib.Core.Path.{◌≡◌, refl, ◌∙◌}
use mathlib.Core.Bool.{Bool, true, false, cond, ◌&&◌, ◌||◌, and-true}
use Rattle.std.specs.Prelude.{Some}
use Rattle.std.specs.Ordering.{is_some_and, is_lt, partial_ordering_then}
use Rattle.std.proofs.Common.{Less, Equal, Greater}
use Rattle.placing.proofs.ItemsLaws.{length_items, items_at, fit_more}
use native.Mathlib.Omega.{arith}
use lib.ListN.{get_or, drop_of_length-le}
use lib.Dec.{ltb, eqb}
use Rattle.placing.specs.Item.{items_of}
use Rattle.placing.specs.Table.{comes_after}
use Rattle.placing.proofs.Table.items_fit.Goals as goal

-- An order by one number and then by another.
by_both : (p q r s : Bool) → is_some_and is_lt (partial_ordering_then (Some (cond p Less (cond q Equal Greater))) (Some (cond r Less (cond s Equal Greater)))) ≡ (p || (q && r))
by_both true q r s = refl
by_both false true true s = refl
by_both false true false true = refl
by_both false true false false = refl
by_both false false r s = refl

pub loop-i-preserved : goal.loop-i-preserved
unfolding comes_after
loop-i-preserved c =
    let t = c.args.self.now in
    let l = c.loop-i in
    let inside = c.loop-i-test.true in
    let row = get_or t.rows.now l.i 0 in
    let time = get_or t.times.now l.i 0 in
    let after = by_both (ltb l.before.0 row) (eqb l.before.0 row) (ltb l.before.1 time) (eqb l.before.1 time) in
    rw (c.item_fits.ensures, items_at t.rows.now t.times.now t.fixed.now t.floors.now l.i inside, c.lt.ensures, after)
    (l.invariant ∙ fit_more t.low t.high l.before.0 l.before.1 t.rows.now t.times.now t.fixed.now t.floors.now l.i inside l.ok)

pub returns : goal.returns
returns c =
    let t = c.args.self.now in
    let l = c.loop-i in
    rw (l.invariant, drop_of_length-le (items_of t.rows.now t.times.now t.fixed.now t.floors.now) {i = l.i} (rw length_items (omega arith)), and-true)
