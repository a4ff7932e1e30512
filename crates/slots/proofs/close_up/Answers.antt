use Prim.Native.Nat.{◌+◌, ◌*◌, ◌≤◌}
use native.Mathlib.Nat.{mul-one, mul-add, mul-le-mul_left}
use native.Mathlib.Omega.{arith}
use lib.ListN.{length}
use Rattle.slots.proofs.SlotLaws.{none-moved, one_moved, all_moved}
use Rattle.slots.proofs.close_up.Goals as goal

pub loop-i-init : goal.loop-i-init
loop-i-init g c = none-moved c.args.s.now c.args.at (c.SIZE-size.result * c.args.gone) c.SIZE-size.result c.args.count

pub loop-i-preserved : goal.loop-i-preserved
loop-i-preserved g c =
    let a = c.args in
    let t = c.loop-i in
    let size = c.SIZE-size.result in
    let whole : a.at + size * a.gone + size * a.count ≤ length a.s.now = rw c.SIZE-size.ensures c.requires in
    let next : t.i + 1 ≤ a.count = omega arith in
    one_moved a.s.now a.at (size * a.gone) size a.count t.invariant (omega arith) (omega (arith, whole, mul-le-mul_left size next, mul-add size t.i 1, mul-one size)) c.move_slot.auto.s c.move_slot.ensures

pub returns : goal.returns
returns g c =
    let a = c.args in
    let size = c.SIZE-size.result in
    let whole : a.at + size * a.gone + size * a.count ≤ length a.s.now = rw c.SIZE-size.ensures c.requires in
    rw c.SIZE-size.ensures at (all_moved a.s.now a.at (size * a.gone) size a.count c.loop-i.invariant (omega arith) whole c.fill_zero.ensures)
