use Prim.Native.Nat.{◌+◌, ◌*◌, ◌/◌}
use mathlib.Core.Path.{◌≡◌}
use native.Mathlib.Omega.{arith}
use Rattle.plan.proofs.BytesLaws.{bytes_known}
use Rattle.slots.proofs.SlotLaws.{none_gone, word_gone, rest_gone}
use Rattle.slots.proofs.move_slot.Goals as goal

pub loop-k-init : goal.loop-k-init
loop-k-init c = none_gone c.args.s.now c.args.from c.args.to (bytes_known c.args.s.now (λ i. (c.type_inv.s i).fits))

pub loop-k-preserved : goal.loop-k-preserved
loop-k-preserved c =
    let a = c.args in
    let t = c.loop-k in
    let next : 8 * (t.k + 1) ≡ 8 * t.k + 8 = omega arith in
    rw next
    (word_gone a.s.now a.from a.to t.s c.put64.new.s (8 * t.k) c.get64-word.result c.requires.0 t.invariant (omega (arith, c.requires.1)) c.get64-word.ensures
    (bytes_known c.put64.new.s (λ i. (c.type_inv.s i).fits)) c.put64.auto.s c.put64.ensures)

pub returns : goal.returns
returns c =
    let a = c.args in
    let t = c.loop-k in
    let done : t.k ≡ a.size / 8 = omega arith in
    rest_gone a.s.now a.from a.to t.s c.copy_within.new.self (8 * (a.size / 8)) a.size c.requires.0 (rw done at t.invariant) (omega arith) c.requires.1 c.copy_within.ensures.after
