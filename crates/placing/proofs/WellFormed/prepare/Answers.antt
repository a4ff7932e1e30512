use Prim.Native.Nat.{ℕ, suc, ◌-◌, ◌<◌}
use mathlib.Core.Path.{◌≡◌, refl}
use native.Mathlib.Omega.{arith}
use lib.ListN.{length, get_or-replicate}
use Rattle.placing.specs.Table.{row_count}
use Rattle.placing.specs.Places.{Prepared}
use Rattle.placing.proofs.PrepareLaws.{prepared_start, prepared_more}
use Rattle.placing.proofs.WellFormed.prepare.Goals as goal

pub loop-i-init : goal.loop-i-init
loop-i-init c =
    let t = c.args.self.now in
    prepared_start t.high t.rows.now t.fixed.now c.args.lasts.now _ (omega arith) refl (λ r l. get_or-replicate row_count r (length t.rows.now) 0 l)

pub loop-i-preserved : goal.loop-i-preserved
loop-i-preserved c =
    let t = c.args.self.now in
    let l = c.loop-i in
    let k : ℕ = l.i - 1 in
    let e : l.i ≡ suc k = omega arith in
    let inside : k < length t.rows.now = omega arith in
    let p : Prepared t.high (suc k) t.rows.now t.fixed.now l.lasts l.next = rw e at l.invariant in
    rw (c.last_from.ensures, c.last_behind.ensures) (prepared_more t.high t.rows.now t.fixed.now l.lasts l.next t.formed.ordered k inside p)

pub returns : goal.returns
returns c = let e : c.loop-i.i ≡ 0 = omega arith in rw e at c.loop-i.invariant
