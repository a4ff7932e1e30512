use Prim.Native.Nat.{◌+◌, ◌*◌, ◌-◌}
use mathlib.Core.Path.{◌≡◌, refl, ◌∙◌}
use native.Mathlib.Nat.{mul-sub}
use native.Mathlib.Omega.{arith}
use borrow.Author.Rules.{rules}
use Rattle.node_check.proofs.list_ok.Goals.{then-used, else-used}
use Rattle.node_check.proofs.list_ok.Goals as goal

pub returns : goal.returns
returns g c =
    let a = c.args in
    let count = c.get32-count.result in
    let behind : a.at + 4 + a.size * a.limit - (a.at + 4 + a.size * count) ≡ a.size * (a.limit - count) = omega (arith, mul-sub a.size a.limit count) in
    elim c.if-used.branch [
      | then-used w ↦ record { many = λ h. search rules; few = λ h. (c.used.result, rw c.get32-count.ensures at c.used.ensures, w.result-is ∙ rw (w.if-used.true, ← c.get32-count.ensures, ← behind) w.all_zero.ensures) }
      | else-used w ↦ record { many = λ h. search rules; few = λ h. (c.used.result, rw c.get32-count.ensures at c.used.ensures, w.result-is ∙ rw w.if-used.false refl) }
    ]
