use Prim.Native.Nat.{ℕ, ◌+◌}
use mathlib.Core.Path.{◌≡◌, ap, ◌∙◌}
use native.Mathlib.Omega.{arith}
use lib.ListN.{get_or}
use Rattle.plan.specs.Plan.{plan_of, channel_at}
use Rattle.buffer.proofs.ReadyLaws.{receiver_inside}
use Rattle.buffer.proofs.LookLaws.{receiver_byte}
use Rattle.buffer.proofs.look.receiver_of.Goals as goal

pub bounds-s-at : goal.bounds-s-at
bounds-s-at c = omega (arith, c.channel_from-at.ensures.1, c.requires.ready.long)

pub returns : goal.returns
returns c =
    let a = c.args in
    let e : c.from.result ≡ (channel_at (plan_of a.s.now) a.b).receiver =
    c.from.ensures ∙ ap (λ (i : ℕ). get_or a.s.now (i + 1) 0) c.channel_from-at.ensures.0 ∙ receiver_byte a.s.now a.b c.requires.below in
    (e, rw e (receiver_inside a.s.now a.b c.requires))

pub channel_from-at-requires : goal.channel_from-at-requires
channel_from-at-requires c = c.requires

pub overflow_add-at : goal.overflow_add-at
overflow_add-at c = omega (arith, c.channel_from-at.ensures.1)
