use Prim.Native.Nat.{ℕ}
use mathlib.Core.Path.{◌≡◌, ap, ◌∙◌}
use native.Mathlib.Omega.{arith}
use lib.ListN.{get_or}
use Rattle.plan.specs.Plan.{plan_of, channel_at}
use Rattle.buffer.proofs.ReadyLaws.{sender_inside}
use Rattle.buffer.proofs.LookLaws.{sender_byte}
use Rattle.buffer.proofs.look.sender_of.Goals as goal

pub bounds-s-at : goal.bounds-s-at
bounds-s-at c = omega (arith, c.channel_from-at.ensures.1, c.requires.ready.long)

pub returns : goal.returns
returns c =
    let a = c.args in
    let e : c.from.result ≡ (channel_at (plan_of a.s.now) a.b).sender =
    c.from.ensures ∙ ap (λ (i : ℕ). get_or a.s.now i 0) c.channel_from-at.ensures.0 ∙ sender_byte a.s.now a.b c.requires.below in
    (e, rw e (sender_inside a.s.now a.b c.requires))

pub channel_from-at-requires : goal.channel_from-at-requires
channel_from-at-requires c = c.requires
