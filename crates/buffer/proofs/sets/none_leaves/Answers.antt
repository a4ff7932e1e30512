use Prim.Native.Nat.{◌<◌}
use mathlib.Core.Path.{sym, ◌∙◌}
use native.Mathlib.Omega.{arith}
use borrow.Author.Tests.{eq-eqb, ne_eqb}
use native.Mathlib.Decide.{ℕ_discrete}
use Rattle.plan.specs.Plan.{plan_of, channel_count}
use Rattle.plan.proofs.PlanLaws.{channel_count_lem}
use Rattle.buffer.proofs.SetLaws.{sink_nowhere, sink_not, sink_else}
use Rattle.buffer.proofs.sets.none_leaves.Goals as goal

pub returns-then-channel_count-first : goal.returns-then-channel_count-first
returns-then-channel_count-first c =
    let a = c.args in
    sym (sink_nowhere (plan_of a.s.now) a.n a.first c.requires.1.none_before (omega (arith, channel_count_lem a.s.now, c.channel_count.ensures.0, c.if-channel_count-first.true)))

pub sender_of-requires : goal.sender_of-requires
sender_of-requires c = record { ready = c.requires.0; below = omega (arith, c.channel_count.ensures.0, c.if-channel_count-first.false) }

pub returns : goal.returns
returns c =
    let a = c.args in
    let p = plan_of a.s.now in
    let here : a.first < channel_count p = omega (arith, channel_count_lem a.s.now, c.channel_count.ensures.0, c.if-channel_count-first.false) in
    elim (ℕ_discrete c.sender_of.result a.n) [
      | yes e ↦ rw (eq-eqb c.sender_of.result a.n e) (sym (sink_not p a.n a.first c.requires.1.none_before here (sym c.sender_of.ensures.0 ∙ e)))
      | no d ↦ rw (ne_eqb c.sender_of.result a.n d) (sym (sink_else p a.n c.requires.0.fits a.first c.requires.1 here (λ e. d (c.sender_of.ensures.0 ∙ e))))
    ]

pub channel_count-requires : goal.channel_count-requires
channel_count-requires c = c.requires.0
