use Prim.Native.Nat.{ℕ, suc, ◌+◌, ◌-◌, ◌<◌}
use mathlib.Core.Path.{◌≡◌, ap, sym, ◌∙◌}
use native.Mathlib.Omega.{arith}
use lib.ListN.{length, get_or}
use Rattle.plan.specs.declared.Channel.{Channel}
use Rattle.plan.specs.Plan.{plan_of, channel_at}
use Rattle.plan.proofs.PlanLaws.{channel_count_lem}
use Rattle.plan.proofs.ReadLaws.{channel-at}
use Rattle.plan.proofs.MaskLaws.{grown_start, grown_more, grown_end, passing_few, passing_none}
use Rattle.plan.proofs.masks.channels_where.Goals as goal

pub returns-then-m-gt24 : goal.returns-then-m-gt24
returns-then-m-gt24 g c = λ f made. passing_none c.args.plan.now f (omega (arith, c.channel_count-m.ensures.0))

pub loop-b-init : goal.loop-b-init
loop-b-init g c = let s = c.args.plan.now in grown_start (plan_of s).channels _ c.channel_count-m.result (omega (arith, channel_count_lem s, c.channel_count-m.ensures.0)) (omega arith)

pub loop-b-preserved : goal.loop-b-preserved
loop-b-preserved g c =
    let s = c.args.plan.now in
    let t = c.loop-b in
    let b : ℕ = t.b - 1 in
    let before : t.b ≡ suc b = omega arith in
    let l : b < length (plan_of s).channels = omega (arith, channel_count_lem s, c.channel_count-m.ensures.0) in
    let here = channel-at s b (omega (arith, c.channel_count-m.ensures.0)) in
    let sender : c.byte_at.result ≡ (channel_at (plan_of s) b).sender = c.byte_at.ensures ∙ ap (λ (a : ℕ). get_or s a 0) c.channel_from-at.ensures.0 ∙ ap (λ (d : Channel). d.sender) (sym here) in
    let receiver : c.byte_at-in-loop-b.result ≡ (channel_at (plan_of s) b).receiver = c.byte_at-in-loop-b.ensures ∙ ap (λ (a : ℕ). get_or s (a + 1) 0) c.channel_from-at.ensures.0 ∙ ap (λ (d : Channel). d.receiver) (sym here) in
    rw c.from.ensures
    (grown_more (plan_of s).channels _ t.mask b c.passes.result (rw before at t.invariant) l (λ f made. made (channel_at (plan_of s) b) c.passes.result (rw (sender, receiver) at c.passes.ensures)))

pub returns : goal.returns
returns g c = λ f made.
    let s = c.args.plan.now in
    let t = c.loop-b in
    passing_few s f t.mask (omega arith) (omega (arith, c.channel_count-m.ensures.0)) (grown_end (plan_of s).channels _ t.mask t.b t.invariant (omega arith) f made)
