use Prim.Native.Nat.{ℕ}
use mathlib.Core.Path.{◌≡◌, sym, ap, ◌∙◌}
use Rattle.plan.specs.declared.Channel.{Channel}
use Rattle.plan.specs.Plan.{Plan, channel_at}
use Rattle.rules.specs.Line.{sender_of, receiver_of}
use Rattle.rules.specs.Step.{made_by}
use Rattle.state.specs.State.{line_of}
use Rattle.state.proofs.InPlace.{line-plan}
use Rattle.slots.specs.Slots.{origin_is}
use Rattle.replay.proofs.waiting_of.Goals as goal

pub returns : goal.returns
returns c =
    let a = c.args in
    let l = line_of a.s.now in
    let what : c.made_by.result ≡ made_by l (receiver_of l a.b) a.m.what = c.made_by.ensures ∙ ap (λ (k : ℕ). made_by l k a.m.what) c.requires.to in
    let sender : c.channel_of.result.sender ≡ sender_of l a.b =
    ap (λ (d : Channel). d.sender) c.channel_of.ensures ∙ ap (λ (p : Plan). (channel_at p a.b).sender) (sym (line-plan a.s.now)) in
    λ i. record { what = what i; sender = sender i; time = a.m.time; before = origin_is a.m.made }
