use mathlib.Core.Path.{sym, ◌∙◌}
use native.Mathlib.Omega.{arith}
use Rattle.channel_fields.proofs.PlaceLaws.{placing_start, placing_found, placing_end}
use Rattle.channel_fields.proofs.place_of.Goals as goal

pub loop-b-init : goal.loop-b-init
loop-b-init c = placing_start c.args.s.now c.args.parent c.args.node

pub returns-then-sender_of-parent : goal.returns-then-sender_of-parent
returns-then-sender_of-parent c =
    let v = c.loop-b in
    let a = c.args in
    placing_found a.s.now a.parent a.node v.place v.b v.invariant (omega (arith, c.channel_count-b-end.ensures.0)) (sym c.receiver_of.ensures.0 ∙ c.if-receiver_of-node.true) (sym c.sender_of.ensures.0 ∙ c.if-sender_of-parent.true)

pub returns : goal.returns
returns c =
    let v = c.loop-b in
    let a = c.args in
    placing_end a.s.now a.parent a.node v.place v.b v.invariant (omega (arith, c.channel_count-b-end.ensures.0))
