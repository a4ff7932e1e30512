use Rattle.std.proofs.Common.{arith, sym, ◌∙◌, ◌<◌}
use Rattle.plan.specs.Plan.{plan_channels}
use Rattle.recover.proofs.ChildLaws.{high_turn, high_other, high_end}
use Rattle.recover.proofs.told.high_of.Goals as goal
use Rattle.recover.proofs.told.high_of.Goals.{then-sender_of-n, else-sender_of-n}

pub loop-b-preserved : goal.loop-b-preserved
loop-b-preserved c =
    let s = c.args.s.now in
    let n = c.args.n in
    let t = c.loop-b in
    let inside : t.b < plan_channels s = omega (arith, c.channel_count-b-end.ensures.0) in
    let e = c.sender_of.ensures.0 in
    elim c.if-sender_of-n.branch [
      | then-sender_of-n w ↦ rw (w.high-is, w.max-high.ensures, w.taken_of.ensures) (high_turn s n t.b t.high inside t.invariant (sym e ∙ w.if-sender_of-n.true))
      | else-sender_of-n w ↦ rw w.high-is (high_other s n t.b t.high inside t.invariant (λ q. w.if-sender_of-n.false (e ∙ q)))
    ]

pub returns : goal.returns
returns c =
    let t = c.loop-b in
    high_end c.args.s.now c.args.n t.b t.high (omega (arith, c.channel_count-b-end.ensures.0)) t.invariant
