use Rattle.std.proofs.Common.{rules, of_calls, arith, sym, ◌∙◌, ◌≡◌, ◌<◌}
use Rattle.plan.specs.Plan.{plan_channels}
use Rattle.recover.proofs.ChildLaws.{least_with, low_turn, low_other, low_end}
use Rattle.recover.proofs.told.low_of.Goals as goal
use Rattle.recover.proofs.told.low_of.Goals.{then-sender_of-n, else-sender_of-n}

pub loop-b-preserved : goal.loop-b-preserved
loop-b-preserved c =
    let s = c.args.s.now in
    let n = c.args.n in
    let t = c.loop-b in
    let inside : t.b < plan_channels s = omega (arith, c.channel_count-b-end.ensures.0) in
    let e = c.sender_of.ensures.0 in
    elim c.if-sender_of-n.branch [
      | then-sender_of-n w ↦ (let is : w.map_or.result ≡ least_with t.low w.taken_of-taken.result = search (rules, of_calls) in
          rw (w.low-is, is, w.taken_of-taken.ensures) (low_turn s n t.b t.low inside t.invariant (sym e ∙ w.if-sender_of-n.true)))
      | else-sender_of-n w ↦ rw w.low-is (low_other s n t.b t.low inside t.invariant (λ q. w.if-sender_of-n.false (e ∙ q)))
    ]

pub returns : goal.returns
returns c =
    let t = c.loop-b in
    c.unwrap_or.ensures ∙ low_end c.args.s.now c.args.n t.b t.low (omega (arith, c.channel_count-b-end.ensures.0)) t.invariant
