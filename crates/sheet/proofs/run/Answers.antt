-- A run's ways out, by its turns so far.
use Rattle.std.proofs.Common.{arith}
use Rattle.sheet.specs.Ran.{no_turn, more, unwritten_after, allowance_used}
use Rattle.sheet.proofs.TurnLaws.{first_holding}
use Rattle.sheet.proofs.RanLaws.{so_far, ran_by, one_turn_longer}
use Rattle.sheet.proofs.run.Goals as goal

pub returns-in-Err : goal.returns-in-Err
returns-in-Err c =
    let (why, some) = c.in-Err.ensures in
    rw why (unwritten_after (so_far c.begin-reader.ensures no_turn) some)

pub loop-left-init : goal.loop-left-init
loop-left-init c =
    let b = c.begin-reader.ensures in
    let r = c.begin-reader.result in
    (record { holding = first_holding r.phase r.count c.args.state.now b.phase b.count; room = omega (arith, b.have); few = omega (arith, b.have, b.count) }, (no_turn, omega arith))

pub loop-left-preserved : goal.loop-left-preserved
loop-left-preserved c =
    let on = c.in-Ok.ensures in
    let turns = c.loop-left.invariant.1.0 in
    (on.between, (more turns on.went, omega (arith, one_turn_longer turns on.went, on.spent, c.loop-left.invariant.1.1)))

pub returns-in-Err-turn : goal.returns-in-Err-turn
returns-in-Err-turn c = ran_by (so_far c.begin-reader.ensures c.loop-left.invariant.1.0) c.in-Err-turn.ensures

pub returns : goal.returns
returns c = allowance_used (so_far c.begin-reader.ensures c.loop-left.invariant.1.0) (omega (arith, c.loop-left-test.false, c.loop-left.invariant.1.1))
