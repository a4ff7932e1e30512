use Rattle.std.proofs.Common.{arith, ◌<◌, length}
use Rattle.rules.specs.Line.{node_at}
use Rattle.state.specs.State.{line_of}
use Rattle.slots.specs.Slots.{target_is}
use Rattle.recover.proofs.ToldLaws.{log_start, log_turn, log_other, log_end}
use Rattle.recover.proofs.told.Found.hear_log.Goals as goal
use Rattle.recover.proofs.told.Found.hear_log.Goals.{in-Some, in_default}

pub loop-i-init : goal.loop-i-init
loop-i-init c = log_start c.args.n (node_at (line_of c.args.s.now) c.args.k).log c.args.self.now tt c.requires.4

pub loop-i-preserved : goal.loop-i-preserved
loop-i-preserved c =
    let a = c.args in
    let t = c.loop-i in
    let log = (node_at (line_of a.s.now) a.k).log in
    let inside : t.i < length log = omega (arith, c.log_count-i-end.ensures.0) in
    elim c.match-told_at.branch [
      | in-Some w ↦ rw (w.self-is, w.outcome-is, w.and-outcome.ensures) (log_turn a.n log a.self.now t.i t.outcome t.self inside t.invariant (target_is w.in-Some.g) w.hear.result w.in-Some.ensures w.hear.ensures)
      | in_default w ↦ rw (w.self-is, w.outcome-is) (log_other a.n log a.self.now t.i t.outcome t.self inside t.invariant w.in_default.ensures)
    ]

pub returns : goal.returns
returns c =
    let a = c.args in
    let t = c.loop-i in
    log_end a.n (node_at (line_of a.s.now) a.k).log a.self.now t.i t.outcome t.self (omega (arith, c.log_count-i-end.ensures.0)) t.invariant
