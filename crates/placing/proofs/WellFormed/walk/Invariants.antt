use Prim.Native.Nat.{suc, ◌-◌}
use Rattle.placing.specs.Places.{candidate_of}
use Rattle.placing.proofs.ShutLaws.{AllShut}
use Rattle.placing.proofs.Turn.{Searching, Walking}
use Rattle.placing.proofs.WellFormed.walk.Given as goal

abbrev pub invariant-loop-row : goal.invariant-loop-row
invariant-loop-row l =
    let t = l.self in
    Searching t.high t.rows.now t.fixed.now t.floors.now l.next l.c (candidate_of l.best) l.row × AllShut t.high t.rows.now t.fixed.now t.floors.now l.next l.c l.shut

abbrev pub invariant-loop-left : goal.invariant-loop-left
invariant-loop-left l =
    let t = l.self in
    Walking t.low t.high t.rows.now t.fixed.now t.floors.now l.lasts l.initial.next l.initial.work l.next l.work l.left l.c × AllShut t.high t.rows.now t.fixed.now t.floors.now l.next l.c l.shut

abbrev pub decreases-loop-left : goal.decreases-loop-left
decreases-loop-left l = suc l.self.high - l.c
