use Rattle.stream.proofs.EndingLaws.{closed_even, closed_cut}
use Rattle.stream.proofs.frame_end.Goals.{then-left, else-left}
use Rattle.stream.proofs.frame_end.Goals as goal

pub returns-clause-finished : goal.returns-clause-finished
returns-clause-finished c =
    let a = c.args in
    let f = a.frames in
    let worked = c.work-left.ensures.worked in
    elim c.if-left.branch [
      | then-left w ↦ (let line = rw w.text-is at c.line_text.ensures in
          closed_cut a.state.now a.window.now f.at f.end f.count a.text.now.out.now c.requires.0 worked.going worked.none (rw worked.same at w.if-left.true) w.cut.ensures.wrote line.wrote)
      | else-left w ↦ (let line = rw w.text-is at c.line_text.ensures in
          closed_even a.state.now a.window.now f.at f.end f.count a.text.now.out.now c.requires.0 worked.going worked.none (rw worked.same at w.if-left.false) line.wrote)
    ]
