use Rattle.stream.proofs.ReaderLaws.{finished_planning, finished_framing, finished_ended}
use Rattle.stream.proofs.Reader.finish.Goals.{in-Planning, in-Framing, in-Ended}
use Rattle.stream.proofs.Reader.finish.Goals as goal

pub returns : goal.returns
returns c =
    let a = c.args in
    let (came, front) = c.new-text.ensures.front in
    elim c.match-self.branch [
      | in-Planning w ↦ rw (w.state-is, w.text-is) (finished_planning a.self a.state.now a.window.now w.in-Planning.is (rw came at w.plan_end.ensures.finished))
      | in-Framing w ↦ rw (w.state-is, w.text-is) (finished_framing a.self a.state.now a.window.now w.in-Framing.is (rw came at w.frame_end.ensures.finished))
      | in-Ended w ↦ rw (w.state-is, w.text-is, came, front) (finished_ended a.self a.state.now a.window.now w.in-Ended.is a.out.now)
    ]
