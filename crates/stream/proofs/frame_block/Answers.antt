use mathlib.Core.Path.{sym, ◌∙◌}
use Rattle.stream.proofs.EndingLaws.{ended_short, kept_part}
use Rattle.stream.proofs.WindowLaws.{moved_front}
use Rattle.stream.proofs.frame_block.Goals as goal

pub returns-then-too_short-clause-gave : goal.returns-then-too_short-clause-gave
returns-then-too_short-clause-gave c =
    let a = c.args in
    let f = a.frames in
    let worked = c.work-left.ensures.worked in
    let short = rw worked.same at (sym c.too_short.ensures ∙ c.if-too_short.true) in
    rw c.ended.ensures (ended_short a.state.now a.window.now f.at f.end f.count a.text.now.out.now c.requires.0 worked.going short c.cut.ensures.wrote c.line_text.ensures.wrote)

pub returns-clause-gave : goal.returns-clause-gave
returns-clause-gave c =
    let a = c.args in
    let f = a.frames in
    let worked = c.work-left.ensures.worked in
    let long = rw worked.same at (sym c.if-too_short.false ∙ c.too_short.ensures) in
    let moved = rw worked.same at c.copy_within.ensures.after in
    rw worked.same
    (kept_part a.state.now a.window.now f.at f.end f.count a.text.now.out.now c.requires.0 worked.going worked.none long
    (moved ∙ moved_front a.window.now c.work-left.result.at f.end worked.going.inside c.requires.0.inside))
