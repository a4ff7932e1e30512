use native.Mathlib.Omega.{arith}
use Rattle.stream.proofs.WindowLaws.{frame_few, frame_under, frame_part, frame-whole}
use Rattle.stream.proofs.frames.Frames.next.Goals.{then-size-lt-HEAD-via-then-size-lt-HEAD, then-size-lt-HEAD-via-else-size-lt-HEAD+then-rest-size}
use Rattle.stream.proofs.frames.Frames.next.Goals as goal

pub returns-then-rest-lt2 : goal.returns-then-rest-lt2
returns-then-rest-lt2 c = let f = c.args.self in frame_few c.args.window.now f.at f.end c.requires.1 c.if-rest-lt2.true

pub returns-then-size-lt-HEAD : goal.returns-then-size-lt-HEAD
returns-then-size-lt-HEAD c =
    let f = c.args.self in
    elim c.then-size-lt-HEAD.branch [
      | then-size-lt-HEAD-via-then-size-lt-HEAD w ↦ frame_under c.args.window.now f.at f.end c.requires.1 c.field-size.result c.if-rest-lt2.false c.field-size.ensures.0 w.if-size-lt-HEAD.true
      | then-size-lt-HEAD-via-else-size-lt-HEAD+then-rest-size w ↦ frame_part c.args.window.now f.at f.end c.requires.1 c.field-size.result c.if-rest-lt2.false c.field-size.ensures.0 w.if-rest-size.true (omega (arith, c.field-size.ensures.1))
    ]

pub returns : goal.returns
returns c =
    let f = c.args.self in
    (λ z. omega (arith, z, c.if-size-lt-HEAD.false), frame-whole c.args.window.now f.at f.end c.requires.1 c.field-size.result c.if-rest-lt2.false c.field-size.ensures.0 c.if-size-lt-HEAD.false c.if-rest-size.false)
