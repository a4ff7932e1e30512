use Rattle.stream.proofs.WindowLaws.{short_few, short_by}
use Rattle.stream.proofs.frames.Frames.too_short.Goals as goal

pub returns-then-self-ge2 : goal.returns-then-self-ge2
returns-then-self-ge2 c = let f = c.args.self in short_by c.args.window.now f.at f.end c.requires.1 c.field.result c.if-self-ge2.true c.field.ensures.0

pub returns-else-self-ge2 : goal.returns-else-self-ge2
returns-else-self-ge2 c = let f = c.args.self in short_few c.args.window.now f.at f.end c.requires.1 c.if-self-ge2.false
