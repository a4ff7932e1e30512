use Rattle.buffer.proofs.ReadyLaws.{crashed_lem}
use Rattle.buffer.proofs.look.has_crashed.Goals as goal

pub returns : goal.returns
returns c = crashed_lem c.args.s.now c.requires.0 c.args.n c.requires.1
