use Rattle.state.specs.State.{line_of}
use Rattle.recover.proofs.ReplayLaws.{replay_many}
use Rattle.recover.proofs.replay_ok.Goals as goal

pub returns-in-Err : goal.returns-in-Err
returns-in-Err c = replay_many (line_of c.args.s.now) c.args.n c.in-Err.field-0 c.in-Err.ensures.told
