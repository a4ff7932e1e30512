use Rattle.state.specs.State.{line_of}
use Rattle.recover.proofs.KeptLaws.{answer_as}
use Rattle.recover.proofs.told.Found.answer.Goals as goal

pub returns : goal.returns
returns c =
    let found = c.args.self.now in
    answer_as (line_of c.args.s.now) c.args.n found.low c.high_of.result c.listed.result c.requires.2.low c.high_of.ensures c.listed.ensures
