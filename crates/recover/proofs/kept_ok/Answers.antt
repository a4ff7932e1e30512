use Rattle.std.proofs.Common.{false}
use Rattle.state.specs.State.{line_of}
use Rattle.node_fields.specs.Kept.{kept_is}
use Rattle.recover.proofs.KeptLaws.{answer_many, kept_some}
use Rattle.recover.proofs.kept_ok.Goals as goal

pub returns-in-Err : goal.returns-in-Err
returns-in-Err c =
    let l = line_of c.args.s.now in
    let n = c.args.n in
    kept_some l n false c.in-Some.kept c.in-Some.ensures (answer_many l n (kept_is c.in-Some.kept) c.in-Err.field-0 c.in-Err.ensures.told)
