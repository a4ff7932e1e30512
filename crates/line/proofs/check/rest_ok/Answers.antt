use Rattle.line.proofs.CheckLaws.{rest_found}
use Rattle.line.proofs.check.rest_ok.Goals as goal

pub returns : goal.returns
returns c =
    rest_found c.args.s.now c.node_count.result c.channel_count.result c.node_count.ensures.0 c.channel_count.ensures.0 c.node_count.ensures.1 c.channel_count.ensures.1 c.all_zero-a.ensures c.all_zero-b.ensures c.all_zero-c.ensures c.all_zero-d.ensures
