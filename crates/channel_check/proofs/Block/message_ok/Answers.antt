use Rattle.channel_check.proofs.MessageLaws.{message_tested}
use Rattle.channel_check.proofs.Block.message_ok.Goals as goal

pub returns : goal.returns
returns c =
    let p = c.args.self.now in
    message_tested p.joins.state.now p.sender c.args.slot c.from-from.result c.get32-time.result c.from-from.ensures c.get32-time.ensures c.requires c.record_ok-what.result c.named_ok-named.result c.record_ok-what.ensures c.named_ok-named.ensures
