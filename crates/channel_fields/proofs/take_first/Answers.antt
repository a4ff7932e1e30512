use Rattle.slots.specs.Slots.{message_is}
use Rattle.channel_fields.proofs.TakeLaws.{heard_on, taken-whole}
use Rattle.channel_fields.proofs.take_first.Goals as goal

pub drop_first-requires : goal.drop_first-requires
drop_first-requires c =
    let a = c.args in
    heard_on a.s.now c.raise_taken.new.s a.b c.requires.0 (message_is a.m) c.raise_taken.ensures c.raise_heard.new.s c.raise_heard.ensures c.requires.1

pub returns : goal.returns
returns c =
    let a = c.args in
    taken-whole a.s.now c.raise_taken.new.s a.b c.requires.0 (message_is a.m) c.raise_taken.ensures c.raise_heard.new.s c.raise_heard.ensures c.drop_first.new.s c.drop_first.ensures
