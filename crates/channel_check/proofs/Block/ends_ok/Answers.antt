use Rattle.state.specs.Sizes.{block_at}
use Rattle.state.specs.Right.{word_at}
use mathlib.Core.Path.{◌≡◌}
use Rattle.channel_check.proofs.ChannelLaws.{ends_at}
use Rattle.channel_check.proofs.Block.ends_ok.Goals as goal

pub returns : goal.returns
returns c =
    let a = c.args in
    let p = a.self.now in
    let s = p.joins.state.now in
    let unmarked : c.get32-unmarked.result ≡ word_at (block_at p.b) s = rw p.start at c.get32-unmarked.ensures in
    rw (c.has_crashed.ensures, c.has_crashed-2.ensures, c.is_replaying-replays.ensures, c.is_down-down.ensures)
    (ends_at s p.b p.sender p.receiver p.ends p.stopped c.get32-unmarked.result a.count a.most p.down unmarked c.requires.0 c.requires.1)
