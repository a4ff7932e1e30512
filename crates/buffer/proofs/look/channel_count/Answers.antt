use mathlib.Core.Path.{sym, ◌∙◌}
use native.Mathlib.Omega.{arith}
use Rattle.plan.proofs.ReadLaws.{channels_byte}
use Rattle.buffer.proofs.look.channel_count.Goals as goal

pub returns : goal.returns
returns c =
    let s = c.args.s.now in
    (c.from.ensures ∙ sym (channels_byte s), omega (arith, channels_byte s, c.from.ensures, c.requires.channels))
