use mathlib.Core.Path.{refl, sym, ◌∙◌}
use native.Mathlib.Omega.{arith}
use borrow.Author.Tests.{lt-leb}
use Rattle.plan.specs.Channel.{bit_set}
use Rattle.plan.proofs.ChannelLaws.{bit_beyond}
use Rattle.plan.proofs.channels.bit_set.Goals as goal

pub returns-then-i-le15 : goal.returns-then-i-le15
unfolding bit_set
returns-then-i-le15 c = refl

pub returns-else-i-le15 : goal.returns-else-i-le15
returns-else-i-le15 c = lt-leb c.args.i 15 c.if-i-le15.false ∙ sym (bit_beyond c.args.mask c.args.i (omega arith) c.if-i-le15.false)
