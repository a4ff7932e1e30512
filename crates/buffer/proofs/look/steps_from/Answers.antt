use mathlib.Core.Path.{sym, ◌∙◌}
use native.Mathlib.Omega.{arith}
use Rattle.buffer.proofs.ReadyLaws.{count_read}
use Rattle.buffer.proofs.look.steps_from.Goals as goal

pub returns : goal.returns
returns c = c.get32.ensures ∙ sym (count_read c.args.s.now c.requires.0 c.args.console c.requires.1)

pub overflow_mul-console : goal.overflow_mul-console
overflow_mul-console c = omega (arith, c.requires.1)

pub overflow_add-console : goal.overflow_add-console
overflow_add-console c = omega (arith, c.requires.1)

pub get32-requires : goal.get32-requires
get32-requires c = omega (arith, c.requires.0.long, c.requires.1)
