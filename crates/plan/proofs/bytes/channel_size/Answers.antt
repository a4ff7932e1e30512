use mathlib.Core.Path.{sym, ◌∙◌}
use native.Mathlib.Omega.{arith}
use Rattle.plan.proofs.ReadLaws.{channel_size_lem}
use Rattle.plan.proofs.bytes.channel_size.Goals as goal

pub returns-then-has_windows : goal.returns-then-has_windows
returns-then-has_windows c = (rw (channel_size_lem, sym c.has_windows.ensures ∙ c.if-has_windows.true), omega arith)

pub returns-else-has_windows : goal.returns-else-has_windows
returns-else-has_windows c = (rw (channel_size_lem, sym c.has_windows.ensures ∙ c.if-has_windows.false), omega arith)
