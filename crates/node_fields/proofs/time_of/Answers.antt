use mathlib.Core.Path.{sym, ◌∙◌}
use Rattle.state.proofs.OffsetLaws.{line_time}
use Rattle.buffer.proofs.ReadyLaws.{counted}
use Rattle.node_fields.proofs.time_of.Goals as goal

pub returns : goal.returns
returns c =
    c.get32.ensures ∙ sym (line_time c.args.s.now (counted c.requires.0) c.args.n c.requires.1)
