use mathlib.Core.Path.{sym, ◌∙◌}
use Rattle.state.proofs.OffsetLaws.{line_kept_number}
use Rattle.buffer.proofs.ReadyLaws.{counted}
use Rattle.node_fields.proofs.kept_number.Goals as goal

pub returns : goal.returns
returns c =
    λ a e. c.get32.ensures ∙ sym (line_kept_number c.args.s.now (counted c.requires.0) c.args.n c.requires.1 a e c.args.i c.requires.2)
