use mathlib.Core.Path.{sym, ◌∙◌}
use Rattle.buffer.proofs.WordLaws.{spells64}
use Rattle.buffer.proofs.bytes.get64.Goals as goal

pub returns : goal.returns
returns c =
    c.spell64.ensures ∙ sym (spells64 c.args.at c.args.s.now c.requires)
