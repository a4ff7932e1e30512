use mathlib.Core.Path.{sym, ap}
use mathlib.Core.Bool.{not}
use Rattle.buffer.proofs.ReadyLaws.{kept_counted}
use Rattle.node_fields.proofs.has_kept.Goals as goal

pub returns : goal.returns
returns c =
    sym (ap not (kept_counted c.args.s.now c.requires.0 c.args.n c.requires.1 c.get32.result c.get32.ensures))
