use mathlib.Core.Path.{ap₂, ◌∙◌}
use mathlib.Core.Bool.{◌&&◌}
use Rattle.state.specs.State.{line_of}
use Rattle.line.proofs.CheckLaws.{restart_parts}
use Rattle.line.proofs.whole.restart_ok.Goals as goal

pub returns : goal.returns
returns c =
    let a = c.args in
    ap₂ ◌&&◌ c.replay_ok.ensures c.kept_ok-kept.ensures ∙ restart_parts (line_of a.s.now) a.n
