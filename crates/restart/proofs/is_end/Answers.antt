use mathlib.Core.Path.{sym, ap, ap₂, ◌∙◌}
use mathlib.Core.Bool.{◌||◌}
use Rattle.plan.specs.Plan.{Plan, is_source, is_sink}
use Rattle.state.proofs.InPlace.{line-plan}
use Rattle.restart.proofs.is_end.Goals as goal

pub returns : goal.returns
returns c =
    ap₂ ◌||◌ c.is_source.ensures c.is_sink.ensures ∙ ap (λ (p : Plan). is_source p c.args.n || is_sink p c.args.n) (sym (line-plan c.args.s.now))
