use mathlib.Core.Path.{◌≡◌, ◌∙◌}
use native.Mathlib.Omega.{arith}
use lib.ListN.{length}
use Rattle.rules.specs.Line.{node_at}
use Rattle.state.specs.State.{line_of}
use Rattle.buffer.proofs.HoldsLaws.{node_fits, node_targets_counted}
use Rattle.node_fields.proofs.target_count.Goals as goal

pub returns : goal.returns
returns c =
    let is : c.count.result ≡ length (node_at (line_of c.args.s.now) c.args.n).targets = c.count.ensures ∙ node_targets_counted c.requires in
    (is, omega (arith, is, (node_fits c.requires).targets.0))
