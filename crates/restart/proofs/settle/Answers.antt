use Rattle.std.proofs.Common.{subst}
use Rattle.std.proofs.Math.Option.{none}
use Rattle.rules.specs.Line.{Status, Node, node_at, with_node}
use Rattle.state.specs.State.{line_of}
use Rattle.buffer.specs.Holds.{Holds}
use Rattle.buffer.specs.Status.{status_is}
use Rattle.buffer.proofs.HoldsLaws.{node_then}
use Rattle.restart.proofs.TargetLaws.{status_by}
use Rattle.restart.proofs.settle.Goals as goal

pub returns : goal.returns
returns c =
    let a = c.args in
    let x = node_at (line_of a.s.now) a.n in
    let node : Status → Node = λ v. record { status = v; crashed = x.crashed; time = a.low; log = x.log; held = x.held; targets = x.targets; asked = none } in
    let d = node_then c.requires (node_then c.requires c.set_time.ensures c.set_status.ensures) c.clear_kept.ensures in
    record {
      holds = subst (λ (v : Status). Holds c.clear_kept.new.s (with_node a.n (node v) (line_of a.s.now))) (status_by x.targets c.target_count-count.result (status_is c.status_with.result) c.target_count-count.ensures.0 c.status_with.ensures.0 c.status_with.ensures.1) d.holds;
      on = d.on;
    }
