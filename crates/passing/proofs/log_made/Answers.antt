use mathlib.Core.Path.{subst}
use Rattle.rules.specs.Line.{Node, node_at, with_node}
use Rattle.state.specs.State.{line_of}
use Rattle.slots.specs.Slots.{origin_is}
use Rattle.buffer.specs.Holds.{Holds}
use Rattle.buffer.proofs.HoldsLaws.{node_then}
use Rattle.passing.proofs.FeedLaws.{logged_twice}
use Rattle.passing.proofs.log_made.Goals as goal

pub returns : goal.returns
returns c =
    let a = c.args in
    let x = node_at (line_of a.s.now) a.n in
    let both = node_then c.requires.at c.append_entry.ensures c.set_time.ensures in
    record {
      holds = subst (λ (y : Node). Holds c.set_time.new.s (with_node a.n y (line_of a.s.now))) (logged_twice a.e.time a.e.set a.e.what (origin_is a.e.made) (origin_is a.e.before) x) both.holds;
      on = both.on;
    }
