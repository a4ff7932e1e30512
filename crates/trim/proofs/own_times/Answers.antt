use mathlib.Core.Path.{sym, ◌∙◌}
use native.Mathlib.Omega.{arith}
use lib.ListN.{replicate, get_or-replicate}
use Rattle.rules.specs.Line.{node_at}
use Rattle.state.specs.State.{line_of}
use Rattle.state.proofs.InPlace.{nodes-counted}
use Rattle.buffer.proofs.ReadyLaws.{counted}
use Rattle.trim.proofs.RowLaws.{rows_end}
use Rattle.trim.proofs.RunLaws.{no_time}
use Rattle.trim.proofs.own_times.Goals as goal

pub returns : goal.returns
returns c =
    let t = c.loop-n in
    let s = c.args.s.now in
    rows_end (λ q k. (node_at (line_of s) q).time) (replicate 12 0) t.times t.n t.invariant
    (λ q h k. get_or-replicate 12 q 0 0 k ∙ sym (no_time (line_of s) q (omega (arith, nodes-counted s (counted c.requires), c.node_count-n-end.ensures.0))))
