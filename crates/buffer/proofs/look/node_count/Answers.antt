use mathlib.Core.Path.{sym, ◌∙◌}
use native.Mathlib.Omega.{arith}
use Rattle.plan.proofs.ReadLaws.{nodes_byte}
use Rattle.buffer.proofs.look.node_count.Goals as goal

pub returns : goal.returns
returns c =
    let s = c.args.s.now in
    (c.from.ensures ∙ sym (nodes_byte s), omega (arith, nodes_byte s, c.from.ensures, c.requires.nodes))
