use native.Mathlib.Omega.{arith}
use Rattle.plan.proofs.ReadLaws.{nodes_byte}
use Rattle.plan.proofs.bytes.node_count.Goals as goal

pub returns : goal.returns
returns c = let e = nodes_byte c.args.plan.now in (cc, omega arith)
