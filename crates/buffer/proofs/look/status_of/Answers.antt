use Prim.Native.Nat.{◌+◌, ◌*◌}
use mathlib.Core.Path.{ap, sym, ◌∙◌}
use native.Mathlib.Omega.{arith}
use lib.ListN.{get_or}
use Rattle.state.specs.Node.{status_of}
use Rattle.buffer.proofs.ReadyLaws.{replaying_more, status_byte}
use Rattle.buffer.proofs.look.status_of.Goals as goal

pub returns-in-0 : goal.returns-in-0
returns-in-0 c = ap status_of (sym c.in-0.is) ∙ status_byte c.args.s.now c.requires.0 c.args.n c.requires.1

pub returns-in-1 : goal.returns-in-1
returns-in-1 c = ap status_of (sym c.in-1.is) ∙ status_byte c.args.s.now c.requires.0 c.args.n c.requires.1

pub returns-in_default : goal.returns-in_default
returns-in_default c = replaying_more (get_or c.args.s.now (4_096 * (1 + c.args.n)) 0) (λ e. omega arith) (λ e. omega arith) ∙ status_byte c.args.s.now c.requires.0 c.args.n c.requires.1
