use native.Mathlib.Omega.{arith}
use Rattle.plan.proofs.ReadLaws.{version_byte}
use Rattle.buffer.proofs.look.has_windows.Goals as goal

pub bounds-s-2 : goal.bounds-s-2
bounds-s-2 c = omega (arith, c.requires.long)

pub returns : goal.returns
returns c = rw (version_byte c.args.s.now)
