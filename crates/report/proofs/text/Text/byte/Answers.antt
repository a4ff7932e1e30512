use mathlib.Core.Path.{refl}
use native.Mathlib.Omega.{arith}
use Rattle.report.proofs.WroteLaws.{byte_written}
use Rattle.report.proofs.text.Text.byte.Goals as goal

pub returns : goal.returns
returns c = let s = c.args.self.now in record { wrote = byte_written s.out.now s.at c.args.b (omega (arith, c.requires)); lent = refl }
