use Prim.Native.Nat.{◌≤◌}
use native.Mathlib.Omega.{arith}
use lib.ListN.{length}
use Rattle.rules.specs.Sheet.{decimal}
use Rattle.report.proofs.DecimalLaws.{number_few}
use Rattle.report.proofs.WroteLaws.{writes_most, writes_then}
use Rattle.report.proofs.text.Text.byte_and_number.Goals as goal

pub decimal-requires : goal.decimal-requires
decimal-requires c =
    let few : length (decimal c.args.n) ≤ 10 = number_few c.args.n (omega arith) in
    let b = c.byte.ensures.wrote in
    rw c.from.ensures (omega (arith, few, b.end, b.same, c.requires))

pub returns : goal.returns
returns c = writes_then c.byte.ensures (writes_most 10 (number_few c.args.n (omega arith)) (rw c.from.ensures at c.decimal.ensures))
