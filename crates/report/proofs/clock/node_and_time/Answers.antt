use native.Mathlib.Omega.{arith}
use Rattle.report.proofs.DecimalLaws.{number_few}
use Rattle.report.proofs.WroteLaws.{writes_most, writes_then}
use Rattle.report.proofs.clock.node_and_time.Goals as goal

pub decimal-requires : goal.decimal-requires
decimal-requires c = omega (arith, number_few c.args.n c.requires.0)

pub byte_and_number-requires : goal.byte_and_number-requires
byte_and_number-requires c =
    let d = c.decimal.ensures.wrote in
    omega (arith, number_few c.args.n c.requires.0, d.end, d.same)

pub returns : goal.returns
returns c = writes_then (writes_most 10 (number_few c.args.n c.requires.0) c.decimal.ensures) c.byte_and_number.ensures
