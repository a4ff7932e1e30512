use native.Mathlib.Omega.{arith}
use Rattle.node_check.proofs.PieceBytes.{entry_plain_lem}
use Rattle.node_check.proofs.entry_plain.Goals as goal

pub returns : goal.returns
returns c =
    entry_plain_lem c.args.at c.args.s.now c.record_ok-what.result (omega (arith, c.requires)) c.record_ok-what.ensures
