use Prim.Native.Nat.{◌+◌, ◌*◌}
use native.Mathlib.Omega.{arith}
use Rattle.node_fields.proofs.FieldLaws.{kept_cleared}
use Rattle.node_fields.proofs.clear_kept.Goals as goal

pub returns : goal.returns
returns c =
    kept_cleared c.requires (4096 * (1 + c.args.n) + 3604) (4096 * (1 + c.args.n) + 3632) (omega arith) (omega arith) c.fill_zero.ensures
