use native.Mathlib.Omega.{arith}
use Rattle.node_fields.proofs.FieldLaws.{time_written}
use Rattle.node_fields.proofs.set_time.Goals as goal

pub returns : goal.returns
returns c = time_written c.requires c.args.time (omega (arith, c.ranges.time)) c.put32.ensures
