use Prim.Native.Nat.{ℕ, ◌-◌}
use mathlib.Core.Path.{ap}
use Rattle.node_fields.proofs.FieldLaws.{log_gone}
use Rattle.node_fields.proofs.drop_entries.Goals as goal

pub returns : goal.returns
returns c =
    let gone = c.args.count in
    log_gone c.requires.0 gone (c.log_count.result - gone) c.requires.1 (ap (λ (k : ℕ). k - gone) c.log_count.ensures.0) c.put32.ensures c.close_up.ensures
