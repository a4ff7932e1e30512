use native.Mathlib.Omega.{arith}
use Rattle.slots.specs.Slots.{target_is}
use Rattle.buffer.proofs.HoldsLaws.{node_targets_counted}
use Rattle.node_fields.proofs.FieldLaws.{targets_whole, target_more}
use Rattle.node_fields.proofs.append_target.Goals as goal

pub add-at-requires : goal.add-at-requires
add-at-requires c = targets_whole c.requires.0

pub write-requires : goal.write-requires
write-requires c =
    let at = c.requires.0 in
    (omega (arith, c.add-at.auto.s, c.add-at.ensures.place, node_targets_counted at, c.requires.1, at.inside, at.holds.ready.nodes, at.holds.ready.long), c.requires.2)

pub returns : goal.returns
returns c =
    let x = c.args.g in
    let good = c.well_formed.1.1.0 in
    target_more c.requires.0 (target_is x) (record { time = omega arith; parent = omega (arith, c.requires.2); parent_time = omega arith })
    c.requires.1 c.add-at.result c.add-at.ensures.counted c.add-at.ensures.place c.write.ensures
