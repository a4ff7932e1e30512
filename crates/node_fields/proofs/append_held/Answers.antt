use native.Mathlib.Omega.{arith}
use lib.Dec.{lit<}
use Rattle.state.proofs.PieceLaws.{from_fits}
use Rattle.slots.specs.Slots.{held_is}
use Rattle.buffer.proofs.HoldsLaws.{node_held_counted}
use Rattle.node_fields.proofs.FieldLaws.{held_whole, held_more}
use Rattle.node_fields.proofs.append_held.Goals as goal

pub add-at-requires : goal.add-at-requires
add-at-requires c = held_whole c.requires.0

pub write-requires : goal.write-requires
write-requires c =
    let at = c.requires.0 in
    omega (arith, c.add-at.auto.s, c.add-at.ensures.place, node_held_counted at, c.requires.1, at.inside, at.holds.ready.nodes, at.holds.ready.long)

pub returns : goal.returns
returns c =
    let x = c.args.h in
    let good = c.well_formed.1.1.0 in
    held_more c.requires.0 (held_is x) (record { what = (omega (arith, good), (omega (arith, good), (lit< tt, (omega (arith, good), tt)))); sender = omega (arith, good); time = omega (arith, good); before = from_fits x.before.from x.before.time (omega (arith, good)) (omega (arith, good)) })
    c.requires.1 c.add-at.result c.add-at.ensures.counted c.add-at.ensures.place c.write.ensures
