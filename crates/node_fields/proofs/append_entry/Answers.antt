use native.Mathlib.Omega.{arith}
use lib.Dec.{lit<}
use Rattle.state.proofs.PieceLaws.{from_fits}
use Rattle.slots.specs.Slots.{entry_is}
use Rattle.buffer.proofs.HoldsLaws.{node_log_counted}
use Rattle.node_fields.proofs.FieldLaws.{log_whole, entry_more}
use Rattle.node_fields.proofs.append_entry.Goals as goal

pub add-at-requires : goal.add-at-requires
add-at-requires c = log_whole c.requires.0

pub write-requires : goal.write-requires
write-requires c =
    let at = c.requires.0 in
    omega (arith, c.add-at.auto.s, c.add-at.ensures.place, node_log_counted at, c.requires.1, at.inside, at.holds.ready.nodes, at.holds.ready.long)

pub returns : goal.returns
returns c =
    let x = c.args.e in
    let good = c.well_formed.1.1.0 in
    entry_more c.requires.0 (entry_is x) (record {
      what = (omega (arith, good), (omega (arith, good), (lit< tt, (omega (arith, good), tt))));
      time = omega (arith, good);
      origin = from_fits x.made.from x.made.time (omega (arith, good)) (omega (arith, good));
      before = from_fits x.before.from x.before.time (omega (arith, good)) (omega (arith, good));
      set = omega (arith, good);
    })
    c.requires.1 c.add-at.result c.add-at.ensures.counted c.add-at.ensures.place c.write.ensures
