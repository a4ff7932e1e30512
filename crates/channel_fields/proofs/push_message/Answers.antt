use native.Mathlib.Omega.{arith}
use lib.Dec.{lit<}
use Rattle.state.proofs.PieceLaws.{from_fits}
use Rattle.slots.specs.Slots.{message_is}
use Rattle.channel_fields.proofs.LaneReads.{queue_word, queue_whole}
use Rattle.channel_fields.proofs.LaneWrites.{queue_more}
use Rattle.channel_fields.proofs.push_message.Goals as goal

pub add-at-requires : goal.add-at-requires
add-at-requires c = queue_whole c.args.s.now c.args.b c.requires.0

pub write-requires : goal.write-requires
write-requires c =
    let at = c.requires.0 in
    omega (arith, c.add-at.auto.s, c.add-at.ensures.place, queue_word c.args.s.now c.args.b at, c.requires.1, at.below, at.holds.ready.channels, at.holds.ready.long)

pub returns : goal.returns
returns c =
    let m = c.args.m in
    let good = c.well_formed.1.1.0 in
    queue_more c.args.s.now c.write.new.s c.args.b c.requires.0 (message_is m)
    (record { what = (omega arith, (omega arith, (lit< tt, (omega arith, tt)))); time = omega arith; origin = from_fits m.made.from m.made.time (omega (arith, good)) (omega (arith, good)) })
    c.requires.1 c.add-at.new.s c.add-at.result c.add-at.ensures.counted c.add-at.ensures.place c.write.ensures
