use native.Mathlib.Omega.{arith}
use Rattle.channel_fields.proofs.LaneReads.{low_five, low_word}
use Rattle.channel_fields.proofs.LaneWrites.{low_raised}
use Rattle.channel_fields.proofs.raise_low_clock.Goals as goal

pub overflow_mul-at-2 : goal.overflow_mul-at-2
overflow_mul-at-2 c = omega (arith, c.requires.1, low_five c.args.s.now c.args.b c.requires.0.holds.ready c.requires.0.below)

pub overflow_add-at-3 : goal.overflow_add-at-3
overflow_add-at-3 c =
    let at = c.requires.0 in
    omega (arith, c.requires.1, low_five c.args.s.now c.args.b at.holds.ready at.below, at.below, at.holds.ready.channels)

pub raise-requires : goal.raise-requires
raise-requires c =
    let at = c.requires.0 in
    omega (arith, c.requires.1, low_five c.args.s.now c.args.b at.holds.ready at.below, at.below, at.holds.ready.channels, at.holds.ready.long)

pub returns : goal.returns
returns c =
    let a = c.args in
    let at = c.requires.0 in
    let entry = low_word a.s.now a.b at.holds.ready at.below a.place c.requires.1 in
    low_raised a.s.now c.raise.new.s a.b at a.place a.time c.requires.1 (omega (arith, low_five a.s.now a.b at.holds.ready at.below, c.requires.1)) (omega arith) (rw entry at c.raise.ensures)
