use native.Mathlib.Omega.{arith}
use Rattle.channel_fields.proofs.LaneReads.{taken_word}
use Rattle.channel_fields.proofs.LaneWrites.{taken_raised}
use Rattle.channel_fields.proofs.raise_taken.Goals as goal

pub returns : goal.returns
returns c =
    let a = c.args in
    taken_raised a.s.now c.raise.new.s a.b c.requires a.time (omega arith) (rw (taken_word a.s.now a.b c.requires.holds.ready c.requires.below) at c.raise.ensures)
