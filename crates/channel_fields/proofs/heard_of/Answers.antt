use mathlib.Core.Path.{◌∙◌}
use native.Mathlib.Omega.{arith}
use Rattle.channel_fields.proofs.LaneReads.{heard_four, heard_word}
use Rattle.channel_fields.proofs.heard_of.Goals as goal

pub overflow_mul-place : goal.overflow_mul-place
overflow_mul-place c = omega (arith, c.requires.2, heard_four c.args.s.now c.args.b c.requires.0 c.requires.1)

pub overflow_add-b-3 : goal.overflow_add-b-3
overflow_add-b-3 c = omega (arith, c.requires.2, heard_four c.args.s.now c.args.b c.requires.0 c.requires.1, c.requires.1, c.requires.0.channels)

pub get32-requires : goal.get32-requires
get32-requires c =
    let ready = c.requires.0 in
    omega (arith, c.requires.2, heard_four c.args.s.now c.args.b c.requires.0 c.requires.1, c.requires.1, ready.channels, ready.long)

pub returns : goal.returns
returns c = c.get32.ensures ∙ heard_word c.args.s.now c.args.b c.requires.0 c.requires.1 c.args.place c.requires.2
