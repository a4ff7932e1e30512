use native.Mathlib.Omega.{arith}
use Rattle.plan.proofs.ReadLaws.{channel-at}
use Rattle.buffer.proofs.look.channel_of.Goals as goal

pub returns : goal.returns
returns c =
    rw (
      c.bound_of-2.ensures,
      c.bound_of.ensures,
      c.get16.ensures,
      c.has_windows-windows.ensures,
      c.channel_from-at.ensures.0,
      channel-at c.args.s.now c.args.b c.requires.below,
    )

pub channel_from-at-requires : goal.channel_from-at-requires
channel_from-at-requires c = c.requires

pub has_windows-windows-requires : goal.has_windows-windows-requires
has_windows-windows-requires c = c.requires.ready

pub bounds-s-at : goal.bounds-s-at
bounds-s-at c = omega (arith, c.channel_from-at.ensures.1, c.requires.ready.long)

pub overflow_add-result : goal.overflow_add-result
overflow_add-result c = omega (arith, c.channel_from-at.ensures.1, c.requires.ready.long)

pub bounds-s-at-2 : goal.bounds-s-at-2
bounds-s-at-2 c = omega (arith, c.channel_from-at.ensures.1, c.requires.ready.long)

pub overflow_add-at : goal.overflow_add-at
overflow_add-at c = omega (arith, c.channel_from-at.ensures.1, c.requires.ready.long)

pub get16-requires : goal.get16-requires
get16-requires c = omega (arith, c.channel_from-at.ensures.1, c.requires.ready.long)

pub overflow_add-result-2 : goal.overflow_add-result-2
overflow_add-result-2 c = omega (arith, c.channel_from-at.ensures.1, c.requires.ready.long)

pub bounds-s-at-3 : goal.bounds-s-at-3
bounds-s-at-3 c = omega (arith, c.channel_from-at.ensures.1, c.requires.ready.long)

pub overflow_add-result-3 : goal.overflow_add-result-3
overflow_add-result-3 c = omega (arith, c.channel_from-at.ensures.1, c.requires.ready.long)

pub bounds-s-at-4 : goal.bounds-s-at-4
bounds-s-at-4 c = omega (arith, c.channel_from-at.ensures.1, c.requires.ready.long)

pub overflow_add-at-2 : goal.overflow_add-at-2
overflow_add-at-2 c = omega (arith, c.channel_from-at.ensures.1, c.requires.ready.long)

pub bound_of-requires : goal.bound_of-requires
bound_of-requires c = omega (arith, c.channel_from-at.ensures.1, c.requires.ready.long)

pub overflow_add-at-3 : goal.overflow_add-at-3
overflow_add-at-3 c = omega (arith, c.channel_from-at.ensures.1, c.requires.ready.long)

pub bound_of-requires-2 : goal.bound_of-requires-2
bound_of-requires-2 c = omega (arith, c.channel_from-at.ensures.1, c.requires.ready.long)
