use Rattle.std.proofs.Common.{rules}
use mathlib.Core.Path.{◌≡◌, sym, ◌∙◌}
use native.Mathlib.Omega.{arith}
use Rattle.plan.specs.Plan.{no_channel}
use Rattle.plan.proofs.ReadLaws.{channel_past, channel-at, channel-whole}
use Rattle.plan.proofs.channels.channel_at.Goals as goal

pub returns-then-channel_count-channel : goal.returns-then-channel_count-channel
returns-then-channel_count-channel c =
    let none : c.default.result ≡ no_channel = search rules in
    none ∙ sym (channel_past c.args.plan.now c.args.channel (omega (arith, c.channel_count.ensures.0)))

pub returns-then-at-plan : goal.returns-then-at-plan
returns-then-at-plan c =
    let s = c.args.plan.now in
    let place = c.channel_from-at.ensures.0 in
    rw (
      c.from_be_bytes.ensures,
      c.bound_at-greatest.ensures,
      c.bound_at-least.ensures,
      c.has_windows-windows.ensures,
      place,
      channel-whole s c.args.channel (omega (arith, c.channel_count.ensures.0)) (omega (arith, place, c.channel_from-at.ensures.0)),
    )

pub returns : goal.returns
returns c =
    rw (
      c.byte_at-4.ensures,
      c.byte_at-3.ensures,
      c.word_at.ensures,
      c.byte_at-2.ensures,
      c.byte_at.ensures,
      c.bound_at-greatest.ensures,
      c.bound_at-least.ensures,
      c.has_windows-windows.ensures,
      c.channel_from-at.ensures.0,
      channel-at c.args.plan.now c.args.channel (omega (arith, c.channel_count.ensures.0)),
    )
