use Prim.Native.Nat.{◌+◌, ◌*◌, ◌-◌}
use mathlib.Core.Path.{◌≡◌}
use mathlib.Core.Bool.{◌&&◌}
use Rattle.state.specs.Sizes.{message_size}
use Rattle.channel_check.specs.Channel.{messages_ok}
use Rattle.channel_check.proofs.Block.queue_ok.Given as goal

-- The messages before the i-th are seen.
abbrev pub invariant-loop-i : goal.invariant-loop-i
invariant-loop-i l =
    (l.initial.ok && messages_ok l.s l.self.sender l.self.stopped l.mark l.initial.last (l.self.at + 28) l.count) ≡ (l.ok && messages_ok l.s l.self.sender l.self.stopped l.mark l.last (l.self.at + 28 + message_size * l.i) (l.count - l.i))
