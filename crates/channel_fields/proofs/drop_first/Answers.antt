use Prim.Native.Nat.{ℕ, ◌+◌, ◌-◌, ◌*◌}
use mathlib.Core.Path.{ap, ◌∙◌}
use mathlib.Core.List.{◌++◌}
use native.Mathlib.Omega.{arith}
use lib.ListN.{take, drop, replicate}
use Rattle.basics.specs.Put.{put}
use Rattle.plan.specs.Layout.{bytes_of}
use Rattle.state.specs.Sizes.{block_at, count_size, queue_at, message_size}
use Rattle.channel_fields.proofs.LaneReads.{queue_word, queue_few}
use Rattle.channel_fields.proofs.LaneWrites.{queue_gone}
use Rattle.channel_fields.proofs.drop_first.Goals as goal

pub overflow_sub-count : goal.overflow_sub-count
overflow_sub-count c =
    omega (arith, c.requires.1, c.get32-count.ensures ∙ queue_word c.args.s.now c.args.b c.requires.0)

pub overflow_sub-count-2 : goal.overflow_sub-count-2
overflow_sub-count-2 c =
    omega (arith, c.requires.1, c.get32-count.ensures ∙ queue_word c.args.s.now c.args.b c.requires.0)

pub close_up-requires : goal.close_up-requires
close_up-requires c =
    let at = c.requires.0 in
    let count = c.get32-count.ensures ∙ queue_word c.args.s.now c.args.b at in
    omega (arith, c.requires.1, count, queue_few c.args.s.now c.args.b at, at.below, at.holds.ready.channels, at.holds.ready.long)

pub returns : goal.returns
returns c =
    let a = c.args in
    let at = c.requires.0 in
    let count = c.get32-count.ensures ∙ queue_word a.s.now a.b at in
    let size = ap (λ (k : ℕ). k - 1) count in
    let u = c.put32.new.s in
    queue_gone a.s.now c.close_up.new.s a.b at c.requires.1 u (c.put32.ensures ∙ ap (λ (k : ℕ). put a.s.now (block_at a.b + queue_at) (bytes_of 4 (k - 1))) count)
    (c.close_up.ensures ∙ ap (λ (k : ℕ). put u (block_at a.b + queue_at + count_size) (take (message_size * k) (drop (block_at a.b + queue_at + count_size + message_size) u) ++ replicate message_size 0)) size)
