use Prim.Native.Nat.{ℕ, ◌+◌, ◌*◌, ◌-◌}
use mathlib.Core.Path.{◌≡◌, ap, ◌∙◌}
use native.Mathlib.Omega.{arith}
use Rattle.state.specs.Sizes.{block_at, heard_at}
use Rattle.state.specs.Right.{word_at}
use Rattle.buffer.specs.Exact.{zero_at}
use Rattle.channel_check.proofs.ChannelLaws.{word_turn}
use Rattle.channel_check.proofs.Block.unheard_zero.Goals as goal

pub loop-i-preserved : goal.loop-i-preserved
loop-i-preserved c =
    let a = c.args in
    let p = a.self.now in
    let s = p.joins.state.now in
    let t = c.loop-i in
    let from = block_at p.b + heard_at + 4 * a.heard in
    let here : from + 4 * (t.i - a.heard) ≡ block_at p.b + (8 + 4 * t.i) = omega arith in
    let more : t.i - a.heard + 1 ≡ t.i + 1 - a.heard = omega arith in
    let word : c.get32-seen.result ≡ word_at (block_at p.b + (8 + 4 * t.i)) s = rw p.start at c.get32-seen.ensures in
    word_turn s from (t.i - a.heard) (block_at p.b + (8 + 4 * t.i)) t.seen c.get32-seen.result here word t.invariant ∙ ap (λ (k : ℕ). zero_at from (4 * k) s) more
