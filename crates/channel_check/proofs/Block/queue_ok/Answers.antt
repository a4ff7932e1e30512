use Prim.Native.Nat.{ℕ, ◌+◌, ◌*◌, ◌-◌}
use mathlib.Core.Path.{◌≡◌, sym, ◌∙◌}
use mathlib.Core.Bool.{◌&&◌, ◌||◌}
use lib.Dec.{ltb, leb}
use native.Mathlib.Omega.{arith}
use Rattle.state.specs.Right.{word_at}
use Rattle.state.specs.Sizes.{block_at, taken_at, message_size}
use Rattle.channel_check.specs.Channel.{messages_ok}
use Rattle.channel_check.proofs.MessageLaws.{message_time}
use Rattle.channel_check.proofs.QueueLaws.{messages_turn, messages_end, queue_whole}
use Rattle.channel_check.proofs.Block.queue_ok.Goals as goal

pub loop-i-preserved : goal.loop-i-preserved
loop-i-preserved c =
    let t = c.loop-i in
    let a = c.args in
    let p = a.self.now in
    let s = p.joins.state.now in
    let mark : ℕ = c.get32-mark.result in
    let slot : ℕ = p.at + 28 + message_size * t.i in
    let next : slot + message_size ≡ p.at + 28 + message_size * (t.i + 1) = omega arith in
    let left : a.count - t.i - 1 ≡ a.count - (t.i + 1) = omega arith in
    t.invariant
    ∙ messages_turn s p.sender p.stopped mark t.last slot (a.count - t.i) c.get32-time.result t.ok c.message_ok-here.result (omega arith) (c.get32-time.ensures ∙ message_time slot s) c.message_ok-here.ensures
    ∙ (λ i. ((t.ok && c.message_ok-here.result) && (p.stopped || (ltb t.last c.get32-time.result && leb c.get32-time.result mark))) && messages_ok s p.sender p.stopped mark c.get32-time.result (next i) (left i))

pub returns : goal.returns
returns c =
    let t = c.loop-i in
    let a = c.args in
    let p = a.self.now in
    let s = p.joins.state.now in
    let mark : ℕ = c.get32-mark.result in
    let slot : ℕ = p.at + 28 + message_size * t.i in
    let first : p.at + 28 ≡ block_at p.b + 24 + 4 = omega (arith, p.start) in
    let marked : mark ≡ word_at (block_at p.b) s = rw p.start at c.get32-mark.ensures in
    let last : c.get32-last.result ≡ word_at (block_at p.b + taken_at) s = rw p.start at c.get32-last.ensures in
    sym (t.invariant ∙ messages_end s p.sender p.stopped mark t.last slot (a.count - t.i) t.ok (omega arith))
    ∙ rw first (queue_whole s p.b a.count c.requires p.sender p.stopped mark c.get32-last.result p.ends.from p.down marked last)
