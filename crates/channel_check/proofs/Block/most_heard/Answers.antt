use Prim.Native.Nat.{ℕ, ◌+◌, ◌*◌, ◌<◌, max}
use mathlib.Core.Path.{◌≡◌, sym, ap, ◌∙◌}
use native.Mathlib.Omega.{arith}
use lib.ListN.{length}
use Rattle.rules.specs.Lists.{greatest_of}
use Rattle.rules.specs.Line.{lane_at}
use Rattle.state.specs.Sizes.{block_at}
use Rattle.state.specs.Right.{word_at}
use Rattle.state.specs.State.{line_of}
use Rattle.state.proofs.OffsetLaws.{line_taken, line-heard_at}
use Rattle.state.proofs.PlanFitting.{few_heard, heard_long}
use Rattle.buffer.proofs.ReadyLaws.{counted}
use Rattle.channel_check.proofs.ChannelLaws.{greatest_more, greatest_end}
use Rattle.channel_check.proofs.Block.most_heard.Goals as goal

pub loop-i-init : goal.loop-i-init
loop-i-init c =
    let p = c.args.self.now in
    let s = p.joins.state.now in
    let on = p.ends.on in
    let most : c.get32-most.result ≡ word_at (block_at p.b + 4) s = rw p.start at c.get32-most.ensures in
    (omega (arith, few_heard s on.ready.fits p.b on.below), ap (λ (t : ℕ). max t (greatest_of (lane_at (line_of s) p.b).heard)) (line_taken s (counted on.ready) p.b on.below ∙ sym most))

pub loop-i-preserved : goal.loop-i-preserved
loop-i-preserved c =
    let p = c.args.self.now in
    let s = p.joins.state.now in
    let on = p.ends.on in
    let t = c.loop-i in
    let few = few_heard s on.ready.fits p.b on.below in
    let word : c.get32.result ≡ word_at (block_at p.b + (8 + 4 * t.i)) s = rw p.start at c.get32.ensures in
    let heard = line-heard_at s (counted on.ready) p.b on.below t.i (omega arith) (omega arith) in
    let long : t.i < length (lane_at (line_of s) p.b).heard = rw (heard_long s on.ready.fits p.b on.below) (omega arith) in
    (t.invariant.0, rw (c.max-most.ensures, word, ← heard) (t.invariant.1 ∙ greatest_more (lane_at (line_of s) p.b).heard t.most t.i long))

pub returns : goal.returns
returns c =
    let p = c.args.self.now in
    let s = p.joins.state.now in
    let on = p.ends.on in
    let t = c.loop-i in
    sym (t.invariant.1 ∙ greatest_end (lane_at (line_of s) p.b).heard t.most t.i (rw (heard_long s on.ready.fits p.b on.below) (omega arith)))
