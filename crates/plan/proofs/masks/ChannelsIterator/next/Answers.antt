use Prim.Native.Nat.{ℕ, ◌*◌, ◌^◌, ◌%◌, ◌-◌, ◌<◌}
use mathlib.Core.Path.{ap, ◌∙◌}
use native.Mathlib.Omega.{arith}
use lib.ListN.{length}
use Rattle.std.proofs.lemmas.Grind.{common_steps}
use Rattle.plan.specs.Mask.{channels_in}
use Rattle.plan.proofs.MaskLaws.{next, bit_here, channels_none}
use Rattle.plan.proofs.masks.ChannelsIterator.next.Goals as goal

pub returns-then-self-eq0-clause-steps : goal.returns-then-self-eq0-clause-steps
returns-then-self-eq0-clause-steps c = let e = ap channels_in c.if-self-eq0.true ∙ channels_none in (e, e)

pub overflow_sub-self : goal.overflow_sub-self
overflow_sub-self c =
    let x = next c.args.self.now.mask c.mask_next-b.result (omega arith) c.if-self-eq0.false c.mask_next-b.ensures in
    rw (bit_here c.mask_next-b.result x.small) x.bit

pub returns-clause-steps : goal.returns-clause-steps
returns-clause-steps c =
    let x = next c.args.self.now.mask c.mask_next-b.result (omega arith) c.if-self-eq0.false c.mask_next-b.ensures in
    rw (bit_here c.mask_next-b.result x.small) x.channels

pub returns-clause-goes : goal.returns-clause-goes
returns-clause-goes c =
    let b : ℕ = c.mask_next-b.result in
    let mask : ℕ = c.args.self.now.mask in
    let x = next mask b (omega arith) c.if-self-eq0.false c.mask_next-b.ensures in
    let less : length (channels_in (mask - 1 * 2 ^ b % 4294967296)) < length (channels_in mask) = rw (bit_here b x.small, x.channels) (omega arith) in
    grind (arith, common_steps)
