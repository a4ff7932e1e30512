use Prim.Native.Nat.{◌^◌}
use native.Mathlib.Omega.{arith}
use Rattle.plan.specs.Plan.{plan_of}
use Rattle.plan.specs.Mask.{listed, takes_at}
use Rattle.plan.proofs.MaskLaws.{bit_at_most, bit_passed}
use Rattle.plan.proofs.TakingLaws.{passed_bit, passed_more, passed_end}
use Rattle.plan.proofs.masks.Channels.taking.Goals as goal

pub overflow_cast-mask : goal.overflow_cast-mask
overflow_cast-mask c =
    let a = c.args in
    let t = c.loop-b in
    omega (arith, passed_bit (takes_at (plan_of a.plan.now) a.r) a.self.mask t.mask c.in-Some.b (listed t.b-iterator) (listed c.next.new.self) (omega arith) t.invariant.2 c.in-Some.ensures.steps)

pub overflow_shl-mask : goal.overflow_shl-mask
overflow_shl-mask c =
    let a = c.args in
    let t = c.loop-b in
    (passed_bit (takes_at (plan_of a.plan.now) a.r) a.self.mask t.mask c.in-Some.b (listed t.b-iterator) (listed c.next.new.self) (omega arith) t.invariant.2 c.in-Some.ensures.steps).0

pub overflow_add-mask : goal.overflow_add-mask
overflow_add-mask c =
    let a = c.args in
    let t = c.loop-b in
    let bit = passed_bit (takes_at (plan_of a.plan.now) a.r) a.self.mask t.mask c.in-Some.b (listed t.b-iterator) (listed c.next.new.self) (omega arith) t.invariant.2 c.in-Some.ensures.steps in
    rw (c.from.ensures, bit_passed c.channel_takes.result c.in-Some.b bit.0) (omega (arith, bit_at_most c.channel_takes.result (2 ^ c.in-Some.b)))

pub loop-b-preserved : goal.loop-b-preserved
loop-b-preserved c =
    let a = c.args in
    let t = c.loop-b in
    let bit = passed_bit (takes_at (plan_of a.plan.now) a.r) a.self.mask t.mask c.in-Some.b (listed t.b-iterator) (listed c.next.new.self) (omega arith) t.invariant.2 c.in-Some.ensures.steps in
    let more = passed_more (takes_at (plan_of a.plan.now) a.r) a.self.mask t.mask c.in-Some.b (listed t.b-iterator) (listed c.next.new.self) (omega arith) t.invariant.2 c.in-Some.ensures.steps in
    rw (c.from.ensures, bit_passed c.channel_takes.result c.in-Some.b bit.0, c.channel_takes.ensures, c.channel_at-c.ensures) (tt, tt, more)

pub returns : goal.returns
returns c =
    let a = c.args in
    let t = c.loop-b in
    passed_end (takes_at (plan_of a.plan.now) a.r) a.self.mask t.mask (listed t.b-iterator) (omega arith) t.invariant.2 c.in-None.ensures.steps.0
