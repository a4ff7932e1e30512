use native.Mathlib.Nat.{mul-le-mul_right}
use native.Mathlib.Omega.{arith}
use Rattle.plan.proofs.bytes.channel_from.Goals as goal

-- At most ten bytes for each of at most 255 channels.
pub overflow_mul-result-2 : goal.overflow_mul-result-2
overflow_mul-result-2 c = let most = mul-le-mul_right c.args.b c.channel_size.ensures.1 in omega arith

pub overflow_add-result-2 : goal.overflow_add-result-2
overflow_add-result-2 c = let most = mul-le-mul_right c.args.b c.channel_size.ensures.1 in omega arith

pub returns : goal.returns
returns c =
    let most = mul-le-mul_right c.args.b c.channel_size.ensures.1 in
    (rw (c.channel_size.ensures.0, c.node_count.ensures.0), omega arith)
