use Prim.Native.Nat.{◌%◌}
use mathlib.Core.Path.{◌≡◌}
use native.Mathlib.Nat.{div-one}
use native.Mathlib.Omega.{arith}
use Rattle.basics.specs.Put.{put-set}
use Rattle.buffer.proofs.bytes.put8.Goals as goal

pub returns : goal.returns
returns c =
    let a = c.args in
    let whole : a.v % 256 ≡ a.v = omega arith in
    rw (div-one, whole) (put-set a.s.now a.at a.v (omega arith))
