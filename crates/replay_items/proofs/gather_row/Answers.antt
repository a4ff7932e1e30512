use Prim.Native.Nat.{◌<◌}
use native.Mathlib.Omega.{arith}
use lib.ListN.{length}
use Rattle.state.specs.State.{line_of}
use Rattle.replay_items.specs.Items.{held_by}
use Rattle.replay_items.proofs.TableLaws.{counted_held, row_room}
use Rattle.replay_items.proofs.gather_row.Goals as goal

pub gather_one-hint-requires : goal.gather_one-hint-requires
gather_one-hint-requires c =
    let t = c.loop-i in
    let a = c.args in
    let e = a.e.now in
    let hs = held_by a.s.now e in
    let l : t.i < length hs = omega (arith, c.loop-i-test.true, counted_held a.s.now e c.requires.0) in
    (c.requires.0, c.loop-i-test.true, row_room (line_of a.s.now) e.node hs a.parent a.row t.items a.items.now t.i l t.invariant c.requires.1)
