use Prim.Native.Nat.{◌<◌}
use mathlib.Core.Path.{ap}
use native.Mathlib.Omega.{arith}
use lib.ListN.{length}
use Rattle.replay_items.proofs.ListingLaws.{listed_long, listed_more}
use Rattle.replay_items.proofs.Items.push.Goals as goal

pub returns : goal.returns
returns c =
    let t = c.self.inside in
    let room : t.count < 64 = omega (arith, c.requires, ap length c.self.view_is, listed_long t.rows t.times t.fixed t.floors t.numbers t.count) in
    rw (← c.self.view_is) (listed_more t.rows t.times t.fixed t.floors t.numbers t.count c.args.x (omega arith) (omega arith) (omega arith) (omega arith) (omega arith))
