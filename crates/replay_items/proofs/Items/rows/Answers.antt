use mathlib.Core.Path.{refl}
use native.Mathlib.Omega.{arith}
use Rattle.replay_items.specs.declared.Listed.{Listed}
use Rattle.replay_items.proofs.ListingLaws.{part}
use Rattle.replay_items.proofs.Items.rows.Goals as goal

pub returns : goal.returns
returns c =
    let t = c.self.inside in
    rw (← c.self.view_is) (part t.rows t.times t.fixed t.floors t.numbers (λ (x : Listed). x.row) t.rows t.count (λ i. refl) (omega arith))
