use Prim.Native.Nat.{ℕ, ◌+◌, ◌*◌, ◌<◌, ◌^◌}
use mathlib.Core.Path.{◌≡◌}
use native.Mathlib.Omega.{arith}
use lib.ListN.{length, get_or}
use Rattle.std.proofs.Common.{rules}
use Rattle.node_fields.specs.Kept.{kept_is}
use Rattle.node_fields.proofs.FieldLaws.{kept_put}
use Rattle.node_fields.proofs.set_kept.Goals as goal

pub returns : goal.returns
returns c =
    let kept = c.args.kept in
    let four : length kept.entries ≡ 4 = search rules in
    let each : (i : ℕ) → i < 4 → get_or kept.entries i 0 < 2 ^ 32 = λ i h. search rules in
    kept_put c.requires (kept_is kept) four (search rules) (search rules) each (4096 * (1 + c.args.n) + 3604) (omega arith) (omega (arith, c.requires.inside, c.requires.holds.ready.nodes, c.requires.holds.ready.long))
    (rw (c.put32-7.ensures, c.put32-6.ensures, c.put32-5.ensures, c.put32-4.ensures, c.put32-3.ensures, c.put32-2.ensures, c.put32.ensures))
