-- Records within their limits: as a frame's bytes spell them, and as a node's rule makes them of others.
use Prim.Native.Nat.{ℕ, ◌^◌, ◌<◌, ◌≤◌}
use mathlib.Core.Path.{◌≡◌, ap, ◌∙◌}
use mathlib.Core.Logic.{◌⊎◌, inl, inr}
use mathlib.Core.Bool.{Bool, true, false, cond, ◌&&◌}
use mathlib.Core.List.{List}
use native.Mathlib.Omega.{arith}
use lib.ListN.{get_or}
use lib.Dec.{leb, ltb, eqb}
use borrow.Author.Tests.{leb-true, ltb-true, le-leb, lt-ltb, not-false}
use Rattle.basics.specs.Bools.{both_true}
use Rattle.plan.specs.Lawful.{Bytes}
use Rattle.plan.specs.declared.Record.{Record}
use Rattle.plan.specs.declared.Rule.{Rule}
use Rattle.plan.specs.declared.Rule.TheVariants.{Keep, Relabel, Cap}
use Rattle.plan.specs.Record.{material_fits, is_tick, known_record, record_of, record_fields, record_layout, record_fits}
use Rattle.plan.specs.Rule.{applied}
use Rattle.plan.specs.Plan.{Plan, rule_at}
use Rattle.plan.specs.Check.{rule_allowed, plan_fits}
use Rattle.plan.proofs.FitsLaws.{fitting, rule_allowed_lem}
use Rattle.plan.proofs.ValueLaws.{record_lawful}
use Rattle.plan.proofs.TickLaws.{known_cases, tick_kept}
use Rattle.rules.specs.Damaged.{record_past_limits}

pub record Within (r : Record) : Type 0 where
  pub material : known_record r ≡ true
  pub piece : r.piece < 2 ^ 32
  pub mass : r.mass < 2 ^ 16

within : (r : Record) → record_past_limits r ≡ false → Within r
within r e =
    let material = known_record r in
    let piece = ltb r.piece (2 ^ 32) in
    let mass = ltb r.mass (2 ^ 16) in
    let (ab, c) = both_true (material && piece) mass (not-false (material && piece && mass) e) in
    let (a, b) = both_true material piece ab in
    record { material = a; piece = ltb-true r.piece (2 ^ 32) b; mass = ltb-true r.mass (2 ^ 16) c }

of-within : (r : Record) → Within r → record_past_limits r ≡ false
of-within r w = rw (w.material, lt-ltb r.piece (2 ^ 32) w.piece, lt-ltb r.mass (2 ^ 16) w.mass)

-- A frame's record.
pub read_within : (s : List ℕ) → Bytes s → record_fits s ≡ true → record_past_limits (record_layout.read s) ≡ false
unfolding record_fits record_layout
read_within s bytes e =
    let (piece, (_, (_, (mass, _)))) = record_lawful.fits s bytes in
    let material = (both_true (known_record (record_of (record_fields.read s))) (eqb (get_or (record_fields.read s) 2 0) 0) e).0 in
    of-within (record_layout.read s) (record { material = material; piece = piece; mass = mass })

-- A rule keeps a record within its limits.
rule_within : (rule : Rule) (r : Record) → rule_allowed rule ≡ true → Within r → Within (applied rule r)
rule_within Keep r e w = w
rule_within (Relabel p q) r e w = record { material = known (known_cases r w.material); piece = w.piece; mass = w.mass }
  where
    one : (t : Bool) → r.material ≤ 15 → cond t q r.material ≤ 15
    one true h = leb-true q 15 (both_true (leb p 15) (leb q 15) e).1
    one false h = h

    known : (material_fits r.material ≡ true) ⊎ (is_tick r ≡ true) → known_record (applied (Relabel p q) r) ≡ true
    known (inl a) = rw (le-leb (cond (eqb r.material p) q r.material) 15 (one (eqb r.material p) (leb-true r.material 15 a)))
    known (inr t) = ap known_record (tick_kept (Relabel p q) r e t) ∙ w.material
rule_within (Cap q) r e w = record { material = known (known_cases r w.material); piece = w.piece; mass = one (ltb q r.mass) }
  where
    known : (material_fits r.material ≡ true) ⊎ (is_tick r ≡ true) → known_record (applied (Cap q) r) ≡ true
    known (inl a) = rw a
    known (inr t) = ap known_record (tick_kept (Cap q) r e t) ∙ w.material

    one : (t : Bool) → cond t q r.mass < 2 ^ 16
    one true = let h = leb-true q 65535 (both_true (leb 1 q) (leb q 65535) e).1 in omega arith
    one false = w.mass

pub made_within : (p : Plan) → plan_fits p ≡ true → (n : ℕ) (r : Record) → record_past_limits r ≡ false → record_past_limits (applied (rule_at p n) r) ≡ false
made_within p fits n r e = of-within (applied (rule_at p n) r) (rule_within (rule_at p n) r (rule_allowed_lem p.rules n (fitting p fits).rules) (within r e))

-- What a node makes of a tick is the tick.
pub made_tick : (p : Plan) → plan_fits p ≡ true → (n : ℕ) (r : Record) → is_tick r ≡ true → is_tick (applied (rule_at p n) r) ≡ true
made_tick p fits n r e = ap is_tick (tick_kept (rule_at p n) r (rule_allowed_lem p.rules n (fitting p fits).rules) e) ∙ e
