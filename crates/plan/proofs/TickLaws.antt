-- Ticks: one record, which every rule leaves, every channel takes, and no rule makes of another.
use Prim.Native.Nat.{◌<◌}
use mathlib.Core.Path.{◌≡◌, refl}
use mathlib.Core.Logic.{◌⊎◌, inl, inr}
use mathlib.Core.Bool.{Bool, true, false, cond, ◌&&◌}
use native.Mathlib.Omega.{arith}
use lib.Dec.{leb, ltb, eqb}
use borrow.Author.Tests.{leb-true, eqb-true, eq-eqb, ne_eqb, le-ltb}
use Rattle.basics.specs.Bools.{both_true, either_true}
use Rattle.plan.specs.declared.Record.{Record}
use Rattle.plan.specs.declared.Rule.TheVariants.{Keep, Relabel, Cap}
use Rattle.plan.specs.Record.{material_fits, is_tick, known_record}
use Rattle.plan.specs.Rule.{applied}
use Rattle.plan.specs.Channel.{takes}
use Rattle.plan.specs.Plan.{plan_of, rule_at}
use Rattle.plan.specs.Ticks.{OneTick, RulesLeaveTicks, PlansLeaveTicks, ChannelsTakeTicks, NoTickIsMade}
use Rattle.plan.proofs.FitsLaws.{fitting, rule_allowed_lem, accepted_fits}

-- A tick's three numbers.
pub record Tick (r : Record) : Type 0 where
  pub material : r.material ≡ 255
  pub piece : r.piece ≡ 0
  pub mass : r.mass ≡ 0

pub tick-parts : (r : Record) → is_tick r ≡ true → Tick r
tick-parts r e =
    let (ab, c) = both_true (eqb r.material 255 && eqb r.piece 0) (eqb r.mass 0) e in
    let (a, b) = both_true (eqb r.material 255) (eqb r.piece 0) ab in
    record { material = eqb-true r.material 255 a; piece = eqb-true r.piece 0 b; mass = eqb-true r.mass 0 c }

tick-of : (r : Record) → Tick r → is_tick r ≡ true
tick-of r t = rw (eq-eqb r.material 255 t.material, eq-eqb r.piece 0 t.piece, eq-eqb r.mass 0 t.mass)

pub one_tick : OneTick
one_tick = (refl, λ r e. (let t = tick-parts r e in λ i. record { piece = t.piece i; material = t.material i; mass = t.mass i }))

-- A record that 17 lets through is of a material 0..15 or a tick, so its material is a byte.
pub known_cases : (r : Record) → known_record r ≡ true → (material_fits r.material ≡ true) ⊎ (is_tick r ≡ true)
known_cases r e = either_true (material_fits r.material) (is_tick r) e

pub known_byte : (r : Record) → known_record r ≡ true → r.material < 256
known_byte r e = elim (known_cases r e) [ inl a ↦ omega (arith, leb-true r.material 15 a) | inr t ↦ omega (arith, (tick-parts r t).material) ]

pub tick_kept : RulesLeaveTicks
tick_kept Keep r a e = refl
tick_kept (Relabel p q) r a e =
    let t = tick-parts r e in
    let p-most = leb-true p 15 (both_true (leb p 15) (leb q 15) a).0 in
    λ i. record { piece = r.piece; material = cond (ne_eqb r.material p (λ z. omega (arith, t.material)) i) q r.material; mass = r.mass }
tick_kept (Cap q) r a e = let t = tick-parts r e in λ i. record { piece = r.piece; material = r.material; mass = cond (le-ltb q r.mass (omega (arith, t.mass)) i) q r.mass }

pub plan_leaves : PlansLeaveTicks
plan_leaves s bytes z n r e = tick_kept (rule_at (plan_of s) n) r (rule_allowed_lem (plan_of s).rules n (fitting (plan_of s) (accepted_fits s bytes z)).rules) e

pub tick-taken : ChannelsTakeTicks
unfolding takes
tick-taken c r e = rw e

pub tick_made : NoTickIsMade
tick_made Keep r a e = e
tick_made (Relabel p q) r a e = let t = tick-parts (applied (Relabel p q) r) e in tick-of r (record { material = one (eqb r.material p) t.material; piece = t.piece; mass = t.mass })
  where
    one : (x : Bool) → cond x q r.material ≡ 255 → r.material ≡ 255
    one true h = let few = leb-true q 15 (both_true (leb p 15) (leb q 15) a).1 in let no : ⊥ = omega arith in absurd no
    one false h = h
tick_made (Cap q) r a e = let t = tick-parts (applied (Cap q) r) e in tick-of r (record { material = t.material; piece = t.piece; mass = one (ltb q r.mass) t.mass })
  where
    one : (x : Bool) → cond x q r.mass ≡ 0 → r.mass ≡ 0
    one true h = let some = leb-true 1 q (both_true (leb 1 q) (leb q 65535) a).0 in let no : ⊥ = omega arith in absurd no
    one false h = h
