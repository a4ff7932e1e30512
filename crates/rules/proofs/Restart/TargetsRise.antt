-- Targets of which none are of one time rise, and do not conflict where one input has one time.
use Prim.Native.Nat.{ℕ, ◌<◌}
use mathlib.Core.Path.{◌≡◌, refl, sym, subst}
use mathlib.Core.Logic.{inl, inr}
use mathlib.Core.Bool.{Bool, true, false, ◌&&◌}
use mathlib.Core.List.{List, [], ◌∷◌}
use native.Mathlib.Omega.{arith}
use native.Mathlib.Decide.{dec_lt, ℕ_discrete}
use lib.Dec.{eqb}
use borrow.Author.Tests.{eq-eqb, ne_eqb, eqb-true, lt-ltb, le-ltb}
use Rattle.rules.specs.Line.{Target}
use Rattle.rules.specs.Recover.{add_target, sort_targets, clash, conflict}
use Rattle.rules.proofs.Lists.Rising.{Rises, none, more}
use Rattle.rules.proofs.Lists.Members.{In, here, there, in_first, rises_in}
use Rattle.rules.proofs.Ending.Targets.{add_in}
use Rattle.rules.proofs.Undamaged.TestLaws.{none_by}

abbrev pub target_time : Target → ℕ
target_time u = u.time

-- Targets of some kind of which no two are of one time.
module _ (Good : Target → Type 0) (one : (t u : Target) → Good t → Good u → t.time ≡ u.time → t ≡ u) where
  known_rises : {a : ℕ} (t u : Target) {us : List Target} → t ≡ u → Rises target_time a (u ∷ us) → Rises target_time a (add_target t (u ∷ us))
  known_rises {a} t u {us} q r =
      subst (λ (x : Target). Rises target_time a (add_target x (u ∷ us))) (sym q)
      (rw (
        le-ltb u.time u.time (omega arith),
        eq-eqb u.time u.time refl,
        le-ltb u.parent u.parent (omega arith),
        eq-eqb u.parent u.parent refl,
        le-ltb u.parent_time u.parent_time (omega arith),
        add_target,
        eq-eqb u.time u.time refl,
        eq-eqb u.parent u.parent refl,
        eq-eqb u.parent_time u.parent_time refl,
        add_target,
      ) r)

  add_rises : {a : ℕ} (t : Target) {us : List Target} → a < t.time → Good t → ((u : Target) → In u us → Good u) → Rises target_time a us → Rises target_time a (add_target t us)
  add_rises t h good all none = more {x = t} h none
  add_rises t h good all (more {x = u} {xs = us} k r) =
      elim (dec_lt t.time u.time) [
        | yes before ↦ rw (lt-ltb t.time u.time before, add_target) (more {x = t} h (more {x = u} before r))
        | no behind ↦ elim (ℕ_discrete t.time u.time) [
          | yes q ↦ known_rises t u (one t u good (all u here) q) (more {x = u} k r)
          | no d ↦ rw (le-ltb t.time u.time (omega arith), ne_eqb t.time u.time d, add_target, ne_eqb t.time u.time d, add_target) (more {x = u} k (add_rises t (omega arith) good (λ v i. all v (there i)) r))
        ]
      ]

  pub sort_rises : {a : ℕ} (ts : List Target) {sorted : List Target} → ((t : Target) → In t ts → (a < t.time) × Good t) → ((u : Target) → In u sorted → Good u) → Rises target_time a sorted → Rises target_time a (sort_targets sorted ts)
  sort_rises [] new old r = r
  sort_rises (t ∷ ts) {sorted} new old r =
      sort_rises ts (λ u i. new u (there i)) (λ u i. elim (in_first (add_in t sorted i)) [ inl q ↦ subst Good (sym q) (new t here).1 | inr j ↦ old u j ]) (add_rises t (new t here).0 (new t here).1 old r)

no_clash : (t u : Target) → t.time < u.time → (t.parent ≡ u.parent → t.parent_time ≡ u.parent_time → t.time ≡ u.time) → clash t u ≡ false
no_clash t u h f = rw (ne_eqb t.time u.time (λ q. omega arith)) (go (eqb t.parent u.parent) (eqb t.parent_time u.parent_time) refl refl)
  where
    go : (x y : Bool) → eqb t.parent u.parent ≡ x → eqb t.parent_time u.parent_time ≡ y → (x && y) ≡ false
    go true true p q = let no : ⊥ = omega (arith, f (eqb-true t.parent u.parent p) (eqb-true t.parent_time u.parent_time q)) in absurd no
    go true false p q = refl
    go false y p q = refl

pub no_conflict : {a : ℕ} {ts : List Target} → Rises target_time a ts → ((t u : Target) → In t ts → In u ts → t.parent ≡ u.parent → t.parent_time ≡ u.parent_time → t.time ≡ u.time) → conflict ts ≡ false
no_conflict none f = refl
no_conflict (more {x = t} {xs = ts} h r) f = rw (none_by (clash t) ts (λ u i. no_clash t u (rises_in target_time r i) (f t u here (there i))), no_conflict r (λ x y i j. f x y (there i) (there j)))
