-- What holds of a plan that no check refuses.
use Prim.Native.Nat.{ℕ, ◌≤◌}
use Rattle.std.specs.Option.{MatchOption, is_some}
use Rattle.std.proofs.Common.{Option, Some, None}
use Rattle.std.specs.declared.result.Result.{Result}
use Rattle.std.specs.declared.result.Result.TheVariants.{Ok, Err}
use Rattle.answers.specs.Number.{refusal_number, number}
use Rattle.answers.specs.declared.Refusal.{Refusal}
use Rattle.answers.specs.declared.Refusal.TheVariants.{PlanDegree}
use mathlib.Core.Path.{◌≡◌, refl, sym, ◌∙◌}
use mathlib.Core.Bool.{Bool, true, false, cond, not, ◌&&◌}
use mathlib.Core.List.{List}
use native.Mathlib.Omega.{arith}
use borrow.Author.Tests.{eqb-true, leb-true, ltb-false, not-false, eq-eqb, le-leb, le-ltb}
use lib.Dec.{leb, ltb, eqb}
use lib.ListN.{length, drop}
use Rattle.plan.specs.declared.Version.{Version}
use Rattle.plan.specs.declared.Version.TheVariants.{One, Two}
use Rattle.plan.specs.Named.{version_number}
use Rattle.plan.specs.Layout.{read_slots}
use Rattle.plan.specs.Rule.{rule_fields}
use Rattle.plan.specs.Plan.{plan_of, plan_length, plan_version, plan_nodes, plan_channels, size_by_head}
use Rattle.plan.specs.Check.{bad_length, version_fits, bad_version, counts_fit, bad_counts, bad_size, rules_fit, bad_rules, channels_fit, bad_channels, four_at_most, bad_degrees, plan_refusal}
use Rattle.basics.specs.Bools.{both_true, neither_true}

-- The first that applies, 0 where none does.
unfoldable pub first_of : Bool → Bool → Bool → Bool → Bool → Bool → Bool → ℕ
first_of a b c d e f g =
    elim a [
      | true ↦ 1
      | false ↦ elim b [
        | true ↦ 2
        | false ↦ elim c [
          | true ↦ 3
          | false ↦ elim d [
            | true ↦ 4
            | false ↦ elim e [
              | true ↦ 5
              | false ↦ elim f [
                | true ↦ 6
                | false ↦ elim g [ true ↦ 7 | false ↦ 0 ]
              ]
            ]
          ]
        ]
      ]
    ]

pub refusal_first : (s : List ℕ) → plan_refusal s ≡ first_of (bad_length s) (bad_version s) (bad_counts s) (bad_size s) (bad_rules s) (bad_channels s) (bad_degrees s)
unfolding plan_refusal first_of
refusal_first s = refl

-- A version is refused where there is none of that number.
pub unnamed : (v : ℕ) (named : Option Version) → MatchOption named (version_fits v ≡ false) (λ o. v ≡ version_number o) → (none : Bool) → is_some named ≡ not none → none ≡ not (version_fits v)
unnamed v None is true e = rw is
unnamed v (Some One) is false e = rw is
unnamed v (Some Two) is false e = rw is
unnamed v None is false e = absurd (cc)
unnamed v (Some o) is true e = absurd (cc)

-- A check that refuses where its test says so, and what is known where it has refused or not.
abbrev outcome : Bool → Refusal → Result (Unit {0}) Refusal
outcome bad r = cond bad (Err r) (Ok tt)

ok_outcome : (bad : Bool) (r : Refusal) (u : Unit {0}) → outcome bad r ≡ Ok u → bad ≡ false
ok_outcome true r u e = absurd (cc)
ok_outcome false r u e = refl

err_outcome : (bad : Bool) (r f : Refusal) → outcome bad r ≡ Err f → (bad ≡ true) × (f ≡ r)
err_outcome true r f e = (refl, cc)
err_outcome false r f e = absurd (cc)

module _ {bad : Bool} (r : Refusal) {tested : Result (Unit {0}) Refusal} (test : tested ≡ outcome bad r) where
  pub passed : {u : Unit {0}} → tested ≡ Ok u → bad ≡ false
  passed {u = u} is = ok_outcome bad r u (sym test ∙ is)

  pub refused : {f : Refusal} {told : Result (Unit {0}) Refusal} → tested ≡ Err f → told ≡ Err f → (bad ≡ true) × (number told ≡ refusal_number r)
  refused {f = f} is same =
      let e = err_outcome bad r f (sym test ∙ is) in
      (e.0, rw (same, e.1))

-- The last check, where no other one refuses.
pub last_applies : (g : Bool) → number (outcome g PlanDegree) ≡ first_of false false false false false false g
unfolding first_of
last_applies true = refl
last_applies false = refl

none_applies : (a b c d e f g : Bool) → first_of a b c d e f g ≡ 0
    → (a ≡ false) × (b ≡ false) × (c ≡ false) × (d ≡ false) × (e ≡ false) × (f ≡ false) × (g ≡ false)
unfolding first_of
none_applies true b c d e f g z = let no : ⊥ = omega arith in absurd no
none_applies false true c d e f g z = let no : ⊥ = omega arith in absurd no
none_applies false false true d e f g z = let no : ⊥ = omega arith in absurd no
none_applies false false false true e f g z = let no : ⊥ = omega arith in absurd no
none_applies false false false false true f g z = let no : ⊥ = omega arith in absurd no
none_applies false false false false false true g z = let no : ⊥ = omega arith in absurd no
none_applies false false false false false false true z = let no : ⊥ = omega arith in absurd no
none_applies false false false false false false false z = (refl, refl, refl, refl, refl, refl, refl)

pub record Accepted (s : List ℕ) : Type 0 where
  pub long : 5 ≤ length s
  pub length_field : plan_length s ≡ length s
  pub version : version_fits (plan_version s) ≡ true
  pub nodes_least : 2 ≤ plan_nodes s
  pub nodes_most : plan_nodes s ≤ 12
  pub channels_least : 1 ≤ plan_channels s
  pub channels_most : plan_channels s ≤ 24
  pub sized : length s ≡ size_by_head s
  pub rules : rules_fit (read_slots rule_fields (plan_nodes s) (drop 5 s)) ≡ true
  pub channels : channels_fit (plan_nodes s) 0 0 (plan_of s).channels ≡ true
  pub degrees : four_at_most (plan_of s) (plan_nodes s) ≡ true

-- Check 3's limits, as a test and as facts.
pub counts-within : (n m : ℕ) → counts_fit n m ≡ true → (2 ≤ n) × (n ≤ 12) × (1 ≤ m) × (m ≤ 24)
counts-within n m e =
    let a = both_true (leb 2 n && leb n 12 && leb 1 m) (leb m 24) e in
    let b = both_true (leb 2 n && leb n 12) (leb 1 m) a.0 in
    let c = both_true (leb 2 n) (leb n 12) b.0 in
    (leb-true 2 n c.0, leb-true n 12 c.1, leb-true 1 m b.1, leb-true m 24 a.1)

pub counts_fit_lem : (n m : ℕ) → 2 ≤ n → n ≤ 12 → 1 ≤ m → m ≤ 24 → counts_fit n m ≡ true
counts_fit_lem n m a b c d = rw (le-leb 2 n a, le-leb n 12 b, le-leb 1 m c, le-leb m 24 d)

pub accepted : (s : List ℕ) → plan_refusal s ≡ 0 → Accepted s
unfolding bad_length bad_version bad_counts bad_size bad_rules bad_channels bad_degrees
accepted s z =
    let n = none_applies (bad_length s) (bad_version s) (bad_counts s) (bad_size s) (bad_rules s) (bad_channels s) (bad_degrees s) (sym (refusal_first s) ∙ z) in
    let l = neither_true (ltb (length s) 5) (not (eqb (plan_length s) (length s))) n.0 in
    let c = counts-within (plan_nodes s) (plan_channels s) (not-false _ n.2) in
    record {
      long = ltb-false (length s) 5 l.0;
      length_field = eqb-true (plan_length s) (length s) (not-false _ l.1);
      version = not-false _ n.1;
      nodes_least = c.0;
      nodes_most = c.1;
      channels_least = c.2;
      channels_most = c.3;
      sized = eqb-true (length s) (size_by_head s) (not-false _ n.3);
      rules = not-false _ n.4;
      channels = not-false _ n.5;
      degrees = not-false _ n.6;
    }

-- And the other way round.
pub unrefused : (s : List ℕ) → Accepted s → plan_refusal s ≡ 0
unfolding first_of bad_length bad_version bad_counts bad_size bad_rules bad_channels bad_degrees
unrefused s a =
    refusal_first s
    ∙ rw (
      le-ltb (length s) 5 a.long,
      eq-eqb (plan_length s) (length s) a.length_field,
      a.version,
      counts_fit_lem (plan_nodes s) (plan_channels s) a.nodes_least a.nodes_most a.channels_least a.channels_most,
      eq-eqb (length s) (size_by_head s) a.sized,
      a.rules,
      a.channels,
      a.degrees,
    )
