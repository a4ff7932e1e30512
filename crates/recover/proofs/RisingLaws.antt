-- Targets one by one: the goal of each row, and no two that clash if times rise, all of them and each parent's.
use Prim.Native.Nat.{ℕ, ◌+◌, ◌≤◌, ◌<◌, max}
use mathlib.Core.Path.{◌≡◌, refl, sym, ap, ap₂, subst, ◌∙◌}
use mathlib.Core.Bool.{Bool, true, false, cond, ◌&&◌, ◌||◌}
use mathlib.Core.List.{List, [], ◌∷◌, ◌++◌, map}
use native.Mathlib.Numerals.{add-one}
use native.Mathlib.Omega.{arith}
use borrow.Author.Tests.{ltb-true, ne_eqb}
use lib.Dec.{ltb, eqb}
use lib.ListN.{length, get_or, take}
use lib.Seq.{take-suc, take_all}
use Rattle.basics.specs.Bools.{both_true, neither_true}
use Rattle.rules.specs.Lists.{keep, keep_one, any_of, greatest_of}
use Rattle.rules.specs.Line.{Target}
use Rattle.rules.specs.Recover.{clash, conflict, row_goal}
use Rattle.rules.proofs.Lists.ListLaws.{keep_append, map-append, map_more}
use Rattle.items.proofs.Tests.{any_append}
use Rattle.buffer.specs.Rows.{rows_long, Rows}
use Rattle.slots.specs.declared.Goal.{Goal}
use Rattle.slots.specs.Slots.{target_is}
use Rattle.recover.specs.Found.{targets_in, raised_at, is_above}
use Rattle.recover.proofs.ChildLaws.{greatest-append, high_snoc}

abbrev sent_of : Target → ℕ
sent_of t = t.parent_time

-- The latest of some targets' times.
abbrev pub latest : List Target → ℕ
latest ts = greatest_of (map (λ (t : Target). t.time) ts)

latest_more : (ts : List Target) (t : Target) → latest (ts ++ t ∷ []) ≡ max (latest ts) t.time
latest_more ts t =
    let h = greatest-append (map (λ (u : Target). u.time) ts) (t.time ∷ []) in
    ap greatest_of (map-append (λ (u : Target). u.time) ts (t ∷ [])) ∙ omega (arith, h)

module _ (parent : ℕ) where
  abbrev named : Target → Bool
  named t = eqb t.parent parent

  goal_more : (ts : List Target) (t : Target) → row_goal (ts ++ t ∷ []) parent ≡ cond (eqb t.parent parent) (max (row_goal ts parent) t.parent_time) (row_goal ts parent)
  goal_more ts t =
      ap (λ (us : List Target). greatest_of (map sent_of us)) (keep_append named ts (t ∷ []))
      ∙ ap greatest_of (map_more sent_of (named t) t (keep named ts))
      ∙ high_snoc (map sent_of (keep named ts)) (named t) t.parent_time

-- ---- a target above all before it, and above its parent's

clear_more : (ts : List Target) (t : Target) → latest ts < t.time → row_goal ts t.parent < t.parent_time → conflict ts ≡ false → conflict (ts ++ t ∷ []) ≡ false
clear_more [] t l g c = refl
clear_more (u ∷ ts) t l g c =
    let b = neither_true (any_of (clash u) ts) (conflict ts) c in
    let times : eqb u.time t.time ≡ false = ne_eqb u.time t.time (λ e. (let no : ⊥ = omega arith in no)) in
    let inputs = one (named t.parent u) g in
    ap₂ ◌||◌ (any_append (clash u) ts (t ∷ []) ∙ (λ j. b.0 j || ((times j || inputs.1 j) || false))) (clear_more ts t (omega arith) inputs.0 b.1)
  where
    one : (same : Bool) → greatest_of (map sent_of (keep_one same u (keep (named t.parent) ts))) < t.parent_time → (row_goal ts t.parent < t.parent_time) × ((same && eqb u.parent_time t.parent_time) ≡ false)
    one true h = (omega arith, ne_eqb u.parent_time t.parent_time (λ e. (let no : ⊥ = omega arith in no)))
    one false h = (h, refl)

-- ---- target by target

pub record Rising (ts : List Target) (rows : List ℕ) (time : ℕ) (ok : Bool) : Type 0 where
  pub goals : Rows rows (row_goal ts)
  pub early : ok ≡ true → latest ts ≤ time
  pub clear : ok ≡ true → conflict ts ≡ false

rising_more : (ts : List Target) (t : Target) (rows : List ℕ) (time : ℕ) (ok r : Bool) (next : List ℕ) → r ≡ is_above rows t.parent t.parent_time → Rows next (raised_at rows t.parent t.parent_time)
    → Rising ts rows time ok → Rising (ts ++ t ∷ []) next t.time (ok && ltb time t.time && r)
rising_more ts t rows time ok r next e raised k =
    record {
      goals = record { long = raised.long; each = λ q h. raised.each q h ∙ ap (λ (x : ℕ). cond (eqb t.parent q) (max x t.parent_time) x) (k.goals.each q h) ∙ sym (goal_more q ts t) };
      early = λ w. omega (arith, latest_more ts t, k.early (was w), later w);
      clear = λ w. (let above = both_true (ltb t.parent rows_long) (ltb (get_or rows t.parent 0) t.parent_time) (sym e ∙ (both_true (ok && ltb time t.time) r w).1) in
          clear_more ts t (omega (arith, k.early (was w), later w)) (omega (arith, k.goals.each t.parent (ltb-true t.parent rows_long above.0), ltb-true (get_or rows t.parent 0) t.parent_time above.1)) (k.clear (was w)));
    }
  where
    tests : (ok && ltb time t.time && r) ≡ true → (ok ≡ true) × (ltb time t.time ≡ true)
    tests w = both_true ok (ltb time t.time) (both_true (ok && ltb time t.time) r w).0

    was : (ok && ltb time t.time && r) ≡ true → ok ≡ true
    was w = (tests w).0

    later : (ok && ltb time t.time && r) ≡ true → time < t.time
    later w = ltb-true time t.time (tests w).1

pub record RisingTo (gs : List Goal) (rows : List ℕ) (time : ℕ) (ok : Bool) (i : ℕ) : Type 0 where
  pub rises : Rising (targets_in (take i gs)) rows time ok

pub rising_start : (gs : List Goal) (rows : List ℕ) → Rows rows (λ q. 0) → RisingTo gs rows 0 true 0
rising_start gs rows none = record { rises = record { goals = none; early = λ w. omega arith; clear = λ w. refl } }

pub rising_turn : (gs : List Goal) (rows : List ℕ) (time : ℕ) (ok : Bool) (i : ℕ) (d : Goal) (r : Bool) (next : List ℕ) → i < length gs → (let g = get_or gs i d in r ≡ is_above rows g.parent g.sent)
    → (let g = get_or gs i d in Rows next (raised_at rows g.parent g.sent)) → RisingTo gs rows time ok i → (let g = get_or gs i d in RisingTo gs next g.time (ok && ltb time g.time && r) (i + 1))
rising_turn gs rows time ok i d r next h f raised k =
    let g : Goal = get_or gs i d in
    let more : targets_in (take i gs) ++ target_is g ∷ [] ≡ targets_in (take (i + 1) gs) = rw (add-one i, take-suc gs i d h) (sym (map-append target_is (take i gs) (g ∷ []))) in
    record { rises = subst (λ (us : List Target). Rising us next g.time (ok && ltb time g.time && r)) more (rising_more (targets_in (take i gs)) (target_is g) rows time ok r next f raised k.rises) }

pub rising_end : (gs : List Goal) (rows : List ℕ) (time : ℕ) (ok : Bool) (i : ℕ) → length gs ≤ i → RisingTo gs rows time ok i → (ok ≡ true → conflict (targets_in gs) ≡ false) × Rows rows (row_goal (targets_in gs))
rising_end gs rows time ok i h k =
    let all = subst (λ (us : List Goal). Rising (targets_in us) rows time ok) (take_all i gs h) k.rises in
    (all.clear, all.goals)
