-- Times that rise in one pass, from above the last so far to the top; a log's, by its sets.
use Prim.Native.Nat.{ℕ, ◌<◌, ◌≤◌}
use mathlib.Core.Path.{◌≡◌, refl, sym, ap, ◌∙◌}
use mathlib.Core.Bool.{Bool, true, false, cond, not, ◌&&◌, ◌||◌, and-true, and-false, or-true, or-false}
use mathlib.Core.List.{List, [], ◌∷◌, map}
use native.Mathlib.Omega.{arith}
use lib.Dec.{leb, ltb, eqb}
use borrow.Author.Tests.{ltb-true, leb-true, leb-false, lt-ltb, le-ltb, eqb-true, eqb-false}
use Rattle.plan.specs.Plan.{Plan, is_source, is_sink}
use Rattle.plan.specs.Mask.{set_of}
use Rattle.rules.specs.Lists.{all_of}
use Rattle.rules.specs.Line.{Entry}
use Rattle.rules.specs.Damaged.{rises, rises_to, may_repeat, log_rises}
use Rattle.rules.proofs.Histories.Passing.{timed_by_set}
use Rattle.rules.proofs.Lists.Members.{In, here, there}
use Rattle.items.specs.Items.{times_rise, is_inner, may_follow, log_rise, set_right}
use Rattle.items.proofs.Tests.{all_true}

shuffle : (a b c d : Bool) → (a && b && (c && d)) ≡ (a && c && (b && d))
shuffle true true c d = refl
shuffle true false true d = refl
shuffle true false false d = refl
shuffle false b c d = refl

pub rise_same : {A : Type 0} (time : A → ℕ) (last top : ℕ) (xs : List A) → times_rise time last top xs ≡ rises_to last top (map time xs)
rise_same time last top [] = refl
rise_same time last top (x ∷ xs) =
    ap (λ (t : Bool). ltb last (time x) && leb (time x) top && t) (rise_same time (time x) top xs)
    ∙ shuffle (ltb last (time x)) (leb (time x) top) (rises (time x) (map time xs)) (all_of (λ (t : ℕ). leb t top) (map time xs))

pub rise_within : {A : Type 0} (time : A → ℕ) {x : A} (last top : ℕ) {xs : List A} → times_rise time last top xs ≡ true → In x xs → (last < time x) × (time x ≤ top)
rise_within time {x = x} last top e (here {xs = xs}) =
    let (late, (inside, rest)) = all_true (ltb last (time x)) (leb (time x) top ∷ times_rise time (time x) top xs ∷ []) e in
    (ltb-true last (time x) late, leb-true (time x) top inside)
rise_within time {x = x} last top e (there {y = y} {xs = xs} i) =
    let (late, (inside, rest)) = all_true (ltb last (time y)) (leb (time y) top ∷ times_rise time (time y) top xs ∷ []) e in
    let (above, below) = rise_within time (time y) top rest i in
    (omega (arith, ltb-true last (time y) late), below)

-- ---- a log's times

-- By cases of where the node stands, and whether the set is empty.
follows : (source sink none : Bool) (last time : ℕ) → (ltb last time || (not (source || sink) && eqb last time && none)) ≡ cond (not source && not (sink || not none)) (leb last time) (ltb last time)
follows true sink none last time = or-false (ltb last time)
follows false true none last time = or-false (ltb last time)
follows false false false last time = ap (λ (t : Bool). ltb last time || t) (and-false (eqb last time)) ∙ or-false (ltb last time)
follows false false true last time = ap (λ (t : Bool). ltb last time || t) (and-true (eqb last time)) ∙ one (leb last time) refl (eqb last time) refl
  where
    one : (a : Bool) → leb last time ≡ a → (b : Bool) → eqb last time ≡ b → (ltb last time || b) ≡ a
    one true e true q = or-true (ltb last time)
    one true e false q = ap (λ (t : Bool). t || false) (lt-ltb last time (omega (arith, leb-true last time e, eqb-false last time q)))
    one false e true q = absurd (let z = leb-false last time e in omega (arith, eqb-true last time q, z))
    one false e false q = ap (λ (t : Bool). t || false) (le-ltb last time (let z = leb-false last time e in omega (arith, z)))

module _ (p : Plan) (n : ℕ) where
  -- At an entry with the right set.
  follow_same : (last : ℕ) (e : Entry) → set_right p n e ≡ true → may_follow (is_inner p n) last e.time e.set ≡ cond (may_repeat p n e.what) (leb last e.time) (ltb last e.time)
  unfolding is_inner may_repeat
  follow_same last e right =
      let set : e.set ≡ set_of p n e.what = eqb-true e.set (set_of p n e.what) right in
      follows (is_source p n) (is_sink p n) (eqb e.set 0) last e.time
      ∙ ap (λ (t : Bool). cond (not (is_source p n) && not t) (leb last e.time) (ltb last e.time)) (ap (λ (k : ℕ). is_sink p n || not (eqb k 0)) set ∙ sym (timed_by_set p n e.what))

  pub log_same : (last top : ℕ) (es : List Entry) → ((e : Entry) → In e es → set_right p n e ≡ true) → log_rise (is_inner p n) last top es ≡ (log_rises p n last es && all_of (λ (t : ℕ). leb t top) (map (λ (e : Entry). e.time) es))
  log_same last top [] right = refl
  log_same last top (e ∷ es) right =
      (λ i. follow_same last e (right e here) i && leb e.time top && log_same e.time top es (λ f j. right f (there j)) i)
      ∙ shuffle (cond (may_repeat p n e.what) (leb last e.time) (ltb last e.time)) (leb e.time top) (log_rises p n e.time es) (all_of (λ (t : ℕ). leb t top) (map (λ (e : Entry). e.time) es))

pub log_within : (inner : Bool) {x : Entry} (last top : ℕ) {xs : List Entry} → log_rise inner last top xs ≡ true → In x xs → x.time ≤ top
log_within inner {x = x} last top e (here {xs = xs}) = leb-true x.time top (all_true (may_follow inner last x.time x.set) (leb x.time top ∷ log_rise inner x.time top xs ∷ []) e).1.0
log_within inner last top e (there {y = y} {xs = xs} i) = log_within inner y.time top (all_true (may_follow inner last y.time y.set) (leb y.time top ∷ log_rise inner y.time top xs ∷ []) e).1.1 i
