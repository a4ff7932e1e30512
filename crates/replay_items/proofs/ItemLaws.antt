-- A held record as it is read: itself, its fixed column and its floor.
use Prim.Native.Nat.{ℕ, zero, suc, ◌<◌, max}
use mathlib.Core.Path.{◌≡◌, refl, sym, ap, ◌∙◌}
use mathlib.Core.Bool.{Bool, true, false, cond, or-true, true≢false}
use mathlib.Core.List.{List, [], ◌∷◌, map}
use native.Mathlib.Omega.{arith}
use borrow.Author.Tests.{eqb-true, eq-eqb}
use lib.Dec.{eqb}
use Rattle.basics.specs.Bools.{both_true, neither_true}
use lib.ListN.{length, get_or}
use Rattle.std.specs.Prelude.{Option, None, Some}
use Rattle.plan.specs.declared.Record.{Record}
use Rattle.plan.specs.Plan.{Plan, plan_of, leaving}
use Rattle.plan.specs.Mask.{among, takes_at, taking}
use Rattle.plan.proofs.TakingLaws.{taking-among}
use Rattle.rules.specs.Lists.{keep, keep_one, any_of, greatest_of}
use Rattle.rules.specs.Line.{Held, Target, lane_at}
use Rattle.rules.specs.Recover.{clash, conflict}
use Rattle.rules.specs.Replay.{fixed_at, floor_of}
use Rattle.rules.proofs.Lists.Members.{in_at, none_any}
use Rattle.state.specs.State.{line_of}
use Rattle.state.proofs.InPlace.{line-plan}
use Rattle.buffer.specs.Nothing.{no_target}
use Rattle.replay_items.specs.Items.{is_target, FoundFrom, time_at}

-- ---- the fixed column

-- Two targets that are one record clash.
both_clash : (h : Held) (t u : Target) → is_target h t ≡ true → is_target h u ≡ true → clash t u ≡ true
both_clash h t u e f =
    let (a, b) = both_true (eqb t.parent h.sender) (eqb t.parent_time h.time) e in
    let (c, d) = both_true (eqb u.parent h.sender) (eqb u.parent_time h.time) f in
    let parent : t.parent ≡ u.parent = eqb-true t.parent h.sender a ∙ sym (eqb-true u.parent h.sender c) in
    let time : t.parent_time ≡ u.parent_time = eqb-true t.parent_time h.time b ∙ sym (eqb-true u.parent_time h.time d) in
    rw (eq-eqb t.parent u.parent parent, eq-eqb t.parent_time u.parent_time time) (or-true (eqb t.time u.time))

fixed_cons : (h : Held) (t : Target) (ts : List Target) (b : Bool) → is_target h t ≡ b → fixed_at (t ∷ ts) h ≡ cond b (max t.time (fixed_at ts h)) (fixed_at ts h)
fixed_cons h t ts b e = ap (λ (x : Bool). greatest_of (map (λ (u : Target). u.time) (keep_one x t (keep (is_target h) ts)))) e ∙ one b
  where
    one : (x : Bool) → greatest_of (map (λ (u : Target). u.time) (keep_one x t (keep (is_target h) ts))) ≡ cond x (max t.time (fixed_at ts h)) (fixed_at ts h)
    one true = refl
    one false = refl

not_true_false : (b : Bool) → (b ≡ true → ⊥) → b ≡ false
not_true_false true d = absurd (d refl)
not_true_false false d = refl

-- No target is the record: it is free.
pub fixed_none : (ts : List Target) (h : Held) → ((j : ℕ) → j < length ts → is_target h (get_or ts j no_target) ≡ false) → fixed_at ts h ≡ 0
fixed_none [] h f = refl
fixed_none (t ∷ ts) h f = fixed_cons h t ts false (f zero (omega arith)) ∙ fixed_none ts h (λ j l. f (suc j) (omega arith))

-- One is: it is fixed at that one's time, since no other is.
pub fixed_found : (ts : List Target) (h : Held) (i : ℕ) → conflict ts ≡ false → i < length ts → is_target h (get_or ts i no_target) ≡ true → fixed_at ts h ≡ (get_or ts i no_target).time
fixed_found [] h i q l e = let no : ⊥ = omega arith in absurd no
fixed_found (t ∷ ts) h zero q l e =
    let apart = (neither_true (any_of (clash t) ts) (conflict ts) q).0 in
    let others : fixed_at ts h ≡ 0 = fixed_none ts h (λ j k. not_true_false (is_target h (get_or ts j no_target)) (λ f. true≢false (sym (both_clash h t (get_or ts j no_target) e f) ∙ none_any (clash t) apart (in_at ts j no_target k)))) in
    fixed_cons h t ts true e ∙ omega (arith, others)
fixed_found (t ∷ ts) h (suc i) q l e =
    let (apart, rest) = neither_true (any_of (clash t) ts) (conflict ts) q in
    let not-this : is_target h t ≡ false = not_true_false (is_target h t) (λ f. true≢false (sym (both_clash h t (get_or ts i no_target) f e) ∙ none_any (clash t) apart (in_at ts i no_target (omega arith)))) in
    fixed_cons h t ts false not-this ∙ fixed_found ts h i rest (omega arith) e

-- The time of the target that a held record is.
pub fixed_is : (ts : List Target) (h : Held) (place : Option ℕ) → conflict ts ≡ false → FoundFrom (is_target h) no_target ts 0 place → time_at ts place ≡ fixed_at ts h
fixed_is ts h None q f = sym (fixed_none ts h (λ j l. f j (omega arith) l))
fixed_is ts h (Some i) q f = sym (fixed_found ts h i q f.1 f.2)

-- ---- the floor

-- The greatest entry so far, and of the channels left.
abbrev pub floor_with : List ℕ → ℕ → List ℕ → ℕ
floor_with s floor left = max floor (greatest_of (map (λ (c : ℕ). (lane_at (line_of s) c).taken) left))

pub floor_start : (s : List ℕ) (n : ℕ) (r : Record) (left : List ℕ) → left ≡ among (takes_at (plan_of s) r) (leaving (plan_of s) n) → floor_with s 0 left ≡ floor_of (line_of s) n r
unfolding floor_of
floor_start s n r left e =
    let those : left ≡ taking (line_of s).plan n r = e ∙ sym (taking-among (plan_of s) n r) ∙ ap (λ (p : Plan). taking p n r) (sym (line-plan s)) in
    omega (arith, ap (λ (cs : List ℕ). greatest_of (map (λ (c : ℕ). (lane_at (line_of s) c).taken) cs)) those)
