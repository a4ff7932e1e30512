-- A replaying node's own targets, compared with those found.
use Prim.Native.Nat.{ℕ, suc, ◌+◌, ◌*◌, ◌≤◌, ◌<◌}
use mathlib.Core.Path.{◌≡◌, refl, sym, ap, ◌∙◌}
use mathlib.Core.Bool.{Bool, true, false, not, ◌&&◌, ◌||◌, and-false}
use mathlib.Core.List.{List, [], ◌∷◌}
use native.Mathlib.Numerals.{add-one}
use native.Mathlib.Omega.{arith}
use borrow.Author.Tests.{le-leb, lt-leb}
use lib.Dec.{leb, eqb}
use lib.ListN.{length, get_or, take, drop, drop_of_length-le}
use lib.Seq.{drop-cons}
use Rattle.answers.specs.declared.Refusal.{Refusal}
use Rattle.plan.specs.Plan.{plan_nodes}
use Rattle.rules.specs.Lists.{is_empty}
use Rattle.rules.specs.Line.{target_limit, Target, Line, node_at}
use Rattle.rules.specs.Recover.{same_target, low_of, targets_of, conflict}
use Rattle.rules.specs.Damaged.{same_targets}
use Rattle.state.specs.Sizes.{count_size, target_size, page_at, targets_at}
use Rattle.state.specs.Pieces.{target_layout}
use Rattle.state.specs.Right.{word_at}
use Rattle.state.specs.State.{line_of}
use Rattle.state.proofs.OffsetLaws.{line_targets_count, line-target_at}
use Rattle.items.specs.Items.{replay_right}
use Rattle.slots.specs.declared.Goal.{Goal}
use Rattle.slots.specs.Slots.{target_is}
use Rattle.buffer.specs.Ready.{Ready}
use Rattle.buffer.proofs.ReadyLaws.{counted}
use Rattle.buffer.specs.Nothing.{no_target}
use Rattle.recover.specs.Found.{targets_in, TooMany, rows_in, no_outcome}
use Rattle.recover.proofs.TargetLaws.{targets_length, target_at}

-- ---- two lists of targets

pub sizes_differ : (xs ys : List Target) → (length xs ≡ length ys → ⊥) → same_targets xs ys ≡ false
sizes_differ [] [] h = absurd (h refl)
sizes_differ [] (y ∷ ys) h = refl
sizes_differ (x ∷ xs) [] h = refl
sizes_differ (x ∷ xs) (y ∷ ys) h = rw (sizes_differ xs ys (λ e. h (ap suc e))) (and-false (same_target x y))

-- ---- a node's own targets and those in a slice

module _ (s : List ℕ) (ready : Ready s) (n : ℕ) (inside : n < plan_nodes s) (few : word_at (page_at n + targets_at) s ≤ target_limit) (gs : List Goal) where
  abbrev own : List Target
  own = (node_at (line_of s) n).targets

  stored_length : length own ≡ word_at (page_at n + targets_at) s
  stored_length = omega (arith, line_targets_count s (counted ready) n inside, few)

  -- By the count, as the code reads it.
  pub count_differs : (at : ℕ) → at ≡ page_at n + targets_at → (word_at at s ≡ length gs → ⊥) → false ≡ same_targets own (targets_in gs)
  count_differs at place d = sym (sizes_differ own (targets_in gs) (λ e. d (ap (λ (a : ℕ). word_at a s) place ∙ sym stored_length ∙ e ∙ targets_length gs)))

  -- Those before i are the same.
  abbrev pub SameFrom : ℕ → Type 0
  SameFrom i = same_targets own (targets_in gs) ≡ same_targets (drop i own) (drop i (targets_in gs))

  module _ (at : ℕ) (place : at ≡ page_at n + targets_at) (same : word_at at s ≡ length gs) where
    long : length own ≡ length gs
    long = stored_length ∙ sym (ap (λ (a : ℕ). word_at a s) place) ∙ same

    module _ (i : ℕ) (within : i < length gs) (g d : Goal) (k : SameFrom i) where
      split : (r : ℕ) → r ≡ page_at n + (targets_at + count_size + target_size * i) → target_is g ≡ target_layout.read (take 12 (drop r s))
          → same_targets own (targets_in gs) ≡ (same_target (target_is g) (target_is (get_or gs i d)) && same_targets (drop (i + 1) own) (drop (i + 1) (targets_in gs)))
      split r where-is is =
          let one : get_or own i no_target ≡ target_is g = line-target_at s (counted ready) n inside i no_target (omega (arith, few, stored_length, long)) (omega (arith, stored_length, long)) ∙ sym (is ∙ ap (λ (a : ℕ). target_layout.read (take target_size (drop a s))) where-is) in
          rw (add-one i) (k ∙ (λ j. same_targets (drop-cons own i no_target (omega (arith, long)) j) (drop-cons (targets_in gs) i (target_is d) (omega (arith, targets_length gs)) j))
          ∙ (λ j. same_target (one j) (target_at gs i d j) && same_targets (drop (suc i) own) (drop (suc i) (targets_in gs))))

      pub same_next : (r : ℕ) → r ≡ page_at n + (targets_at + count_size + target_size * i) → target_is g ≡ target_layout.read (take 12 (drop r s)) → same_target (target_is g) (target_is (get_or gs i d)) ≡ true → SameFrom (i + 1)
      same_next r where-is is e = split r where-is is ∙ rw e

      pub other_next : (r : ℕ) → r ≡ page_at n + (targets_at + count_size + target_size * i) → target_is g ≡ target_layout.read (take 12 (drop r s)) → same_target (target_is g) (target_is (get_or gs i d)) ≡ false
          → false ≡ same_targets own (targets_in gs)
      other_next r where-is is e = sym (split r where-is is ∙ rw e)

    pub same_end : (i : ℕ) → length gs ≤ i → SameFrom i → true ≡ same_targets own (targets_in gs)
    same_end i h k = sym (k ∙ (λ j. same_targets (drop_of_length-le own {i = i} (omega (arith, long)) j) (drop_of_length-le (targets_in gs) {i = i} (omega (arith, targets_length gs)) j)))

-- ---- the whole test

module _ (l : Line) (n : ℕ) where
  abbrev ts : List Target
  ts = targets_of l n

  abbrev test_of : Bool → Bool → Bool → Bool
  test_of few clash none = few && not clash && not none && not (rows_in l n ts) && eqb (node_at l n).time (low_of l n) && same_targets (node_at l n).targets ts

  replay_is : replay_right l n ≡ test_of (leb (length ts) target_limit) (conflict ts) (is_empty ts)
  unfolding replay_right
  replay_is = refl

  pub replay_many : (e : Refusal) → TooMany ts e → false ≡ replay_right l n
  replay_many e many = sym (replay_is ∙ ap (λ (few : Bool). test_of few (conflict ts) (is_empty ts)) (lt-leb (length ts) target_limit many.1))

  pub replay_none : length ts ≡ 0 → false ≡ replay_right l n
  replay_none none = sym (replay_is ∙ go (leb (length ts) target_limit) (conflict ts) (is_empty ts) (empty ts none))
    where
      empty : (us : List Target) → length us ≡ 0 → is_empty us ≡ true
      empty [] e = refl
      empty (u ∷ us) e = let no : ⊥ = omega arith in absurd no

      go : (few clash none : Bool) → none ≡ true → test_of few clash none ≡ false
      go false clash none e = refl
      go true true none e = refl
      go true false none e = rw e

  pub replay_some : 0 < length ts → length ts ≤ 64 → (not (no_outcome l n ts) && eqb (node_at l n).time (low_of l n) && same_targets (node_at l n).targets ts) ≡ replay_right l n
  replay_some some few =
      go (conflict ts) (rows_in l n ts) (eqb (node_at l n).time (low_of l n)) (same_targets (node_at l n).targets ts) (there ts some)
      ∙ ap (λ (b : Bool). test_of b (conflict ts) (is_empty ts)) (sym (le-leb (length ts) target_limit few)) ∙ sym replay_is
    where
      there : (us : List Target) → 0 < length us → is_empty us ≡ false
      there [] q = let no : ⊥ = omega arith in absurd no
      there (u ∷ us) q = refl

      go : (clash done time same : Bool) → is_empty ts ≡ false → (not (not (is_empty ts) && (clash || done)) && time && same) ≡ (true && not clash && not (is_empty ts) && not done && time && same)
      go clash done time same e = rw e (one clash done)
        where
          one : (clash done : Bool) → (not (not false && (clash || done)) && time && same) ≡ (true && not clash && not false && not done && time && same)
          one true done = refl
          one false done = refl
