-- What Crash, Recover, Ask and Commit answer is the rules' number.
use Prim.Native.Nat.{ℕ, ◌<◌}
use mathlib.Core.Path.{◌≡◌, refl, sym, ap, ◌∙◌}
use mathlib.Core.Logic.{◌≢◌}
use mathlib.Core.Bool.{Bool, true, false, not, ◌&&◌, ◌||◌, true≢false}
use mathlib.Core.List.{List, [], ◌∷◌}
use mathlib.Core.Option.{Option, none, some}
use native.Mathlib.Omega.{arith}
use borrow.Author.Tests.{leb-false, not-false}
use lib.ListN.{length}
use lib.Dec.{leb, ltb}
use Rattle.answers.specs.declared.Refusal.{Refusal}
use Rattle.answers.specs.Number.{refusal_number}
use Rattle.plan.specs.Plan.{node_count}
use Rattle.rules.specs.Lists.{is_empty, all_of}
use Rattle.rules.specs.Line.{target_limit, Target, Node, Line, node_at}
use Rattle.rules.specs.Frame.{crash, recover, commit}
use Rattle.rules.specs.Recover.{targets_of, conflict, recovered, rows_complete}
use Rattle.rules.specs.Replay.{is_held, replay_end, ended_if_complete}
use Rattle.rules.specs.Step.{node_down, is_nothing, no_placing, recovered_line, effect, line_refusal}
use Rattle.rules.proofs.Invariant.Inv.{Shape, Ordered}
use Rattle.rules.proofs.Undamaged.Restored.{restored_node, recovered_is, restored-node, restored_complete_lem}
use Rattle.recover.specs.Found.{rows_in, no_outcome}
use Rattle.restart.specs.Answers.{first_of, is_end, reach_answer, crash_answer, restart_asked, commit_answer}

pub refused : (r : Refusal) → refusal_number r ≢ 0
refused r e = grind arith

-- A test that refuses, one that does not, and what follows where none does.
pub first_here : (t : Bool) (n rest : ℕ) → t ≡ true → n ≡ first_of t n rest
first_here t n rest e = rw e

pub first_past : (t : Bool) (n rest r : ℕ) → t ≡ false → r ≡ rest → r ≡ first_of t n rest
first_past t n rest r e q = rw e q

pub first_none : (t : Bool) (n rest : ℕ) → n ≢ 0 → first_of t n rest ≡ 0 → (t ≡ false) × (rest ≡ 0)
first_none true n rest d e = absurd (d e)
first_none false n rest d e = (refl, e)

-- Of 13 and 14 one refuses, whatever comes behind; or none does.
reach_refuses : (a b : Bool) (rest r : ℕ) → r ≡ first_of a 13 (first_of b 14 0) → r ≢ 0 → first_of a 13 (first_of b 14 rest) ≡ r
reach_refuses true b rest r q d = sym q
reach_refuses false true rest r q d = sym q
reach_refuses false false rest r q d = absurd (d q)

reach_passes : (a b : Bool) (rest : ℕ) → first_of a 13 (first_of b 14 0) ≡ 0 → first_of a 13 (first_of b 14 rest) ≡ rest
reach_passes true b rest q = let no : ⊥ = omega arith in absurd no
reach_passes false true rest q = let no : ⊥ = omega arith in absurd no
reach_passes false false rest q = refl

pub reach_inside : (l : Line) (n : ℕ) → 0 ≡ reach_answer l n → n < node_count l.plan
reach_inside l n e = leb-false (node_count l.plan) n (first_none (leb (node_count l.plan) n) 13 _ (λ q. omega arith) (sym e)).0

module _ (l : Line) (n rest : ℕ) where
  pub reach_refused : (r : Refusal) → refusal_number r ≡ reach_answer l n → refusal_number r ≡ first_of (leb (node_count l.plan) n) 13 (first_of (is_end l n) 14 rest)
  reach_refused r e = sym (reach_refuses (leb (node_count l.plan) n) (is_end l n) rest (refusal_number r) e (refused r))

  pub reach_passed : 0 ≡ reach_answer l n → (r : ℕ) → r ≡ rest → r ≡ first_of (leb (node_count l.plan) n) 13 (first_of (is_end l n) 14 rest)
  reach_passed e r is = is ∙ sym (reach_passes (leb (node_count l.plan) n) (is_end l n) rest (sym e))

-- Of 13 to 15 one refuses, whatever comes behind; or none does.
first_refuses : (a b c : Bool) (rest r : ℕ) → r ≡ first_of a 13 (first_of b 14 (first_of c 15 0)) → r ≢ 0 → first_of a 13 (first_of b 14 (first_of c 15 rest)) ≡ r
first_refuses true b c rest r q d = sym q
first_refuses false true c rest r q d = sym q
first_refuses false false true rest r q d = sym q
first_refuses false false false rest r q d = absurd (d q)

first_passes : (a b c : Bool) (rest : ℕ) → first_of a 13 (first_of b 14 (first_of c 15 0)) ≡ 0 → first_of a 13 (first_of b 14 (first_of c 15 rest)) ≡ rest
first_passes true b c rest q = let no : ⊥ = omega arith in absurd no
first_passes false true c rest q = let no : ⊥ = omega arith in absurd no
first_passes false false true rest q = let no : ⊥ = omega arith in absurd no
first_passes false false false rest q = refl

module _ (l : Line) (n : ℕ) where
  -- ---- Crash

  pub crash_number : line_refusal l (crash n) ≡ crash_answer l n
  unfolding line_refusal no_placing effect
  crash_number = refl

  pub crash_inside : crash_answer l n ≡ 0 → n < node_count l.plan
  crash_inside e = leb-false (node_count l.plan) n (first_none (leb (node_count l.plan) n) 13 _ (λ q. omega arith) e).0

  -- ---- Recover

  pub asked_inside : restart_asked l n ≡ 0 → n < node_count l.plan
  asked_inside e = leb-false (node_count l.plan) n (first_none (leb (node_count l.plan) n) 13 _ (λ q. omega arith) e).0

  pub asked_down : restart_asked l n ≡ 0 → node_down l n ≡ true
  asked_down e =
      let rest : ℕ = first_of (not (node_down l n)) 15 0 in
      let a = (first_none (leb (node_count l.plan) n) 13 (first_of (is_end l n) 14 rest) (λ q. omega arith) e).1 in
      let b = (first_none (is_end l n) 14 rest (λ q. omega arith) a).1 in
      not-false (node_down l n) (first_none (not (node_down l n)) 15 0 (λ q. omega arith) b).0

  abbrev ts : List Target
  ts = targets_of l n

  recover_number : line_refusal l (recover n) ≡ first_of (leb (node_count l.plan) n) 13
      (first_of (is_end l n) 14 (first_of (not (node_down l n)) 15 (first_of (ltb target_limit (length ts)) 21 (first_of (is_nothing (effect l (recover n))) 24 0))))
  unfolding line_refusal no_placing
  recover_number = refl

  -- A refusal by the node alone.
  pub asked_number : (r : ℕ) → r ≡ restart_asked l n → r ≢ 0 → line_refusal l (recover n) ≡ r
  asked_number r is d = recover_number ∙ first_refuses (leb (node_count l.plan) n) (is_end l n) (not (node_down l n)) (first_of (ltb target_limit (length ts)) 21 (first_of (is_nothing (effect l (recover n))) 24 0)) r is d

  -- Commit: by the node, and by whether an answer is kept.
  pub commit_number : line_refusal l (commit n) ≡ commit_answer l n
  unfolding line_refusal no_placing effect
  commit_number = refl

  pub commit_asked : (r : ℕ) → r ≡ restart_asked l n → r ≢ 0 → commit_answer l n ≡ r
  commit_asked r is d = first_refuses (leb (node_count l.plan) n) (is_end l n) (not (node_down l n)) (first_of (is_nothing (node_at l n).asked) 27 0) r is d

  pub commit_kept : restart_asked l n ≡ 0 → commit_answer l n ≡ first_of (is_nothing (node_at l n).asked) 27 0
  commit_kept is = first_passes (leb (node_count l.plan) n) (is_end l n) (not (node_down l n)) (first_of (is_nothing (node_at l n).asked) 27 0) is

  -- By the targets.
  pub found_number : restart_asked l n ≡ 0 → line_refusal l (recover n) ≡ first_of (ltb target_limit (length ts)) 21 (first_of (is_nothing (effect l (recover n))) 24 0)
  found_number is = recover_number ∙ first_passes (leb (node_count l.plan) n) (is_end l n) (not (node_down l n)) (first_of (ltb target_limit (length ts)) 21 (first_of (is_nothing (effect l (recover n))) 24 0)) is

module _ (l : Line) (n : ℕ) (ordered : Ordered l.plan) (shape : Shape l) (inside : n < node_count l.plan) where
  -- A node that has just been restored holds nothing: with targets its replay has no end.
  node_is : node_at (recovered n l) n ≡ restored_node l n
  node_is = ap (λ (k : Line). node_at k n) (recovered_is l n ordered shape) ∙ restored-node l n ordered shape inside

  none-held : (us : List Target) → is_empty us ≡ false → all_of (is_held []) us ≡ false
  none-held [] e = absurd (true≢false e)
  none-held (u ∷ us) e = refl

  no_end : is_empty (targets_of l n) ≡ false → replay_end n (recovered n l) ≡ none
  unfolding replay_end
  no_end e = rw (ap (λ (x : Node). all_of (is_held x.held) x.targets) node_is ∙ none-held (targets_of l n) e, replay_end)

  abbrev outcome : Bool → Bool → Bool → Option Line
  outcome clash empty done = elim clash [ true ↦ none | false ↦ elim empty [ true ↦ some (recovered n l) | false ↦ elim done [ true ↦ replay_end n (recovered n l) | false ↦ some (recovered n l) ] ] ]

  outcome_is : effect l (recover n) ≡ outcome (conflict (targets_of l n)) (is_empty (targets_of l n)) (rows_complete (recovered n l) n)
  unfolding effect recovered_line ended_if_complete
  outcome_is = refl

  complete : rows_complete (recovered n l) n ≡ rows_in l n (targets_of l n)
  complete = restored_complete_lem l n ordered shape inside

  empty_agrees : (us : List Target) → is_empty us ≡ true → conflict us ≡ false
  empty_agrees [] e = refl
  empty_agrees (u ∷ us) e = absurd (true≢false (sym e))

  pub effect-none : no_outcome l n (targets_of l n) ≡ true → effect l (recover n) ≡ none
  effect-none e = outcome_is ∙ ap (outcome (conflict (targets_of l n)) (is_empty (targets_of l n))) complete ∙ go (conflict (targets_of l n)) (is_empty (targets_of l n)) (rows_in l n (targets_of l n)) refl e
    where
      go : (clash empty done : Bool) → is_empty (targets_of l n) ≡ empty → (not empty && (clash || done)) ≡ true → outcome clash empty done ≡ none
      go true empty done q f = refl
      go false true done q f = absurd (true≢false (sym f))
      go false false true q f = no_end q
      go false false false q f = absurd (true≢false (sym f))

  pub effect_some : no_outcome l n (targets_of l n) ≡ false → effect l (recover n) ≡ some (recovered n l)
  effect_some e = outcome_is ∙ ap (outcome (conflict (targets_of l n)) (is_empty (targets_of l n))) complete ∙ go (conflict (targets_of l n)) (is_empty (targets_of l n)) (rows_in l n (targets_of l n)) refl refl e
    where
      go : (clash empty done : Bool) → is_empty (targets_of l n) ≡ empty → conflict (targets_of l n) ≡ clash → (not empty && (clash || done)) ≡ false → outcome clash empty done ≡ some (recovered n l)
      go true true done q c f = absurd (true≢false (sym c ∙ empty_agrees (targets_of l n) q))
      go true false done q c f = absurd (true≢false f)
      go false true done q c f = refl
      go false false true q c f = absurd (true≢false f)
      go false false false q c f = refl
