-- Two nodes that are down, restarted in either order, each by a Recover or by a Commit.
use Prim.Native.Nat.{ℕ, ◌+◌, ◌<◌}
use mathlib.Core.Path.{◌≡◌, refl, sym, ap, subst, ◌∙◌}
use mathlib.Core.Logic.{◌≢◌, inl, inr}
use mathlib.Core.Bool.{Bool, true, false, cond, not, ◌||◌}
use mathlib.Core.List.{List}
use mathlib.Core.Option.{some}
use native.Mathlib.Omega.{arith}
use native.Mathlib.Decide.{ℕ_discrete}
use lib.ListN.{length}
use lib.Dec.{leb, ltb}
use borrow.Author.Tests.{ne_eqb, lt-leb, leb-false}
use Rattle.plan.specs.Plan.{node_count, is_source, is_sink}
use Rattle.rules.specs.Line.{step_limit, target_limit, up, down, Node, Line, node_at, lane_at, steps_from, one_more, with_steps, counted, is_down}
use Rattle.rules.specs.Frame.{Frame, recover, commit, frame_console, frame_of, frame_refusal}
use Rattle.rules.specs.Recover.{low_of, targets_of, recovered}
use Rattle.rules.specs.Step.{is_nothing, no_steps_left, recovered_line, effect, no_placing, line_refusal, accepted, refusal, step}
use Rattle.rules.specs.Damaged.{damaged}
use Rattle.rules.specs.Console.{counts_one}
use Rattle.rules.specs.EitherOrder.{AsksRestart, spent_after, EitherOrder, DownApart, RestartsAlone}
use Rattle.rules.proofs.Line.Consoles.{more_swap}
use Rattle.rules.proofs.Invariant.Inv.{Ordered}
use Rattle.rules.proofs.Invariant.InvLaws.{up_not_down, not_up_inside}
use Rattle.rules.proofs.Theorem.Accepted.{Passed, passed, step-accepted, step_refused}
use Rattle.rules.proofs.Undamaged.Standing.{Standing, stuck}
use Rattle.rules.proofs.Undamaged.Undamaged.{undamaged_sound, ordered_fit}
use Rattle.rules.proofs.Undamaged.CrashSound.{stopped_marked}
use Rattle.rules.proofs.Undamaged.EndSound.{marked-apart}
use Rattle.rules.proofs.Undamaged.Committed.{commit_is}
use Rattle.rules.proofs.Undamaged.StepSound.{FedBytes, step-whole, answered_whole}
use Rattle.rules.proofs.Undamaged.Restored.{restored_line, recovered_is, restored_else, restored_shape, restored-beside, recovers_by, nothing_unless, recovers_to}
use Rattle.rules.proofs.Console.Recounted.{restored_recounted, refusal_recounted}
use Rattle.rules.proofs.Console.Counted.{step-number, counts_caller}
use Rattle.rules.proofs.Restart.Frames.{formed_refusal}
use Rattle.rules.proofs.Restart.AskCommit.{refused_by, commit_refused_by}
use Rattle.rules.proofs.Restart.TwoRestored.{Past, targets_now, stuck_now, both_same}

module _ (l : Line) (whole : damaged l ≡ false) where
  abbrev s : Standing l
  s = (undamaged_sound l whole).standing

  ordered : Ordered l.plan
  ordered = ordered_fit l.plan s.plan_fits_lem

  -- A node that is down.
  module _ (n : ℕ) (is_down_lem : (node_at l n).status ≡ down) where
    not_up : (node_at l n).status ≢ up
    not_up q = up_not_down (sym q ∙ is_down_lem)

    inside : n < node_count l.plan
    inside = not_up_inside s.shape n not_up

    marked : (node_at l n).crashed ≡ true
    marked = stopped_marked l s n inside not_up

    -- What an accepted restart of it leads to and leaves.
    leads : (f : List ℕ) → AsksRestart f n → refusal l f ≡ 0 → effect l (frame_of f) ≡ some (recovered n l)
    unfolding effect
    leads f r e = elim r.asks [
      | inl q ↦
          (let gives : effect l (recover n) ≡ some (passed l f e).next = ap (effect l) (sym q) ∙ (passed l f e).leads in
          ap (effect l) q ∙ (recovers_to l ordered s.shape n inside gives).1)
      | inr q ↦ ap (effect l) q ∙ commit_is l n (subst (Passed l (frame_console f)) q (passed l f e)) (answered_whole l whole n)
    ]

    restarted : (f : List ℕ) → AsksRestart f n → refusal l f ≡ 0 → (step l f).line ≡ counted (frame_console f) (restored_line l n)
    restarted f r e = (step-accepted l f e).1 ∙ ap (accepted (frame_console f) l) (leads f r e) ∙ ap (counted (frame_console f)) (recovered_is l n ordered s.shape)

  past : (m n : ℕ) → (node_at l m).status ≡ down → (node_at l n).status ≡ down → Past l m n
  past m n one_down other-down = marked-apart l s m n (marked m one_down) (marked n other-down)

pub down_apart : DownApart
down_apart l m n b whole one_down other-down here from = past l whole m n one_down other-down b (here, from)

pub restarts_alone : RestartsAlone
unfolding counted
restarts_alone l n f whole is_down_lem asks =
    elim (ℕ_discrete (refusal l f) 0) [
      | no e ↦ (let is = (step_refused l f e).1 in (λ m d. ap (λ (k : Line). node_at k m) is, λ b from to. ap (λ (k : Line). lane_at k b) is))
      | yes e ↦
          (let is = restarted l whole n is_down_lem f asks e in
          let shape = (s l whole).shape in
          (λ m d. ap (λ (k : Line). node_at k m) is ∙ restored_else l n (ordered l whole) shape m d, λ b from to. ap (λ (k : Line). lane_at k b) is ∙ restored-beside l n (ordered l whole) shape b to from))
    ]

-- A well-formed frame's number: 12 by its console's count, else what the line refuses.
number_by : (l : Line) (f : List ℕ) → frame_refusal f ≡ 0 → (step l f).number ≡ cond (no_steps_left l (frame_console f)) 12 (line_refusal l (frame_of f))
number_by l f formed = step-number l f ∙ formed_refusal l {frame = f} (record { formed = formed; from = refl; asks = refl }) ∙ one (no_steps_left l (frame_console f))
  where
    one : (t : Bool) → ◌≡◌ {A = ℕ} (elim t [ true ↦ 12 | false ↦ line_refusal l (frame_of f) ]) (cond t 12 (line_refusal l (frame_of f)))
    one true = refl
    one false = refl

-- Node m is restarted by f: a restart of n is then refused as before, and accepted it restores n in the line that f left.
module _ (l : Line) (whole : damaged l ≡ false) (m n : ℕ) (two : m ≢ n) (one_down : (node_at l m).status ≡ down) (other-down : (node_at l n).status ≡ down) (f g : List ℕ) (asks : AsksRestart f m) (asks-too : AsksRestart g n) where
  abbrev c : ℕ
  c = frame_console f

  abbrev d : ℕ
  d = frame_console g

  abbrev k : Line
  k = restored_line l m

  order : Ordered l.plan
  order = ordered l whole

  other : n ≢ m
  other q = two (sym q)

  n_stays : node_at k n ≡ node_at l n
  n_stays = restored_else l m order (s l whole).shape n other

  down_still : (node_at (step l f).line n).status ≡ down
  down_still = ap (λ (x : Node). x.status) ((restarts_alone l m f whole one_down asks).0 n other) ∙ other-down

  whole-after : damaged (step l f).line ≡ false
  whole-after = step-whole l f (elim asks.asks [ inl q ↦ subst FedBytes (sym q) tt | inr q ↦ subst FedBytes (sym q) tt ]) whole

  nothing_now : is_nothing (recovered_line n k) ≡ is_nothing (recovered_line n l)
  nothing_now =
      let here = inside l whole n other-down in
      ap is_nothing (recovers_by k order (restored_shape l m order (s l whole).shape) n here)
      ∙ nothing_unless (stuck k n) (recovered n k)
      ∙ stuck_now l order (s l whole).shape m n two (past l whole n m other-down one_down)
      ∙ sym (ap is_nothing (recovers_by l order (s l whole).shape n here) ∙ nothing_unless (stuck l n) (recovered n l))

  recover_now : line_refusal k (recover n) ≡ line_refusal l (recover n)
  unfolding line_refusal no_placing effect
  recover_now i =
      let targets = targets_now l order (s l whole).shape m n two (past l whole n m other-down one_down) in
      refused_by (leb (node_count l.plan) n) (is_source l.plan n || is_sink l.plan n) (not (is_down (n_stays i).status)) (ltb target_limit (length (targets i))) (nothing_now i)

  commit_now : line_refusal k (commit n) ≡ line_refusal l (commit n)
  unfolding line_refusal no_placing effect
  commit_now i = commit_refused_by (leb (node_count l.plan) n) (is_source l.plan n || is_sink l.plan n) (not (is_down (n_stays i).status)) (is_nothing (n_stays i).asked)

  refusal_now : line_refusal k (frame_of g) ≡ line_refusal l (frame_of g)
  refusal_now = elim asks-too.asks [
    | inl q ↦ subst (λ (x : Frame). line_refusal k x ≡ line_refusal l x) (sym q) recover_now
    | inr q ↦ subst (λ (x : Frame). line_refusal k x ≡ line_refusal l x) (sym q) commit_now
  ]

  refusal-after : line_refusal (step l f).line (frame_of g) ≡ line_refusal l (frame_of g)
  unfolding counted
  refusal-after = elim (ℕ_discrete (refusal l f) 0) [
    | no e ↦ ap (λ (x : Line). line_refusal x (frame_of g)) (step_refused l f e).1
    | yes e ↦ ap (λ (x : Line). line_refusal x (frame_of g)) (restarted l whole m one_down f asks e) ∙ refusal_recounted (λ v. v) (one_more c l.steps) k (frame_of g) ∙ refusal_now
  ]

  -- With steps left then, g had them before.
  number-after : (step (step l f).line g).number ≡ cond (spent_after l f (step l f).number d) 12 (step l g).number
  unfolding no_steps_left
  number-after = number_by (step l f).line g asks-too.formed ∙ rw (counts_caller l f whole d) (one (spent_after l f (step l f).number d) refl)
    where
      one : (t : Bool) → spent_after l f (step l f).number d ≡ t → cond t 12 (line_refusal (step l f).line (frame_of g)) ≡ cond t 12 (step l g).number
      one true q = refl
      one false q =
          let left : steps_from l d < step_limit = omega (arith, leb-false step_limit (steps_from l d + counts_one (step l f).number c d) q) in
          refusal-after ∙ sym (number_by l g asks-too.formed ∙ rw (lt-leb step_limit (steps_from l d) left))

  line_both : refusal l f ≡ 0 → refusal (step l f).line g ≡ 0 → (step (step l f).line g).line ≡ with_steps (one_more d (one_more c l.steps)) (recovered n (recovered m l))
  unfolding counted recovered
  line_both e e' =
      (step-accepted (step l f).line g e').1
      ∙ ap (accepted d (step l f).line) (leads (step l f).line whole-after n down_still g asks-too e')
      ∙ ap (λ (x : Line). counted d (recovered n x)) (restarted l whole m one_down f asks e)
      ∙ ap (counted d) (restored_recounted (λ v. v) (one_more c l.steps) (low_of k n) (targets_of k n) _ n k)
      ∙ ap (λ (x : Line). with_steps (one_more d (one_more c l.steps)) (recovered n x)) (sym (recovered_is l m order (s l whole).shape))

-- Where the second has a step left after the first, so has the first after the second.
left_too : (counts : ℕ → ℕ) (c d : ℕ) → counts c < step_limit → leb step_limit (counts d + counts_one 0 c d) ≡ false → leb step_limit (counts c + counts_one 0 d c) ≡ false
left_too counts c d h e =
    elim (ℕ_discrete c d) [
      | yes q ↦ subst (λ (x : ℕ). leb step_limit (counts c + counts_one 0 x c) ≡ false) q (subst (λ (x : ℕ). leb step_limit (counts x + counts_one 0 c x) ≡ false) (sym q) e)
      | no q ↦ rw (ne_eqb c d q) (lt-leb step_limit (counts c + 0) (omega (arith, h)))
    ]

not_spent : (t : Bool) (r : ℕ) → cond t 12 r ≡ 0 → (t ≡ false) × (r ≡ 0)
not_spent true r e = let no : ⊥ = omega (arith, e) in absurd no
not_spent false r e = (refl, e)

pub either_order : EitherOrder
either_order l m n f g whole two one_down other-down asks asks-too =
    let turned : n ≢ m = λ q. two (sym q) in
    let number = number-after l whole m n two one_down other-down f g asks asks-too in
    let number-too = number-after l whole n m turned other-down one_down g f asks-too asks in
    let both = both_same l (ordered l whole) (s l whole).shape m n two (past l whole n m other-down one_down) (past l whole m n one_down other-down) in
    let spent : List ℕ → List ℕ → ℕ → Bool = λ h i x. spent_after l h x (frame_console i) in
    record {
      same = λ e e'.
          (let z : refusal l f ≡ 0 = sym (step-number l f) ∙ e in
          let (left, zero) = not_spent (spent f g (step l f).number) (step l g).number (sym number ∙ e') in
          let y : refusal l g ≡ 0 = sym (step-number l g) ∙ zero in
          let spare : spent g f (step l g).number ≡ false =
          ap (spent g f) zero ∙ left_too (steps_from l) (frame_console f) (frame_console g) (passed l f z).steps_left (ap (spent f g) (sym e) ∙ left) in
          let last : (step (step l g).line f).number ≡ 0 = number-too ∙ (λ i. cond (spare i) 12 (e i)) in (
            zero,
            last,
            line_both l whole m n two one_down other-down f g asks asks-too z (sym (step-number (step l f).line g) ∙ e')
                ∙ (λ i. with_steps (more_swap (frame_console f) (frame_console g) l.steps i) (both i))
                ∙ sym (line_both l whole n m turned other-down one_down g f asks-too asks y (sym (step-number (step l g).line f) ∙ last)),
          ));
      number = number;
    }
