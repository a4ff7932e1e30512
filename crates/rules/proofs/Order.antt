-- The order theorem: after every list of frames one run of the plain line gives what was received.
use Prim.Native.Nat.{ℕ}
use mathlib.Core.Path.{◌≡◌, refl, sym, ap, subst, ◌∙◌}
use mathlib.Core.Logic.{◌≢◌}
use mathlib.Core.List.{List, [], ◌∷◌, ◌++◌}
use native.Mathlib.Decide.{ℕ_discrete}
use borrow.Author.Tests.{ne_eqb}
use Rattle.plan.specs.Plan.{Plan, plan_of}
use mathlib.Core.Bool.{false}
use Rattle.rules.specs.Line.{Line, initial_line}
use Rattle.rules.specs.Frame.{frame_of}
use Rattle.rules.specs.Step.{refusal, step}
use Rattle.rules.specs.Claim.{Story, start_of, if_zero, told, story_from, feed_of, receipt_of, crash_of}
use Rattle.rules.specs.Order.{OneRun, InOrder}
use Rattle.rules.proofs.Lists.ListLaws.{nil_right}
use Rattle.rules.proofs.Invariant.Limits.{Steady}
use Rattle.rules.proofs.Invariant.Conclusion.{run, run_gives}
use Rattle.rules.proofs.Theorem.QuietRest.{quiet-rests}
use Rattle.rules.proofs.Steps.LoadInv.{start_steady, load_inv}
use Rattle.rules.proofs.Theorem.Accepted.{step-accepted, step_refused}
use Rattle.rules.proofs.Theorem.Unmoved.{step-plan}
use Rattle.plan.specs.Lawful.{Each, Bytes}
use Rattle.plan.specs.Check.{plan_refusal}
use Rattle.rules.specs.Damaged.{damaged}
use Rattle.rules.proofs.Undamaged.StartSound.{start_undamaged}
use Rattle.rules.proofs.Undamaged.StepSound.{step_undamaged, answered_whole}
use Rattle.rules.proofs.Theorem.StepInv.{Kept, kept_same, step_inv}
use Rattle.rules.proofs.Theorem.SteadyKept.{step_steady}

-- What an accepted frame adds, and a refused one does not.
pub if_accepted : {A : Type 0} (n : ℕ) (xs ys : List A) → n ≡ 0 → ys ++ if_zero n xs ≡ ys ++ xs
if_accepted n xs ys e = ap (λ (k : ℕ). ys ++ if_zero k xs) e

pub if_refused : {A : Type 0} (n : ℕ) (xs ys : List A) → n ≢ 0 → ys ++ if_zero n xs ≡ ys
if_refused n xs ys d = rw (ne_eqb n 0 d, if_zero) (nil_right ys)

abbrev pub Told : Story → Type 0
Told s = Kept s.line s.fed_acts s.receipts s.crashes × Steady 0 s.line × (damaged s.line ≡ false)

-- A history that keeps the invariant is one run.
pub one_run : (s : Story) → Told s → OneRun s.line.plan s
one_run s ((g, cut, base, inv), _, _) =
    let witness = run s.line g cut s.fed_acts s.receipts s.crashes inv.nodes inv.channels in
    record {
      acts = witness.0;
      feeds = witness.1;
      received = λ n e. run_gives s.line g cut s.fed_acts s.receipts s.crashes inv.nodes inv.channels n (inv.marks.were_named n e);
      rests = λ still. quiet-rests s.line g cut base s.fed_acts s.receipts s.crashes inv still;
    }

pub story_plan : (fs : List (List ℕ)) (s : Story) → (story_from s fs).line.plan ≡ s.line.plan
unfolding told
story_plan [] s = refl
story_plan (f ∷ fs) s = story_plan fs (told s f) ∙ step-plan s.line f

pub told_more : (s : Story) (f : List ℕ) → Bytes f → Told s → Told (told s f)
unfolding told
told_more s f bytes ((g, cut, base, inv), steady, whole) =
    let number = (step s.line f).number in
    let feeds = feed_of (frame_of f) in
    let receipts = receipt_of s.line (frame_of f) in
    let crashes = crash_of (frame_of f) in
    elim (ℕ_discrete (refusal s.line f) 0) [
      | yes e ↦
          (let (zero, next) = step-accepted s.line f e in (
            kept_same refl (if_accepted number feeds s.fed_acts zero) (if_accepted number receipts s.receipts zero) (if_accepted number crashes s.crashes zero)
                (step_inv s.line g cut base s.fed_acts s.receipts s.crashes inv steady.limits.logs (answered_whole s.line whole) f e),
            step_steady s.line g cut base s.fed_acts s.receipts s.crashes inv steady (answered_whole s.line whole) f e,
            step_undamaged s.line f bytes whole,
          ))
      | no d ↦
          (let (refused, same) = step_refused s.line f d in
          (kept_same same (if_refused number feeds s.fed_acts refused) (if_refused number receipts s.receipts refused) (if_refused number crashes s.crashes refused) (g, cut, base, inv), subst (Steady 0) (sym same) steady, subst (λ (l : Line). damaged l ≡ false) (sym same) whole))
    ]

told_all : (fs : List (List ℕ)) (s : Story) → Each Bytes fs → Told s → Told (story_from s fs)
told_all [] s each h = h
told_all (f ∷ fs) s (b, each) h = told_all fs (told s f) each (told_more s f b h)

pub told_start : (plan : List ℕ) → Bytes plan → plan_refusal plan ≡ 0 → Told (start_of (initial_line (plan_of plan)))
told_start plan bytes z = ((_, _, _, load_inv plan z), start_steady (plan_of plan), start_undamaged plan bytes z)

pub in_order : InOrder
unfolding initial_line
in_order plan frames bytes each z =
    let start = start_of (initial_line (plan_of plan)) in
    subst (λ (p : Plan). OneRun p (story_from start frames)) (story_plan frames start) (one_run (story_from start frames) (told_all frames start each (told_start plan bytes z)))
