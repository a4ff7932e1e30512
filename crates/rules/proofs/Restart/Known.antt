-- What is known of every line that a list of frames leaves.
use Prim.Native.Nat.{ℕ, zero, suc, ◌<◌, ◌≤◌}
use mathlib.Core.Path.{◌≡◌, sym, ap, subst, ◌∙◌}
use mathlib.Core.Bool.{true, false, ◌&&◌}
use mathlib.Core.List.{List, [], ◌∷◌}
use native.Mathlib.Omega.{arith}
use native.Mathlib.Decide.{ℕ_discrete}
use lib.ListN.{length}
use lib.Dec.{leb}
use borrow.Author.Tests.{leb-true}
use Rattle.basics.specs.Bools.{both_true}
use Rattle.plan.specs.Plan.{Plan, plan_of, node_count, entering, leaving}
use Rattle.plan.specs.Check.{four_at_most, plan_refusal}
use Rattle.plan.proofs.CheckLaws.{accepted}
use Rattle.plan.proofs.PlanLaws.{node_count_lem}
use Rattle.rules.specs.Line.{Line, initial_line}
use Rattle.rules.specs.Step.{refusal, step}
use Rattle.rules.specs.Plain.{Act, Receipt}
use Rattle.rules.specs.Claim.{Story, told, story_from}
use Rattle.rules.proofs.Histories.Ghost.{Ghost}
use Rattle.rules.proofs.Invariant.Inv.{Inv}
use Rattle.rules.proofs.Invariant.Limits.{Steady}
use Rattle.rules.proofs.Steps.LoadInv.{start_steady, load_inv}
use Rattle.rules.proofs.Theorem.Accepted.{step_refused}
use Rattle.rules.proofs.Theorem.Unmoved.{step-plan}
use Rattle.plan.specs.Lawful.{Each, Bytes}
use Rattle.rules.specs.Frame.{frame_of}
use Rattle.rules.specs.Damaged.{damaged}
use Rattle.rules.proofs.Undamaged.StartSound.{start_undamaged}
use Rattle.rules.proofs.Undamaged.StepSound.{FedBytes, frame_bytes, step-whole, answered_whole}
use Rattle.rules.proofs.Theorem.StepInv.{step_inv}
use Rattle.rules.proofs.Theorem.SteadyKept.{step_steady}

-- "At most 4 belts enter [...] a node."
abbrev pub FewRows : Plan → Type 0
FewRows p = (n : ℕ) → n < node_count p → length (entering p n) ≤ 4

pub record Known (l : Line) : Type 0 where
  pub ghost : Ghost
  pub cut : ℕ → ℕ
  pub base : ℕ → ℕ
  pub fed : List Act
  pub receipts : List Receipt
  pub crashes : List ℕ
  pub inv : Inv l ghost cut base fed receipts crashes
  pub steady : Steady 0 l
  pub rows : FewRows l.plan
  pub whole : damaged l ≡ false

few_below : (p : Plan) (k : ℕ) → four_at_most p k ≡ true → (n : ℕ) → n < k → length (entering p n) ≤ 4
few_below p zero e n h = let no : ⊥ = omega arith in absurd no
few_below p (suc k) e n h =
    let (own, rest) = both_true (leb (length (entering p k)) 4 && leb (length (leaving p k)) 4) (four_at_most p k) e in
    elim (ℕ_discrete n k) [
      | yes q ↦ rw q (leb-true (length (entering p k)) 4 (both_true (leb (length (entering p k)) 4) (leb (length (leaving p k)) 4) own).0)
      | no d ↦ few_below p k rest n (omega arith)
    ]

pub known_start : (plan : List ℕ) → Bytes plan → plan_refusal plan ≡ 0 → Known (initial_line (plan_of plan))
unfolding initial_line
known_start plan bytes z = record {
  whole = start_undamaged plan bytes z;
  ghost = _;
  cut = _;
  base = _;
  fed = [];
  receipts = [];
  crashes = [];
  inv = load_inv plan z;
  steady = start_steady (plan_of plan);
  rows = few_below (plan_of plan) (node_count (plan_of plan)) (ap (four_at_most (plan_of plan)) (node_count_lem plan) ∙ (accepted plan z).degrees);
}

pub known_step : (l : Line) (f : List ℕ) → FedBytes (frame_of f) → Known l → Known (step l f).line
known_step l f bytes k =
    elim (ℕ_discrete (refusal l f) 0) [
      | yes e ↦
          (let (g, cut, base, inv) = step_inv l k.ghost k.cut k.base k.fed k.receipts k.crashes k.inv k.steady.limits.logs (answered_whole l k.whole) f e in
          record {
            ghost = g;
            cut = cut;
            base = base;
            fed = _;
            receipts = _;
            crashes = _;
            inv = inv;
            steady = step_steady l k.ghost k.cut k.base k.fed k.receipts k.crashes k.inv k.steady (answered_whole l k.whole) f e;
            whole = step-whole l f bytes k.whole;
            rows = subst FewRows (sym (step-plan l f)) k.rows;
          })
      | no d ↦ subst Known (sym (step_refused l f d).1) k
    ]

pub known_all : (fs : List (List ℕ)) (s : Story) → Each Bytes fs → Known s.line → Known (story_from s fs).line
unfolding told
known_all [] s each k = k
known_all (f ∷ fs) s (b, each) k = known_all fs (told s f) each (known_step s.line f (frame_bytes f b) k)
