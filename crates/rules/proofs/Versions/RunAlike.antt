-- Two plans that differ in their version alone run alike, step for step.
use Prim.Native.Nat.{ℕ}
use mathlib.Core.Path.{◌≡◌, refl, sym, ap, ◌∙◌}
use mathlib.Core.List.{List, [], ◌∷◌, ◌++◌}
use mathlib.Core.Option.{Option, none, some, map}
use native.Mathlib.Decide.{ℕ_discrete}
use lib.ListN.{get_or, replicate, length}
use lib.Dec.{leb}
use Rattle.plan.specs.Plan.{Plan}
use Rattle.plan.specs.Versions.{SameButVersion}
use Rattle.rules.specs.Line.{step_limit, Message, Line, fresh_node, initial_line, lane_at, one_more, counted}
use Rattle.rules.specs.Frame.{Frame, feed, send, take, crash, recover, trim, ask, commit, frame_console, frame_of, bad_frame_length, bad_frame_version, bad_kind, bad_console}
use Rattle.rules.specs.Step.{no_steps_left, line_refusal, effect, accepted, refusal, step}
use Rattle.rules.specs.Claim.{first_receipt, receipt_of, feed_of, crash_of, Story, start_of, if_zero, told, story_from}
use Rattle.rules.specs.Versions.{LineAlike, StoryAlike, RunAlike}
use Rattle.rules.proofs.Theorem.Accepted.{first_of, refusal_first, step-accepted, step_refused}
use Rattle.rules.proofs.Theorem.Unmoved.{effect-steps}
use Rattle.rules.proofs.Console.Recounted.{reheaded, effect_recounted, refusal_recounted}
use Rattle.rules.proofs.Console.Counted.{step-number}

-- A line with another's version and counts.
abbrev pub headed_as : Line → Line → Line
headed_as k l = reheaded (λ v. k.plan.version) k.steps l

module _ (k l : Line) (same : LineAlike k l) where
  pub is_headed : k ≡ headed_as k l
  is_headed = λ i. record { plan = record { version = k.plan.version; rules = same.plan.rules i; channels = same.plan.channels i }; steps = k.steps; nodes = same.nodes i; lanes = same.lanes i }

  accepted_alike : (c : ℕ) (f : Frame) (o : Option Line) → effect l f ≡ o → LineAlike (accepted c k (map (headed_as k) o)) (accepted c l o)
  unfolding counted
  accepted_alike c f none e = same
  accepted_alike c f (some next) e = record { plan = record { rules = refl; channels = refl }; steps = ap (one_more c) (same.steps ∙ sym (effect-steps l f e)); nodes = refl; lanes = refl }

  same_effect : (f : Frame) → effect k f ≡ map (headed_as k) (effect l f)
  same_effect f = ap (λ (m : Line). effect m f) is_headed ∙ effect_recounted (λ v. k.plan.version) k.steps l f

  same_line_refusal : (f : Frame) → line_refusal k f ≡ line_refusal l f
  same_line_refusal f = ap (λ (m : Line). line_refusal m f) is_headed ∙ refusal_recounted (λ v. k.plan.version) k.steps l f

  same_left : (c : ℕ) → no_steps_left k c ≡ no_steps_left l c
  unfolding no_steps_left
  same_left c = ap (λ (counts : List ℕ). leb step_limit (get_or counts c 0)) same.steps

  same_refusal : (f : List ℕ) → refusal k f ≡ refusal l f
  same_refusal f =
      refusal_first k f
      ∙ (λ i. first_of ((bad_frame_length f, 8) ∷ (bad_frame_version f, 9) ∷ (bad_kind f, 10) ∷ (bad_console f, 24) ∷ (same_left (frame_console f) i, 11) ∷ []) (same_line_refusal (frame_of f) i))
      ∙ sym (refusal_first l f)

pub step_alike : (k l : Line) (f : List ℕ) → LineAlike k l → ((step k f).number ≡ (step l f).number) × LineAlike (step k f).line (step l f).line
step_alike k l f same = (
  step-number k f ∙ refused ∙ sym (step-number l f),
  elim (ℕ_discrete (refusal l f) 0) [
    | yes e ↦ rw ((step-accepted k f (refused ∙ e)).1, (step-accepted l f e).1, same_effect k l same (frame_of f)) (accepted_alike k l same (frame_console f) (frame_of f) (effect l (frame_of f)) refl)
    | no d ↦ rw ((step_refused k f (λ q. d (sym refused ∙ q))).1, (step_refused l f d).1) same
  ],
)
  where
    refused : refusal k f ≡ refusal l f
    refused = same_refusal k l same f

-- What a Take receives.
receipt_reheaded : (newer : ℕ → ℕ) (counts : List ℕ) (l : Line) (f : Frame) → receipt_of (reheaded newer counts l) f ≡ receipt_of l f
receipt_reheaded newer counts l (feed n r) = refl
receipt_reheaded newer counts l (send b) = refl
receipt_reheaded newer counts l (take b) = one (lane_at l b).queue
  where
    one : (q : List Message) → first_receipt (reheaded newer counts l) b q ≡ first_receipt l b q
    one [] = refl
    one (m ∷ rest) = refl
receipt_reheaded newer counts l (crash n) = refl
receipt_reheaded newer counts l (recover n) = refl
receipt_reheaded newer counts l (trim n) = refl
receipt_reheaded newer counts l (ask n) = refl
receipt_reheaded newer counts l (commit n) = refl

same_receipt : (k l : Line) (f : Frame) → LineAlike k l → receipt_of k f ≡ receipt_of l f
same_receipt k l f same = ap (λ (m : Line). receipt_of m f) (is_headed k l same) ∙ receipt_reheaded (λ v. k.plan.version) k.steps l f

told_alike : (s t : Story) (f : List ℕ) → StoryAlike s t → StoryAlike (told s f) (told t f)
unfolding told
told_alike s t f same =
    let (number, line) = step_alike s.line t.line f same.line in
    let receipt = same_receipt s.line t.line (frame_of f) same.line in
    record {
      line = line;
      numbers = λ i. same.numbers i ++ number i ∷ [];
      fed_acts = λ i. same.fed_acts i ++ if_zero (number i) (feed_of (frame_of f));
      receipts = λ i. same.receipts i ++ if_zero (number i) (receipt i);
      crashes = λ i. same.crashes i ++ if_zero (number i) (crash_of (frame_of f));
    }

pub story_alike : (s t : Story) (frames : List (List ℕ)) → StoryAlike s t → StoryAlike (story_from s frames) (story_from t frames)
story_alike s t [] same = same
story_alike s t (f ∷ fs) same = story_alike (told s f) (told t f) fs (told_alike s t f same)

pub initial_alike : (p q : Plan) → SameButVersion p q → LineAlike (initial_line p) (initial_line q)
unfolding initial_line
initial_alike p q same = record {
  plan = same;
  steps = refl;
  nodes = λ i. replicate (length (same.rules i)) fresh_node;
  lanes = λ i. (initial_line (record { version = p.version; rules = same.rules i; channels = same.channels i })).lanes;
}

pub run_alike : RunAlike
run_alike p q frames same =
    story_alike (start_of (initial_line p)) (start_of (initial_line q)) frames (record { line = initial_alike p q same; numbers = refl; fed_acts = refl; receipts = refl; crashes = refl })
