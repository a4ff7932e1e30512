-- What the line does with a step doesn't depend on who sent it, counts and refusal 12 excepted.
use Prim.Native.Nat.{ℕ}
use mathlib.Core.Path.{◌≡◌, refl, sym, ◌∙◌}
use mathlib.Core.Logic.{◌≢◌}
use mathlib.Core.Bool.{Bool, true, false}
use mathlib.Core.List.{List}
use mathlib.Core.Option.{Option, none, some, map}
use native.Mathlib.Decide.{ℕ_discrete}
use Rattle.rules.specs.Line.{Line, counted, with_steps}
use Rattle.rules.specs.Frame.{frame_console, frame_of, frame_refusal}
use Rattle.rules.specs.Step.{no_steps_left, line_refusal, effect, accepted, refusal, step}
use Rattle.rules.specs.Console.{SameButCounts, WhoeverSends}
use Rattle.rules.proofs.Theorem.Accepted.{step-accepted, step_refused}
use Rattle.rules.proofs.Restart.Frames.{formed_refusal}
use Rattle.rules.proofs.Console.Recounted.{effect_recounted, refusal_recounted}
use Rattle.rules.proofs.Console.Counted.{step-number, counts_caller}

-- A well-formed frame that is not refused with 12 is answered by what it asks.
asked_number : (l : Line) (f : List ℕ) → frame_refusal f ≡ 0 → (step l f).number ≢ 12 → (step l f).number ≡ line_refusal l (frame_of f)
asked_number l f z d = step-number l f ∙ whole ∙ one (no_steps_left l (frame_console f)) refl
  where
    whole : refusal l f ≡ (elim (no_steps_left l (frame_console f)) [ true ↦ 12 | false ↦ line_refusal l (frame_of f) ])
    whole = formed_refusal l (record { formed = z; from = refl; asks = refl })

    one : (t : Bool) → no_steps_left l (frame_console f) ≡ t → elim t [ true ↦ 12 | false ↦ line_refusal l (frame_of f) ] ≡ line_refusal l (frame_of f)
    one true q = absurd (d (step-number l f ∙ whole ∙ rw q))
    one false q = refl

accepted_same : (k l : Line) (c d : ℕ) (counts : List ℕ) (o : Option Line) → SameButCounts k l → SameButCounts (accepted c k (map (with_steps counts) o)) (accepted d l o)
unfolding counted
accepted_same k l c d counts none same = same
accepted_same k l c d counts (some next) same = record { plan = refl; nodes = refl; lanes = refl }

pub whoever_sends : WhoeverSends
whoever_sends k l f g whole whole-too same asked d d-too = record { number = number; line = line; counts = counts_caller k f whole; counts_too = counts_caller l g whole-too }
  where
    is_recounted : k ≡ with_steps k.steps l
    is_recounted = λ i. record { plan = same.plan i; steps = k.steps; nodes = same.nodes i; lanes = same.lanes i }

    number : (step k f).number ≡ (step l g).number
    number =
        asked_number k f asked.formed d ∙ (λ i. line_refusal (is_recounted i) (asked.asked i)) ∙ refusal_recounted (λ v. v) k.steps l (frame_of g) ∙ sym (asked_number l g asked.formed_too d-too)

    same_effect : effect k (frame_of f) ≡ map (with_steps k.steps) (effect l (frame_of g))
    same_effect = (λ i. effect (is_recounted i) (asked.asked i)) ∙ effect_recounted (λ v. v) k.steps l (frame_of g)

    same_refusal : refusal k f ≡ refusal l g
    same_refusal = sym (step-number k f) ∙ number ∙ step-number l g

    line : SameButCounts (step k f).line (step l g).line
    line =
        elim (ℕ_discrete (refusal l g) 0) [
          | yes e ↦ rw ((step-accepted k f (same_refusal ∙ e)).1, (step-accepted l g e).1, same_effect) (accepted_same k l (frame_console f) (frame_console g) k.steps (effect l (frame_of g)) same)
          | no e ↦ rw ((step_refused k f (λ q. e (sym same_refusal ∙ q))).1, (step_refused l g e).1) same
        ]
