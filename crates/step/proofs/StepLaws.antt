-- What a step answers and leaves, by what its parts do.
use Prim.Native.Nat.{ℕ, suc, ◌≤◌, ◌<◌, ◌+◌}
use mathlib.Core.Path.{◌≡◌, refl, sym, ap, subst, ◌∙◌}
use mathlib.Core.Logic.{◌≢◌}
use mathlib.Core.Bool.{true, false}
use mathlib.Core.List.{List, [], ◌∷◌}
use native.Mathlib.Numerals.{add-one}
use native.Mathlib.Omega.{arith}
use borrow.Author.Tests.{le-leb, lt-leb}
use lib.Dec.{leb}
use lib.ListN.{length, set}
use Rattle.basics.specs.Put.{put}
use Rattle.answers.specs.declared.Refusal.{Refusal}
use Rattle.answers.specs.Number.{refusal_number}
use Rattle.plan.specs.Layout.{bytes_of}
use Rattle.plan.specs.Lawful.{Bytes}
use Rattle.plan.specs.Plan.{Plan, plan_of, plan_channels, channel_at, channel_count}
use Rattle.rules.specs.Lists.{is_empty}
use Rattle.rules.specs.Line.{step_limit, Message, Line, lane_at, receiver_of, counted, console_count, steps_from}
use Rattle.rules.specs.Frame.{Frame, take, frame_of, frame_refusal}
use Rattle.rules.specs.Step.{no_steps_left, end_down, replaying, accepted, line_refusal, refusal, step}
use Rattle.rules.specs.Damaged.{damaged}
use Rattle.rules.proofs.Restart.Frames.{Formed, formed_refusal, formed_line}
use Rattle.rules.proofs.Theorem.Accepted.{step_refused}
use Rattle.rules.proofs.Undamaged.StepSound.{step_undamaged}
use Rattle.state.specs.Sizes.{steps_of_at}
use Rattle.state.specs.State.{line_bytes, line_of}
use Rattle.state.proofs.InPlace.{line-plan}
use Rattle.buffer.specs.Holds.{Holds, Undamaged, Did}
use Rattle.buffer.proofs.HoldsLaws.{holds-again, holds_channels, count_put}
use Rattle.frame.specs.declared.Asked.{Asked}
use Rattle.frame.specs.Reading.{AskedBy}
use Rattle.frame.proofs.FrameLaws.{frame_refused}
use Rattle.passing.proofs.RefusalLaws.{refusal_first, refused}
use Rattle.step.specs.Stepped.{Stepped}
use Rattle.rules.proofs.Theorem.Unmoved.{effect-steps}

-- ---- Take

module _ (s : List ℕ) (b : ℕ) where
  abbrev l : Line
  l = line_of s

  pub no_channel : Holds s (line_of s) → plan_channels s ≤ b → Did s (take b) s 13
  no_channel h past = refused s (take b) 13 (λ e. omega arith) (refusal_first l (take b) ∙ rw (le-leb (channel_count l.plan) b (rw (sym (holds_channels h)) past)))

  module _ (h : Holds s (line_of s)) (below : b < plan_channels s) where
    known : leb (channel_count l.plan) b ≡ false
    known = lt-leb (channel_count l.plan) b (rw (sym (holds_channels h)) below)

    pub end_down_lem : end_down (line_of s) b ≡ true → Did s (take b) s 15
    end_down_lem e = refused s (take b) 15 (λ z. omega arith) (refusal_first l (take b) ∙ rw (known, e))

    pub nothing_there : end_down (line_of s) b ≡ false → length (lane_at (line_of s) b).queue ≡ 0 → Did s (take b) s 18
    nothing_there e z = refused s (take b) 18 (λ y. omega arith) (refusal_first l (take b) ∙ rw (known, e, none (lane_at l b).queue z))
      where
        none : (q : List Message) → length q ≡ 0 → is_empty q ≡ true
        none [] y = refl
        none (m ∷ q) y = let no : ⊥ = omega arith in absurd no

-- A frame that asks the same.
pub same_asked : {s t : List ℕ} {g h : Frame} {r : ℕ} → g ≡ h → Did s h t r → Did s g t r
same_asked {s} {t} {r = r} e did = subst (λ (f : Frame). Did s f t r) (sym e) did

-- The receiver in the line's plan.
pub at_receiver : (s : List ℕ) (b r : ℕ) → r ≡ (channel_at (plan_of s) b).receiver → replaying (line_of s) r ≡ replaying (line_of s) (receiver_of (line_of s) b)
at_receiver s b r e = ap (replaying (line_of s)) (e ∙ ap (λ (p : Plan). (channel_at p b).receiver) (sym (line-plan s)))

-- ---- the count

pub counted-put : {s t : List ℕ} (c steps : ℕ) → Holds s (line_of s) → c < console_count → steps_from (line_of s) c < step_limit → steps ≡ steps_from (line_of s) c → t ≡ put s (steps_of_at c) (bytes_of 4 (steps + 1))
    → Holds t (counted c (line_of s))
unfolding counted
counted-put {s} {t} c steps h inside few e r =
    subst (Holds t) (λ i. record { plan = (line_of s).plan; steps = set (line_of s).steps c ((add-one steps ∙ ap suc e) i); nodes = (line_of s).nodes; lanes = (line_of s).lanes })
    (count_put (line_of s) h c (steps + 1) inside (omega arith) r)

-- ---- a step

-- No refusal is numbered 0.
pub refusal_some : (r : Refusal) → refusal_number r ≢ 0
refusal_some r e = grind arith

module _ (s frame : List ℕ) (u : Undamaged s) where
  -- Refused: the state is as it was, and that is what the rules' step leaves.
  pub refused_step : (r : ℕ) → r ≢ 0 → refusal (line_of s) frame ≡ r → Stepped s frame s r
  refused_step r other e = record {
    number = sym e;
    left = u.holds.written ∙ ap line_bytes (sym (step_refused (line_of s) frame (λ z. other (sym e ∙ z))).1);
    undamaged = u;
  }

  pub frame_step : (r : Refusal) → frame_refusal frame ≡ refusal_number r → Stepped s frame s (refusal_number r)
  frame_step r e = refused_step (refusal_number r) (refusal_some r) (frame_refused frame r e (line_of s))

  module _ {a : Asked} (asked : AskedBy frame a) where
    abbrev c : ℕ
    c = a.console

    formed : Formed frame a.console (frame_of frame)
    formed = record { formed = asked.formed; from = sym asked.from; asks = refl }

    pub limit_step : step_limit ≤ steps_from (line_of s) a.console → Stepped s frame s 12
    unfolding no_steps_left
    limit_step full = refused_step 12 (λ z. omega arith) (formed_refusal (line_of s) formed ∙ rw (le-leb step_limit (steps_from (line_of s) c) full))

    module _ (left : steps_from (line_of s) a.console < step_limit) where
      asks : refusal (line_of s) frame ≡ line_refusal (line_of s) (frame_of frame)
      unfolding no_steps_left
      asks = formed_refusal (line_of s) formed ∙ rw (lt-leb step_limit (steps_from (line_of s) c) left)

      pub kind_refused : (t : List ℕ) (r : Refusal) → Did s (frame_of frame) t (refusal_number r) → Stepped s frame t (refusal_number r)
      kind_refused t r did =
          let other = refusal_some r in
          subst (λ (x : List ℕ). Stepped s frame x (refusal_number r)) (sym (did.refused other)) (refused_step (refusal_number r) other (asks ∙ did.number))

      -- Accepted: the line that the kind leaves has its counts as they were.
      pub few_left : (t : List ℕ) → Did s (frame_of frame) t 0 → Holds t (line_of t) × (a.console < console_count) × (steps_from (line_of t) a.console < step_limit)
      few_left t did =
          let (k, (leads, holds)) = did.done refl in
          (holds-again holds, asked.there, rw (ap (λ (x : Line). x.steps) holds.same ∙ effect-steps (line_of s) (frame_of frame) leads) left)

      -- Accepted: the effect, and one more step of the caller's.
      pub kind_accepted : Bytes frame → (t v : List ℕ) → Did s (frame_of frame) t 0 → Holds v (counted a.console (line_of t)) → Stepped s frame v 0
      kind_accepted bytes t v did now =
          let zeroed : refusal (line_of s) frame ≡ 0 = asks ∙ did.number in
          let (k, (leads, holds)) = did.done refl in
          let line : counted c (line_of t) ≡ (step (line_of s) frame).line = ap (counted c) holds.same ∙ sym (formed_line (line_of s) formed zeroed ∙ ap (accepted c (line_of s)) leads) in
          let right : Holds v (step (line_of s) frame).line = subst (Holds v) line now in
          record {
            number = sym zeroed;
            left = right.written;
            undamaged = record { holds = holds-again right; undamaged = ap damaged right.same ∙ step_undamaged (line_of s) frame bytes u.undamaged };
          }
