-- Floor times rise after ticks, on bytes.
use Prim.Native.Nat.{ℕ}
use mathlib.Core.Path.{◌≡◌, refl, sym, ap, ap₂, subst, ◌∙◌}
use mathlib.Core.List.{List, [], ◌∷◌}
use Rattle.plan.specs.Lawful.{Each, Bytes}
use Rattle.plan.specs.Plan.{plan_of}
use Rattle.rules.specs.Line.{Line, initial_line}
use Rattle.rules.specs.Frame.{frame_of}
use Rattle.rules.specs.Step.{step}
use Rattle.rules.specs.Claim.{Story, start_of, story_from}
use Rattle.rules.specs.Ticks.{FollowedFrames, frames_of, Trace, onward, traced, trace_from, no_trace, FloorsReached, NoneTaken}
use Rattle.rules.proofs.Console.Counted.{step-number}
use Rattle.rules.proofs.Ticks.Law.{floors_rise, none_in_replay}
use Rattle.state.specs.State.{line_of, state_answer}
use Rattle.line.specs.Load.{load_answer, load_left}
use Rattle.line.specs.Step.{step_answer, step_left}
use Rattle.line.specs.Order.{state_after, story_of}
use Rattle.line.specs.Ticks.{trace_behind, trace_of, FloorsRiseOnBytes, NoneInReplayOnBytes}
use Rattle.line.proofs.LoadLaws.{load_accepted}
use Rattle.line.proofs.StepLaws.{answer_undamaged, one_call}
use Rattle.line.proofs.StepRun.{as_told, run_of_lines}

-- The calls' trace is the rules', and its line the one in the bytes left.
behind-told : (frames : FollowedFrames) (t : Trace) (state : List ℕ) → Each Bytes (frames_of frames) → state_answer state ≡ 0 → t.line ≡ line_of state → trace_behind t state frames ≡ trace_from t frames
unfolding traced
behind-told [] t state bytes z same = refl
behind-told ((follow, f) ∷ rest) t state (bytes, more) z same =
    let call = one_call state f bytes z in
    let number : step_answer state f ≡ (step t.line f).number = call.number ∙ ap (λ (l : Line). (step l f).number) (sym same) in
    let left : line_of (step_left state f) ≡ (step t.line f).line = call.line ∙ ap (λ (l : Line). (step l f).line) (sym same) in
    behind-told rest (onward t (follow, f) (step_answer state f) (line_of (step_left state f))) (step_left state f) more call.accepted refl
    ∙ ap₂ (λ (n : ℕ) (l : Line). trace_from (onward t (follow, f) n l) rest) number left

behind-line : (frames : FollowedFrames) (t : Trace) (state : List ℕ) → t.line ≡ line_of state → (trace_behind t state frames).line ≡ line_of (state_after state (frames_of frames))
behind-line [] t state same = same
behind-line ((follow, f) ∷ rest) t state same = behind-line rest (onward t (follow, f) (step_answer state f) (line_of (step_left state f))) (step_left state f) refl

module _ (plan lent : List ℕ) (before : List (List ℕ)) (frames : FollowedFrames) (bytes : Bytes plan) (each : Each Bytes before) (each-followed : Each Bytes (frames_of frames)) (z : load_answer plan lent ≡ 0) where
  abbrev state : List ℕ
  state = state_after (load_left plan lent) before

  traces : trace_of (state_after (load_left plan lent) before) frames ≡ trace_from (no_trace (story_from (start_of (initial_line (plan_of plan))) before).line) frames
  unfolding story_of trace_of
  traces =
      let run = run_of_lines plan lent before bytes each z in
      behind-told frames (no_trace (line_of state)) state each-followed run.accepted refl ∙ ap (λ (s : Story). trace_from (no_trace s.line) frames) run.story

  floors_reached : FloorsReached (plan_of plan) (trace_of (state_after (load_left plan lent) before) frames)
  floors_reached = subst (FloorsReached (plan_of plan)) (sym traces) (floors_rise plan before frames bytes each each-followed (load_accepted plan lent z).0)

  none-taken : (trace_of (state_after (load_left plan lent) before) frames).crashes ≡ [] → (f : List ℕ) → step_answer (state_after (state_after (load_left plan lent) before) (frames_of frames)) f ≡ 0 → NoneTaken (trace_of (state_after (load_left plan lent) before) frames) (frame_of f)
  unfolding trace_of
  none-taken quiet f number =
      let accepted = (as_told (frames_of frames) state each-followed (run_of_lines plan lent before bytes each z).accepted).accepted in
      let here = behind-line frames (no_trace (line_of state)) state refl in
      let by_rules : (step (trace_of state frames).line f).number ≡ 0 = ap (λ (l : Line). (step l f).number) here ∙ step-number (line_of (state_after state (frames_of frames))) f ∙ sym (answer_undamaged (state_after state (frames_of frames)) f accepted) ∙ number in
      subst (λ (t : Trace). t.crashes ≡ [] → (step t.line f).number ≡ 0 → NoneTaken t (frame_of f)) (sym traces) (λ none e. none_in_replay plan before frames bytes each each-followed (load_accepted plan lent z).0 none f e) quiet by_rules

pub floors_rise_on_bytes : FloorsRiseOnBytes
floors_rise_on_bytes = floors_reached

pub none_in_replay_on_bytes : NoneInReplayOnBytes
none_in_replay_on_bytes = none-taken
