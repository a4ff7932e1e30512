-- Ask and Commit, on bytes.
use Prim.Native.Nat.{ℕ, ◌-◌, ◌≤◌}
use mathlib.Core.Path.{◌≡◌, sym, ap, subst, ◌∙◌}
use mathlib.Core.List.{List, [], ◌∷◌, ◌++◌, map}
use lib.ListN.{length, replicate}
use Rattle.plan.specs.Lawful.{Each, Bytes}
use Rattle.plan.specs.Plan.{entering}
use Rattle.rules.specs.Line.{down, Line, node_at, lane_at, counted}
use Rattle.rules.specs.Frame.{frame_console}
use Rattle.rules.specs.Step.{Answer, step}
use Rattle.rules.specs.Damaged.{answer_wrong}
use Rattle.rules.specs.Ask.{line_after, StaysDown}
use Rattle.rules.proofs.Restart.AskCommit.{ask_refused, ask_keeps, ask_tells, ask_and_commit, ask_again, never_stale, commit_unkept, commit_read_as_recover, commit_as_recover, ask_then_commit}
use Rattle.state.specs.State.{line_bytes, line_of, state_answer}
use Rattle.state.proofs.SpelledLaws.{state_sane}
use Rattle.line.specs.Step.{step_left}
use Rattle.line.specs.Order.{state_after}
use Rattle.line.specs.Ask.{AskRefusedOnBytes, AskKeepsOnBytes, AskTellsOnBytes, AskAndCommitOnBytes, AskAgainOnBytes, NeverStaleOnBytes, CommitUnkeptOnBytes, CommitReadAsRecoverOnBytes, SameStep, CommitAsRecoverOnBytes, StaysDownOnBytes, AskThenCommitOnBytes}
use Rattle.line.proofs.StepLaws.{one_call}

pub ask_refused_on_bytes : AskRefusedOnBytes
ask_refused_on_bytes state n f g bytes bytes-too z both =
    let call = one_call state f bytes z in
    let (same, left) = ask_refused (line_of state) n f g both in
    (call.number ∙ same ∙ sym (one_call state g bytes-too z).number, λ d. call.left ∙ ap line_bytes (left (λ e. d (call.number ∙ e))) ∙ ((state_sane state).0 z).written)

pub ask_keeps_on_bytes : AskKeepsOnBytes
ask_keeps_on_bytes state n f bytes z is e = let call = one_call state f bytes z in call.left ∙ ap line_bytes (ask_keeps (line_of state) n f is (sym call.number ∙ e))

pub ask_tells_on_bytes : AskTellsOnBytes
ask_tells_on_bytes state n a f h bytes bytes-too z both e kept =
    let asked = one_call state f bytes z in
    let done = one_call state h bytes-too z in
    let (time, high, targets, entries) =
    ask_tells (line_of state) n a f h ((state_sane state).0 z).undamaged both (sym asked.number ∙ e) (ap (λ (l : Line). (node_at l n).asked) (sym asked.line) ∙ kept) in (
      ap (λ (l : Line). (node_at l n).time) done.line ∙ time,
      high,
      ap (λ (l : Line). (node_at l n).targets) done.line ∙ targets ∙ ap (λ (l : Line). (node_at l n).targets) (sym asked.line),
      entries ∙ ap (λ (l : Line). map (λ (c : ℕ). (lane_at l c).taken) (entering (line_of state).plan n) ++ replicate (4 - length (entering (line_of state).plan n)) 0) (sym done.line),
    )

pub ask_and_commit_on_bytes : AskAndCommitOnBytes
ask_and_commit_on_bytes state n f g h bytes bytes-too bytes-last z asks-commits commits-recovers e e-too =
    let asked = one_call state f bytes z in
    let done = one_call (step_left state f) g bytes-too asked.accepted in
    let second : (step (step (line_of state) f).line g).number ≡ 0 = ap (λ (l : Line). (step l g).number) (sym asked.line) ∙ sym done.number ∙ e-too in
    done.left
    ∙ ap (λ (l : Line). line_bytes (step l g).line) asked.line
    ∙ ap line_bytes (ask_and_commit (line_of state) n f g h ((state_sane state).0 z).undamaged asks-commits commits-recovers (sym asked.number ∙ e) second)
    ∙ ap (λ (l : Line). line_bytes (counted (frame_console h) l)) (sym (one_call state h bytes-last z).line)

pub ask_again_on_bytes : AskAgainOnBytes
ask_again_on_bytes state n a f bytes z kept formed is left =
    let call = one_call state f bytes z in
    let (zero, line) = ask_again (line_of state) n a f ((state_sane state).0 z).undamaged kept formed is left in
    (call.number ∙ zero, call.left ∙ ap line_bytes line)

pub never_stale_on_bytes : NeverStaleOnBytes
never_stale_on_bytes state n a f bytes z kept stopped =
    let call = one_call state f bytes z in
    let (node, right) = never_stale (line_of state) n a f ((state_sane state).0 z).undamaged bytes kept (ap (λ (l : Line). (node_at l n).status) (sym call.line) ∙ stopped) in
    (ap (λ (l : Line). node_at l n) call.line ∙ node, ap (λ (l : Line). answer_wrong l n) call.line ∙ right)

pub commit_unkept_on_bytes : CommitUnkeptOnBytes
commit_unkept_on_bytes state n f bytes z is kept =
    let call = one_call state f bytes z in
    let (Some-number, number) = commit_unkept (line_of state) n f is kept in
    (λ e. Some-number (sym call.number ∙ e), λ formed left inside source sink stopped. call.number ∙ number formed left inside source sink stopped)

pub commit_read_as_recover_on_bytes : CommitReadAsRecoverOnBytes
commit_read_as_recover_on_bytes state n f g bytes bytes-too z both Some-number low =
    let call = one_call state f bytes z in
    let other = one_call state g bytes-too z in
    call.number ∙ commit_read_as_recover (line_of state) n f g both (λ e. Some-number (other.number ∙ e)) (subst (λ (k : ℕ). k ≤ 15) other.number low) ∙ sym other.number

-- Steps that are the rules' same step.
same_step : (state f g : List ℕ) → Bytes f → Bytes g → state_answer state ≡ 0 → step (line_of state) f ≡ step (line_of state) g → SameStep state f g
same_step state f g bytes bytes-too z e =
    let call = one_call state f bytes z in
    let other = one_call state g bytes-too z in
    (call.number ∙ ap (λ (a : Answer). a.number) e ∙ sym other.number, call.left ∙ ap (λ (a : Answer). line_bytes a.line) e ∙ sym other.left)

pub commit_as_recover_on_bytes : CommitAsRecoverOnBytes
commit_as_recover_on_bytes state n a f g bytes bytes-too z kept both = same_step state f g bytes bytes-too z (commit_as_recover (line_of state) n a f g ((state_sane state).0 z).undamaged kept both)

-- Calls one after the other: the state is accepted, its line is the rules', and the node stays down there too.
after_calls : (frames : List (List ℕ)) (state : List ℕ) → Each Bytes frames → state_answer state ≡ 0 → (state_answer (state_after state frames) ≡ 0) × (line_of (state_after state frames) ≡ line_after (line_of state) frames)
after_calls [] state bytes z = (z, λ i. line_of state)
after_calls (f ∷ frames) state (bytes, more) z =
    let call = one_call state f bytes z in
    let (accepted, line) = after_calls frames (step_left state f) more call.accepted in
    (accepted, line ∙ ap (λ (l : Line). line_after l frames) call.line)

stays_down : (n : ℕ) (frames : List (List ℕ)) (state : List ℕ) → Each Bytes frames → state_answer state ≡ 0 → StaysDownOnBytes n state frames → StaysDown n (line_of state) frames
stays_down n [] state bytes z h = tt
stays_down n (f ∷ frames) state (bytes, more) z (stopped, rest) =
    let call = one_call state f bytes z in
    subst (λ (l : Line). ((node_at l n).status ≡ down) × StaysDown n l frames) call.line (stopped, stays_down n frames (step_left state f) more call.accepted rest)

pub ask_then_commit_on_bytes : AskThenCommitOnBytes
ask_then_commit_on_bytes state n asks between f g bytes each bytes-f bytes-g z is e stopped both =
    let asked = one_call state asks bytes z in
    let (accepted, line) = after_calls between (step_left state asks) each asked.accepted in
    let there = line ∙ ap (λ (l : Line). line_after l between) asked.line in
    let down-there = subst (λ (l : Line). StaysDown n l between) asked.line (stays_down n between (step_left state asks) each asked.accepted stopped) in
    same_step (state_after (step_left state asks) between) f g bytes-f bytes-g accepted
    (subst (λ (l : Line). step l f ≡ step l g) (sym there) (ask_then_commit (line_of state) n asks between f g ((state_sane state).0 z).undamaged bytes each is (sym asked.number ∙ e) down-there both))
