-- The steps that bring a down node back by Ask and Commit in the place of Recover.
use Prim.Native.Nat.{ℕ, suc, ◌+◌, ◌<◌, ◌≤◌}
use mathlib.Core.Path.{◌≡◌, sym, ap, subst, ◌∙◌}
use mathlib.Core.List.{◌∷◌}
use mathlib.Core.Option.{Option, some, map}
use native.Mathlib.Omega.{arith}
use lib.ListN.{length, replicate}
use Rattle.plan.specs.Plan.{Plan}
use Rattle.rules.specs.Line.{step_limit, console_count, steps_from, down, Node, Line, node_at, one_more, counted}
use Rattle.rules.specs.Frame.{Caller, console_of}
use Rattle.rules.specs.Recover.{targets_of, row_complete, recovered, answer_of, committed}
use Rattle.rules.specs.Step.{asking, asked_line, effect, accepted, Answer, refusal, step}
use Rattle.rules.specs.Claim.{start_of, story_from}
use Rattle.rules.specs.Restart.{recover_frame, ask_frame, commit_frame, OnEntering, replay_steps, ComesBackAsked}
use Rattle.rules.proofs.Invariant.InvLaws.{up_not_down, not_up_inside}
use Rattle.rules.proofs.Theorem.Unmoved.{step-plan}
use Rattle.rules.proofs.Console.Counted.{step-number}
use Rattle.rules.proofs.Undamaged.Committed.{committed_is}
use Rattle.rules.proofs.Undamaged.StepSound.{FedBytes, answered_whole}
use Rattle.rules.proofs.Restart.Known.{Known, known_step}
use Rattle.rules.proofs.Restart.Frames.{recover_formed, ask_formed, commit_formed, formed_line}
use Rattle.rules.proofs.Restart.Answers.{recover_restores}
use Rattle.rules.proofs.Restart.AskCommit.{of_one_console, refused_alike, asks_as_recover, commit_as_recover, asked_node, asked_restores}
use Rattle.rules.proofs.Restart.Bring.{own_count, zero_then, line_then, recover_accepted, next_left, brought_after}

module _ (l : Line) (known : Known l) (w : Caller) (listed : console_of w < console_count) (n : ℕ) (gone : (node_at l n).status ≡ down) (left : steps_from l (console_of w) + suc (suc (replay_steps (recovered n l) n)) ≤ step_limit) where
  inside : n < length l.nodes
  inside = rw known.inv.shape.nodes_long (not_up_inside known.inv.shape n (λ z. up_not_down (sym z ∙ gone)))

  ask_accepted : refusal l (ask_frame w n) ≡ 0
  ask_accepted = refused_alike l (of_one_console (ask_formed w listed n) (recover_formed w listed n)) (asks_as_recover l n) ∙ recover_accepted l known w listed n gone (omega arith)

  abbrev next : Line
  next = (step l (ask_frame w n)).line

  next_is : next ≡ counted (console_of w) (asked_line n l)
  unfolding effect
  next_is =
      formed_line l (ask_formed w listed n) ask_accepted
      ∙ ap (λ (o : Option Line). accepted (console_of w) l (map (λ (k : Line). asked_line n l) o)) (recover_restores l known n gone)

  next_known : Known next
  next_known = known_step l (ask_frame w n) (subst FedBytes (sym (ask_formed w listed n).asks) tt) known

  next_node : node_at next n ≡ asking (answer_of l n) (targets_of l n) (node_at l n)
  unfolding counted
  next_node = ap (λ (k : Line). node_at k n) next_is ∙ asked_node l n inside

  kept : (node_at next n).asked ≡ some (answer_of l n)
  unfolding asking
  kept = ap (λ (x : Node). x.asked) next_node

  still_down : (node_at next n).status ≡ down
  unfolding asking
  still_down = ap (λ (x : Node). x.status) next_node ∙ gone

  next_steps : next.steps ≡ one_more (console_of w) l.steps
  unfolding counted asked_line
  next_steps = ap (λ (k : Line). k.steps) next_is

  -- No more steps than a Recover before the Ask would have left.
  same_left : replay_steps (recovered n next) n ≡ replay_steps (recovered n l) n
  unfolding counted asked_line row_complete
  same_left =
      ap (λ (k : Line). replay_steps k n) (sym (committed_is next n (answer_of l n) (answered_whole next next_known.whole n (answer_of l n) kept)) ∙ ap (committed n (answer_of l n)) next_is ∙ asked_restores l n inside (one_more (console_of w) l.steps))

  next_left_over : steps_from next (console_of w) + suc (replay_steps (recovered n next) n) ≤ step_limit
  next_left_over = omega (arith, same_left, own_count l known w listed (omega arith) next next_steps)

  as_recover : step next (commit_frame w n) ≡ step next (recover_frame w n)
  as_recover = commit_as_recover next n (answer_of l n) (commit_frame w n) (recover_frame w n) next_known.whole kept (of_one_console (commit_formed w listed n) (recover_formed w listed n))

  commit_accepted : refusal next (commit_frame w n) ≡ 0
  commit_accepted = sym (step-number next (commit_frame w n)) ∙ ap (λ (a : Answer). a.number) as_recover ∙ step-number next (recover_frame w n) ∙ recover_accepted next next_known w listed n still_down next_left_over

  pub comes_back_asked : ComesBackAsked l w n
  comes_back_asked =
      let b = brought_after next next_known w listed n still_down next_left_over in
      let fs = b.frames in
      let two : suc (suc (length fs)) ≡ 2 + length fs = omega arith in
      record {
        rest = fs;
        few = omega (arith, b.few, next_left next next_known w listed n still_down next_left_over, same_left);
        shape = subst (λ (p : Plan). OnEntering p w n fs) (step-plan next (recover_frame w n) ∙ step-plan l (ask_frame w n)) b.shape;
        accepted =
            zero_then l (ask_frame w n) ask_accepted (commit_frame w n ∷ fs) (zero_then next (commit_frame w n) commit_accepted fs (ap (λ (a : Answer). (story_from (start_of a.line) fs).numbers) as_recover ∙ b.all_zero))
            ∙ ap (λ (k : ℕ). replicate k 0) two;
        back =
            ap (λ (k : Line). (node_at k n).status) (line_then l (ask_frame w n) ask_accepted (commit_frame w n ∷ fs) ∙ line_then next (commit_frame w n) commit_accepted fs)
            ∙ ap (λ (a : Answer). (node_at (story_from (start_of a.line) fs).line n).status) as_recover ∙ b.back;
      }
