-- The steps that bring a node back: as many as are left of its replay, after a Recover if it is down.
use Prim.Native.Nat.{ℕ, zero, suc, ◌+◌, ◌<◌, ◌≤◌}
use mathlib.Core.Path.{◌≡◌, refl, sym, ap, subst, ◌∙◌}
use mathlib.Core.Logic.{inl, inr}
use mathlib.Core.Bool.{false}
use mathlib.Core.List.{List, [], ◌∷◌, ◌++◌, append_assoc}
use native.Mathlib.Omega.{arith}
use native.Mathlib.Decide.{ℕ_discrete}
use lib.ListN.{length, get_or, replicate}
use Rattle.plan.specs.Plan.{Plan, node_count, channel_count, entering}
use Rattle.rules.specs.Line.{log_limit, step_limit, console_count, steps_from, Target, Status, up, down, replay, Node, Line, node_at, one_more, counted, receiver_of}
use Rattle.rules.specs.Recover.{targets_of, row_complete, rows_complete, recovered, status_of}
use Rattle.rules.specs.Step.{accepted, refusal, step}
use Rattle.rules.specs.Claim.{Story, start_of, told, story_from}
use Rattle.rules.specs.Restart.{recover_frame, OnEntering, no_more, Restarting, replay_steps, restart_steps, most_restart_steps, ComesBack}
use Rattle.rules.proofs.Lists.ListLaws.{nil_right}
use Rattle.rules.proofs.Lists.Members.{In, not_all}
use Rattle.rules.proofs.Line.Joins.{entering_in}
use Rattle.rules.proofs.Line.Consoles.{own_more}
use Rattle.rules.proofs.Invariant.Inv.{Shape, Ordered}
use Rattle.rules.proofs.Invariant.InvLaws.{not_up_inside, up_not_replay, up_not_down}
use Rattle.rules.proofs.Undamaged.Restored.{restored_line, recovered_is, restored-node, restored_else}
use Rattle.rules.proofs.Theorem.Accepted.{step-accepted}
use Rattle.rules.proofs.Theorem.Unmoved.{step-plan}
use Rattle.rules.proofs.Undamaged.StepSound.{FedBytes}
use Rattle.rules.proofs.Restart.Known.{Known, known_step}
use Rattle.rules.proofs.Restart.Frames.{recover_formed, formed_line}
use Rattle.rules.proofs.Restart.Answers.{recover_restores, recovers}
use Rattle.rules.proofs.Restart.RowsLeft.{rows_left, steps_left, steps-most}
use Rattle.rules.proofs.Restart.Advance.{Advances, some_left, advance_at, left_zero}
use Rattle.rules.specs.Frame.{Caller, console_of}

-- A story goes on from its line, and its numbers from those that it has.
story_line : (fs : List (List ℕ)) (s : Story) → (story_from s fs).line ≡ (story_from (start_of s.line) fs).line
unfolding told
story_line [] s = refl
story_line (f ∷ fs) s = story_line fs (told s f) ∙ sym (story_line fs (told (start_of s.line) f))

story_numbers : (fs : List (List ℕ)) (s : Story) → (story_from s fs).numbers ≡ s.numbers ++ (story_from (start_of s.line) fs).numbers
unfolding told
story_numbers [] s = sym (nil_right s.numbers)
story_numbers (f ∷ fs) s =
    let a = step s.line f in
    let rest = (story_from (start_of a.line) fs).numbers in
    story_numbers fs (told s f) ∙ append_assoc s.numbers (a.number ∷ []) rest ∙ ap (λ (ns : List ℕ). s.numbers ++ ns) (sym (story_numbers fs (told (start_of s.line) f)))

-- At most j steps of a caller's on the channels that enter node n bring it up.
pub record Brought (j : ℕ) (l : Line) (w : Caller) (n : ℕ) : Type 0 where
  pub frames : List (List ℕ)
  pub few : length frames ≤ j
  pub shape : OnEntering l.plan w n frames
  pub all_zero : (story_from (start_of l) frames).numbers ≡ replicate (length frames) 0
  pub back : (node_at (story_from (start_of l) frames).line n).status ≡ up

brought_none : (j : ℕ) (l : Line) (w : Caller) (n : ℕ) → (node_at l n).status ≡ up → Brought j l w n
brought_none j l w n e = record { frames = []; few = omega arith; shape = no_more; all_zero = refl; back = e }

-- The caller's own count, one step on.
pub own_count : (l : Line) → Known l → (w : Caller) → console_of w < console_count → steps_from l (console_of w) < step_limit → (k : Line) → k.steps ≡ one_more (console_of w) l.steps → steps_from k (console_of w) ≡ suc (steps_from l (console_of w))
own_count l known w listed left k e = ap (λ (counts : List ℕ). get_or counts (console_of w) 0) e ∙ own_more known.steady.limits.counts listed left

-- An accepted frame, and then others.
module _ (l : Line) (f : List ℕ) (z : refusal l f ≡ 0) where
  pub zero_then : (fs : List (List ℕ)) → (story_from (start_of (step l f).line) fs).numbers ≡ replicate (length fs) 0 → (story_from (start_of l) (f ∷ fs)).numbers ≡ replicate (suc (length fs)) 0
  unfolding told
  zero_then fs e =
      story_numbers fs (told (start_of l) f) ∙ ap (λ (k : ℕ). k ∷ (story_from (start_of (step l f).line) fs).numbers) (step-accepted l f z).0 ∙ ap (λ (ns : List ℕ). 0 ∷ ns) e

  pub line_then : (fs : List (List ℕ)) → (story_from (start_of l) (f ∷ fs)).line ≡ (story_from (start_of (step l f).line) fs).line
  unfolding told
  line_then fs = story_line fs (told (start_of l) f)

  brought_then : {j : ℕ} {w : Caller} {n : ℕ} → ((frames : List (List ℕ)) → OnEntering l.plan w n frames → OnEntering l.plan w n (f ∷ frames)) → Brought j (step l f).line w n → Brought (suc j) l w n
  brought_then {j} {w} {n} shape b =
      record {
        frames = f ∷ b.frames;
        few = omega (arith, b.few);
        shape = shape b.frames (subst (λ (p : Plan). OnEntering p w n b.frames) (step-plan l f) b.shape);
        all_zero = zero_then b.frames b.all_zero;
        back = ap (λ (k : Line). (node_at k n).status) (line_then b.frames) ∙ b.back;
      }

-- A replaying node has a row that is not complete, so something is left, and it can go on.
module _ (l : Line) (known : Known l) (n : ℕ) (again : (node_at l n).status ≡ replay) where
  open_one : (b : ℕ) × In b (entering l.plan n) × (row_complete l n b ≡ false)
  unfolding rows_complete
  open_one = not_all (row_complete l n) (entering l.plan n) (known.steady.open_rows n again)

  abbrev b : ℕ
  b = open_one.0

  inside : b < channel_count l.plan
  inside = (entering_in l.plan n b open_one.1).0

  into : receiver_of l b ≡ n
  into = (entering_in l.plan n b open_one.1).1

  replays_there : (node_at l (receiver_of l b)).status ≡ replay
  replays_there = ap (λ (x : ℕ). (node_at l x).status) into ∙ again

  open_there : row_complete l (receiver_of l b) b ≡ false
  open_there = ap (λ (x : ℕ). row_complete l x b) into ∙ open_one.2

  left_over : 0 < rows_left l n
  left_over = subst (λ (x : ℕ). 0 < rows_left l x) into (some_left l known b inside replays_there open_there)

  advance : (w : Caller) → console_of w < console_count → steps_from l (console_of w) < step_limit → Advances l w n
  advance w listed left = subst (Advances l w) into (advance_at l known b inside replays_there open_there w listed left)

bring : (j : ℕ) (l : Line) → Known l → (w : Caller) → console_of w < console_count → (n : ℕ) → (node_at l n).status ≡ replay → rows_left l n ≤ j → steps_from l (console_of w) + j ≤ step_limit → Brought j l w n
bring zero l known w listed n again few left = let no : ⊥ = omega (arith, left_over l known n again) in absurd no
bring (suc j) l known w listed n again few left =
    let a = advance l known n again w listed (omega arith) in
    let next = (step l a.frame).line in
    brought_then l a.frame a.accepted (λ frames s. a.shape s)
    (elim a.after [
      | inl e ↦ brought_none j next w n e
      | inr (e, less, steps) ↦ bring j next (known_step l a.frame a.plain known) w listed n e (omega arith) (omega (arith, own_count l known w listed (omega arith) next steps))
    ])

bring_all : (l : Line) → Known l → (w : Caller) → console_of w < console_count → (n : ℕ) → (node_at l n).status ≡ replay → steps_from l (console_of w) + replay_steps l n ≤ step_limit → Brought (replay_steps l n) l w n
bring_all l known w listed n again left = bring (replay_steps l n) l known w listed n again (omega (arith, steps_left l n)) left

-- A node that is down is recovered first.
module _ (l : Line) (known : Known l) (w : Caller) (listed : console_of w < console_count) (n : ℕ) (gone : (node_at l n).status ≡ down) (left : steps_from l (console_of w) + suc (replay_steps (recovered n l) n) ≤ step_limit) where
  pub recover_accepted : refusal l (recover_frame w n) ≡ 0
  recover_accepted = recovers l known w listed n gone ∙ left_zero l w (omega arith)

  abbrev next : Line
  next = (step l (recover_frame w n)).line

  next_is : next ≡ counted (console_of w) (recovered n l)
  next_is = formed_line l (recover_formed w listed n) recover_accepted ∙ ap (accepted (console_of w) l) (recover_restores l known n gone)

  next_status : (node_at next n).status ≡ status_of (targets_of l n)
  unfolding counted
  next_status =
      let inv = known.inv in
      ap (λ (k : Line). (node_at k n).status) (next_is ∙ ap (counted (console_of w)) (recovered_is l n inv.ordered inv.shape)) ∙ ap (λ (x : Node). x.status) (restored-node l n inv.ordered inv.shape (not_up_inside known.inv.shape n (λ z. up_not_down (sym z ∙ gone))))

  next_steps : next.steps ≡ one_more (console_of w) l.steps
  unfolding counted
  next_steps = ap (λ (k : Line). k.steps) (next_is ∙ ap (counted (console_of w)) (recovered_is l n known.inv.ordered known.inv.shape))

  pub next_left : replay_steps next n ≡ replay_steps (recovered n l) n
  unfolding counted row_complete
  next_left = ap (λ (k : Line). replay_steps k n) next_is

  pub brought_after : Brought (replay_steps next n) next w n
  brought_after = go (targets_of l n) refl
    where
      go : (ts : List Target) → targets_of l n ≡ ts → Brought (replay_steps next n) next w n
      go [] q = brought_none (replay_steps next n) next w n (next_status ∙ ap status_of q)
      go (t ∷ ts) q = bring_all next (known_step l (recover_frame w n) (subst FedBytes (sym (recover_formed w listed n).asks) tt) known) w listed n (next_status ∙ ap status_of q) (omega (arith, next_left, own_count l known w listed (omega arith) next next_steps))

  recovered_back : ComesBack l w n
  recovered_back =
      let b = brought_after in
      record {
        frames = recover_frame w n ∷ b.frames;
        few = subst (λ (s : Status). suc (length b.frames) ≤ restart_steps l n s) (sym gone) (omega (arith, b.few, next_left));
        shape = subst (λ (s : Status). Restarting l.plan w n s (recover_frame w n ∷ b.frames)) (sym gone) (b.frames, refl, subst (λ (p : Plan). OnEntering p w n b.frames) (step-plan l (recover_frame w n)) b.shape);
        accepted = zero_then l (recover_frame w n) recover_accepted b.frames b.all_zero;
        back = ap (λ (k : Line). (node_at k n).status) (line_then l (recover_frame w n) recover_accepted b.frames) ∙ b.back;
      }

pub comes_back : (l : Line) → Known l → (w : Caller) → console_of w < console_count → (n : ℕ) → steps_from l (console_of w) + restart_steps l n (node_at l n).status ≤ step_limit → ComesBack l w n
comes_back l known w listed n left = go (node_at l n).status refl
  where
    left_by : (s : Status) → (node_at l n).status ≡ s → steps_from l (console_of w) + restart_steps l n s ≤ step_limit
    left_by s q = subst (λ (t : Status). steps_from l (console_of w) + restart_steps l n t ≤ step_limit) q left

    brought : (s : Status) → (node_at l n).status ≡ s → ((fs : List (List ℕ)) → OnEntering l.plan w n fs → Restarting l.plan w n s fs) → Brought (restart_steps l n s) l w n → ComesBack l w n
    brought s q shape b =
        record {
          frames = b.frames;
          few = subst (λ (t : Status). length b.frames ≤ restart_steps l n t) (sym q) b.few;
          shape = subst (λ (t : Status). Restarting l.plan w n t b.frames) (sym q) (shape b.frames b.shape);
          accepted = b.all_zero;
          back = b.back;
        }

    go : (s : Status) → (node_at l n).status ≡ s → ComesBack l w n
    go up q = brought up q (λ fs s. s) (brought_none 0 l w n q)
    go down q = recovered_back l known w listed n q (left_by down q)
    go replay q = brought replay q (λ fs s. s) (bring_all l known w listed n q (left_by replay q))

-- The restored line's logs are those of before, and the node's own is empty.
restored-logs : (l : Line) → Ordered l.plan → Shape l → (n : ℕ) → n < node_count l.plan → ((m : ℕ) → length (node_at l m).log ≤ log_limit) → (m : ℕ) → length (node_at (restored_line l n) m).log ≤ log_limit
restored-logs l ordered shape n inside logs m = elim (ℕ_discrete m n) [
  | yes q ↦ subst (λ (x : ℕ). length (node_at (restored_line l n) x).log ≤ log_limit) (sym q) (subst (λ (x : Node). length x.log ≤ log_limit) (sym (restored-node l n ordered shape inside)) (omega arith))
  | no d ↦ subst (λ (x : Node). length x.log ≤ log_limit) (sym (restored_else l n ordered shape m d)) (logs m)
]

-- At most one Recover and 512 steps of a replay.
pub few_steps : (l : Line) → Known l → (n : ℕ) → restart_steps l n (node_at l n).status ≤ most_restart_steps
few_steps l known n = go (node_at l n).status refl
  where
    few : (k : Line) → ((m : ℕ) → length (node_at k m).log ≤ log_limit) → k.plan ≡ l.plan → n < node_count l.plan → replay_steps k n ≤ 512
    few k logs q inside = steps-most k logs n (subst (λ (p : Plan). length (entering p n) ≤ 4) (sym q) (known.rows n inside))

    go : (s : Status) → (node_at l n).status ≡ s → restart_steps l n s ≤ most_restart_steps
    go up q = omega arith
    go replay q = omega (arith, few l known.steady.limits.logs refl (not_up_inside known.inv.shape n (λ z. up_not_replay (sym z ∙ q))))
    go down q =
        let inside = not_up_inside known.inv.shape n (λ z. up_not_down (sym z ∙ q)) in
        let again = few (restored_line l n) (restored-logs l known.inv.ordered known.inv.shape n inside known.steady.limits.logs) refl inside in
        omega (arith, again, ap (λ (k : Line). replay_steps k n) (recovered_is l n known.inv.ordered known.inv.shape))
