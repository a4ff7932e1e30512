-- A crashed node can always come back, on bytes: the rules' statement, carried over the calls' run of lines.
use Prim.Native.Nat.{ℕ, ◌<◌, ◌≤◌}
use mathlib.Core.Path.{◌≡◌, refl, sym, ap, subst, ◌∙◌}
use mathlib.Core.Bool.{true}
use mathlib.Core.List.{List, ◌∷◌}
use native.Mathlib.Omega.{arith}
use lib.Dec.{eqb}
use borrow.Author.Tests.{eqb-true}
use Rattle.plan.specs.Lawful.{Each, Bytes}
use Rattle.plan.specs.Plan.{Plan, channel_count, entering}
use Rattle.plan.proofs.FitsLaws.{fitting}
use Rattle.rules.specs.Line.{console_count, Status, up, down, replay, Line, node_at}
use Rattle.rules.specs.Claim.{Story, named}
use Rattle.rules.specs.Restart.{OnEntering, no_more, send_next, take_next, ask_frame, commit_frame, Restarting, ComesBack, ComesBackAsked, NeverStuck}
use Rattle.rules.proofs.AlwaysBack.{always_back}
use Rattle.rules.proofs.Lists.Members.{any_in}
use Rattle.rules.proofs.Line.Joins.{entering_in}
use Rattle.rules.proofs.Invariant.InvLaws.{not_up_inside, up_not_down}
use Rattle.rules.proofs.Undamaged.Standing.{Standing}
use Rattle.rules.proofs.Undamaged.Undamaged.{undamaged_sound}
use Rattle.state.specs.State.{line_of, state_answer}
use Rattle.state.proofs.SpelledLaws.{state_sane}
use Rattle.line.specs.Load.{load_left}
use Rattle.line.specs.Order.{state_after, story_of}
use Rattle.line.specs.Restart.{ComesBackOnBytes, ComesBackAskedOnBytes, NeverStuckOnBytes, AlwaysBackOnBytes}
use Rattle.line.proofs.LoadLaws.{load_accepted}
use Rattle.line.proofs.StepLaws.{answer_undamaged, refusal_not_eight}
use Rattle.line.proofs.StepRun.{as_told, run_of_lines}
use Rattle.rules.specs.Frame.{Caller, unnamed, console, console_of, frame_from}

-- The frames of a restart are made of bytes.
frame_bytes : (w : Caller) → console_of w < console_count → (kind x : ℕ) → kind < 256 → x < 256 → Bytes (frame_from w kind x)
frame_bytes unnamed h kind x k e = (omega arith, (omega arith, (omega arith, (k, (e, tt)))))
frame_bytes (console c) h kind x k e = (omega arith, (omega arith, (omega arith, (k, (omega arith, (e, tt))))))

module _ (p : Plan) (w : Caller) (listed : console_of w < console_count) (n : ℕ) (few : channel_count p ≤ 24) where
  named_small : (b : ℕ) → named b (entering p n) ≡ true → b < 256
  named_small b e = let (c, i, q) = any_in (eqb b) (entering p n) e in omega (arith, eqb-true b c q, (entering_in p n c i).0)

  entering_bytes : {frames : List (List ℕ)} → OnEntering p w n frames → Each Bytes frames
  entering_bytes no_more = tt
  entering_bytes (send_next b e r) = (frame_bytes w listed 2 b (omega arith) (named_small b e), entering_bytes r)
  entering_bytes (take_next b e r) = (frame_bytes w listed 3 b (omega arith) (named_small b e), entering_bytes r)

module _ (state : List ℕ) (z : state_answer state ≡ 0) where
  abbrev l : Line
  l = line_of state

  standing : Standing l
  standing = (undamaged_sound l ((state_sane state).0 z).undamaged).standing

  channels_few : channel_count l.plan ≤ 24
  channels_few = (fitting l.plan standing.plan_fits_lem).channels_most

  down_small : (n : ℕ) → (node_at l n).status ≡ down → n < 256
  down_small n q = omega (arith, not_up_inside standing.shape n (λ e. up_not_down (sym e ∙ q)), (fitting l.plan standing.plan_fits_lem).nodes_most)

  restart_bytes : (w : Caller) → console_of w < console_count → (n : ℕ) (frames : List (List ℕ)) → Restarting l.plan w n (node_at l n).status frames → Each Bytes frames
  restart_bytes w listed n frames = go (node_at l n).status refl
    where
      go : (s : Status) → (node_at l n).status ≡ s → Restarting l.plan w n s frames → Each Bytes frames
      go up q shape = entering_bytes l.plan w listed n channels_few shape
      go replay q shape = entering_bytes l.plan w listed n channels_few shape
      go down q (rest, is, shape) = subst (Each Bytes) (sym is) (frame_bytes w listed 5 n (omega arith) (down_small n q), entering_bytes l.plan w listed n channels_few shape)

  back_on_bytes : (w : Caller) → console_of w < console_count → (n : ℕ) → ComesBack l w n → ComesBackOnBytes state w n
  unfolding story_of
  back_on_bytes w listed n c =
      let bytes = restart_bytes w listed n c.frames c.shape in
      let told = (as_told c.frames state bytes z).story in
      record {
        frames = c.frames;
        bytes = bytes;
        few = c.few;
        shape = c.shape;
        accepted = ap (λ (s : Story). s.numbers) told ∙ c.accepted;
        back = ap (λ (s : Story). (node_at s.line n).status) told ∙ c.back;
      }

  asked_on_bytes : (w : Caller) → console_of w < console_count → (n : ℕ) → (node_at l n).status ≡ down → ComesBackAsked l w n → ComesBackAskedOnBytes state w n
  unfolding story_of
  asked_on_bytes w listed n stopped c =
      let small = down_small n stopped in
      let bytes : Each Bytes (ask_frame w n ∷ commit_frame w n ∷ c.rest) = (frame_bytes w listed 7 n (omega arith) small, (frame_bytes w listed 8 n (omega arith) small, entering_bytes l.plan w listed n channels_few c.shape)) in
      let told = (as_told (ask_frame w n ∷ commit_frame w n ∷ c.rest) state bytes z).story in
      record {
        rest = c.rest;
        bytes = bytes;
        few = c.few;
        shape = c.shape;
        accepted = ap (λ (s : Story). s.numbers) told ∙ c.accepted;
        back = ap (λ (s : Story). (node_at s.line n).status) told ∙ c.back;
      }

  never_stuck : NeverStuck l → NeverStuckOnBytes state
  never_stuck s =
      record {
        sound = λ f e. refusal_not_eight l f (sym (answer_undamaged state f z) ∙ e);
        placed = λ f e. s.placed f (sym (answer_undamaged state f z) ∙ e);
        few_steps = s.few_steps;
        asked = λ w listed.
            (let t = s.asked w listed in
            record {
              recovers = λ n e. answer_undamaged state _ z ∙ t.recovers n e;
              replays = λ b r o q. answer_undamaged state _ z ∙ t.replays b r o q;
              comes_back = λ n h. back_on_bytes w listed n (t.comes_back n h);
              comes_back_asked = λ n e h. asked_on_bytes w listed n e (t.comes_back_asked n e h);
            });
      }

pub always_back_on_bytes : AlwaysBackOnBytes
unfolding story_of
always_back_on_bytes plan lent frames bytes each z =
    let run = run_of_lines plan lent frames bytes each z in
    never_stuck (state_after (load_left plan lent) frames) run.accepted (subst NeverStuck (sym (ap (λ (s : Story). s.line) run.story)) (always_back plan frames bytes each (load_accepted plan lent z).0))
