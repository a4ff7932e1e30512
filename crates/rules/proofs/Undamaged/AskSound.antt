-- Ask keeps a line sound, and a kept answer, applied, gives what Recover gives.
use Prim.Native.Nat.{ℕ, ◌≤◌}
use mathlib.Core.Path.{◌≡◌, refl, sym, ap, subst, ◌∙◌}
use mathlib.Core.Logic.{◌≢◌}
use mathlib.Core.Bool.{false}
use mathlib.Core.Option.{some}
use native.Mathlib.Omega.{arith}
use native.Mathlib.Decide.{ℕ_discrete}
use lib.ListN.{length, length-set}
use borrow.Author.Tests.{ltb-false}
use Rattle.plan.specs.Plan.{channel_at}
use Rattle.rules.specs.Line.{target_limit, accepted_steps, Status, up, Node, Line, node_at, with_node, counted}
use Rattle.rules.specs.Frame.{ask, commit}
use Rattle.rules.specs.Recover.{targets_of, triples, answer_of}
use Rattle.rules.specs.Step.{asking, asked_line, effect}
use Rattle.rules.proofs.Lists.Options.{some_same, none_some}
use Rattle.rules.proofs.Line.LineLaws.{node_there, node_else}
use Rattle.rules.proofs.Invariant.Inv.{Ordered}
use Rattle.rules.proofs.Invariant.InvLaws.{up_not_down, replay_not_down}
use Rattle.rules.proofs.Invariant.Stays.{everywhere}
use Rattle.rules.proofs.Ending.Targets.{targets_from}
use Rattle.rules.proofs.Theorem.Accepted.{Passed, CanRecover, can_ask, can_commit, ask_leads}
use Rattle.rules.proofs.Undamaged.Standing.{NodeFits, NodeSound, Empties, Standing, stuck, Stopped, Sound}
use Rattle.rules.proofs.Undamaged.SoundStays.{node_stays, channel_stays, targets_kept, answer_kept, stuck_kept, stopped_same, counted_sound}
use Rattle.rules.proofs.Undamaged.Restored.{recovers_to}
use Rattle.rules.proofs.Undamaged.RecoverSound.{triple_fits, recover_sound}
use Rattle.rules.proofs.Undamaged.Undamaged.{ordered_fit}
use Rattle.rules.proofs.Undamaged.Committed.{commit_is, recover_leads, as_recover}

module _ (l : Line) (sound : Sound l) (n : ℕ) where
  abbrev s : Standing l
  s = sound.standing

  ordered : Ordered l.plan
  ordered = ordered_fit l.plan s.plan_fits_lem

  not_up : CanRecover l n → (node_at l n).status ≢ up
  not_up can q = up_not_down (sym q ∙ can.stopped)

  module _ (can : CanRecover l n) (few : length (targets_of l n) ≤ target_limit) (goes : stuck l n ≡ false) where
    abbrev x : Node
    x = asking (answer_of l n) (targets_of l n) (node_at l n)

    abbrev after : Line
    after = with_node n (asking (answer_of l n) (targets_of l n) (node_at l n)) l

    now : node_at after n ≡ x
    now = node_there n x l (rw s.shape.nodes_long can.here)

    other : (m : ℕ) → m ≢ n → node_at after m ≡ node_at l m
    other = node_else n x l

    same_part : {A : Type 0} (f : Node → A) → f x ≡ f (node_at l n) → (m : ℕ) → f (node_at after m) ≡ f (node_at l m)
    unfolding with_node
    same_part f e = everywhere l l.steps after.nodes l.lanes n other f (ap f now ∙ e)

    fits : NodeFits l.plan (accepted_steps l) n x
    unfolding asking
    fits =
        let f = (s.nodes n can.here).fits in
        let (zero, log, held, _) = subst (λ (z : Status). Empties z (node_at l n)) can.stopped f.empties in
        record {
          log_few = f.log_few;
          held_few = f.held_few;
          targets_few = few;
          entries = f.entries;
          targets = λ t i. triple_fits l s n t (targets_from l n t i).0;
          time = f.time;
          rises = f.rises;
          within = f.within;
          sets = f.sets;
          passed = f.passed;
          unmarked = f.unmarked;
          between = f.between;
          empties = subst (λ (z : Status). Empties z x) (sym can.stopped) (zero, log, held, λ e. none_some (sym e));
        }

    asked_sound : Sound after
    unfolding with_node asking
    asked_sound =
        let same : accepted_steps l ≤ accepted_steps l = omega arith in
        let status = same_part (λ (y : Node). y.status) refl in
        let mark = same_part (λ (y : Node). y.crashed) refl in
        let logs : (m c : ℕ) → triples m (node_at after c).log ≡ triples m (node_at l c).log = λ m. same_part (λ (y : Node). triples m y.log) refl in
        record {
          standing = record {
            plan_fits_lem = s.plan_fits_lem;
            shape = record { nodes_long = length-set l.nodes n x ∙ s.shape.nodes_long; lanes_long = s.shape.lanes_long };
            counts = s.counts;
            nodes = λ m h. elim (ℕ_discrete m n) [
              | yes q ↦ subst (NodeSound after) (sym q)
                  (record {
                    fits = subst (NodeFits l.plan (accepted_steps l) n) (sym now) fits;
                    clock = λ e i b j. (s.nodes n can.here).clock e (rw now at i) b j;
                    rows = λ b j. rw now ((s.nodes n can.here).rows b j);
                  })
              | no d ↦ node_stays l l.steps after.nodes l.lanes same m (other m d) (λ b j o before c. c) (s.nodes m h)
            ];
            channels = λ c h. channel_stays l l.steps after.nodes l.lanes same c (status (channel_at l.plan c).sender) (status (channel_at l.plan c).receiver) (mark (channel_at l.plan c).sender) (mark (channel_at l.plan c).receiver) refl (s.channels c h);
          };
          stopped = λ m h d. elim (ℕ_discrete m n) [
            | no e ↦ stopped_same l l.steps after.nodes l.lanes same m (λ c j. refl) (λ c j. logs m (channel_at l.plan c).receiver) (λ c j. refl) (other m e) (sound.stopped m h (λ q. d (status m ∙ q)))
            | yes q ↦ subst (Stopped after) (sym q)
                (let found = targets_kept l l.steps after.nodes l.lanes same n (λ c j. refl) (λ c j. logs n (channel_at l.plan c).receiver) (λ c j. refl) in
                record {
                  replays = λ e. absurd (replay_not_down (sym e ∙ status n ∙ can.stopped));
                  answers = λ a e. record {
                    is = some_same (sym e ∙ ap (λ (y : Node). y.asked) now) ∙ sym (answer_kept l l.steps after.nodes l.lanes same n (λ c j. refl) (λ c j. logs n (channel_at l.plan c).receiver) (λ c j. refl));
                    targets = ap (λ (y : Node). y.targets) now ∙ sym found;
                    few = rw found few;
                    goes = stuck_kept l l.steps after.nodes l.lanes same n (λ c j. refl) (λ c j. logs n (channel_at l.plan c).receiver) (λ c j. refl) ∙ goes;
                  };
                })
          ];
        }

  pub ask_sound : {who : ℕ} → Passed l who (ask n) → (k : Line) → effect l (ask n) ≡ some k → Sound (counted who k)
  unfolding asked_line
  ask_sound {who} p k e =
      let can = can_ask p in
      let ((j, gives), is) = ask_leads l n e in
      let goes = (recovers_to l ordered s.shape n can.here gives).0 in
      subst (λ (y : Line). Sound (counted who y)) is (counted_sound (asked_line n l) p.console p.steps_left (asked_sound can (ltb-false target_limit (length (targets_of l n)) p.space) goes))

  pub commit_sound : {who : ℕ} → Passed l who (commit n) → (k : Line) → effect l (commit n) ≡ some k → Sound (counted who k)
  unfolding effect
  commit_sound p k e =
      let can = can_commit p in
      let right = (sound.stopped n can.here (not_up can)).answers in
      let q = as_recover l n p right ordered s.shape can.here in
      recover_sound l sound n q k (recover_leads l n p right ordered s.shape can.here ∙ sym (commit_is l n p right) ∙ e)
