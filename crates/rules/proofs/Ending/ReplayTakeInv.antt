-- Take, of a node that replays, keeps the invariant: the record is held or dropped, and the replay may end.
use Prim.Native.Nat.{ℕ, max, ◌<◌}
use mathlib.Core.Path.{◌≡◌, refl, sym, ap, subst, ◌∙◌}
use mathlib.Core.Logic.{◌≢◌}
use mathlib.Core.Bool.{Bool, true, false}
use mathlib.Core.List.{List, [], ◌∷◌, ◌++◌}
use Rattle.plan.specs.Plan.{channel_at, node_count, channel_count}
use Rattle.rules.specs.Line.{Message, replay, Node, Line, node_at, lane_at, with_node, with_lane, parents, sender_of}
use Rattle.rules.specs.Clock.{raise_heard, taken_from}
use Rattle.rules.specs.Recover.{row_goal}
use Rattle.rules.specs.Replay.{holding}
use Rattle.rules.specs.Step.{taken_lane, taken_replaying}
use Rattle.rules.specs.Plain.{Act, Receipt}
use Rattle.rules.proofs.Line.LineLaws.{node_there, node_else}
use Rattle.rules.proofs.Histories.Ghost.{Ghost}
use Rattle.rules.proofs.Histories.Passing.{goes_on, held_of}
use Rattle.rules.proofs.Invariant.Inv.{Inv, is_up}
use Rattle.rules.proofs.Steps.HoldInv.{drop_inv, hold_inv}
use Rattle.rules.proofs.Ending.Ends.{EndsAs}
use Rattle.rules.proofs.Ending.EndInv.{Goes, ended_inv}

module _ (l : Line) (g : Ghost) (cut base : ℕ → ℕ) (fed : List Act) (receipts : List Receipt) (crashes : List ℕ) (inv : Inv l g cut base fed receipts crashes)
    (b : ℕ) (here : b < channel_count l.plan) (m : Message) (rest : List Message) (first : (lane_at l b).queue ≡ m ∷ rest) (sender : is_up l (channel_at l.plan b).sender)
    (replaying : (node_at l (channel_at l.plan b).receiver).status ≡ replay) (open_row : (lane_at l b).taken < row_goal (node_at l (channel_at l.plan b).receiver).targets (channel_at l.plan b).sender) where
  abbrev n : ℕ
  n = (channel_at l.plan b).receiver

  abbrev heard : List ℕ
  heard = raise_heard (parents l.plan (sender_of l b)) (lane_at l b).heard m.origin

  abbrev cleared : Line
  cleared = with_lane b (record { mark = (lane_at l b).mark; taken = max (lane_at l b).taken m.time; heard = heard; queue = rest; low = (lane_at l b).low }) l

  abbrev held : Line
  held = with_node n (holding (held_of l.plan n b m) (node_at cleared n)) cleared

  inside : n < node_count l.plan
  inside = inv.ordered.inside b here

  holds : goes_on l.plan n m ≡ true → taken_replaying b m (taken_lane b m rest l) ≡ held
  unfolding taken_replaying taken_lane taken_from with_lane
  holds t = rw (t, taken_replaying) refl

  drops : goes_on l.plan n m ≡ false → taken_replaying b m (taken_lane b m rest l) ≡ cleared
  unfolding taken_replaying taken_lane taken_from with_lane
  drops t = rw (t, taken_replaying) refl

  still : (node_at held n).status ≡ replay
  unfolding with_lane holding
  still = ap (λ (x : Node). x.status) (node_there n (holding (held_of l.plan n b m) (node_at cleared n)) cleared (rw inv.shape.nodes_long inside)) ∙ replaying

  abbrev given : List Receipt
  given = receipts ++ record { receiver = n; what = m.what; sender = (channel_at l.plan b).sender } ∷ []

  -- The line before the replay may end: the node replays on, and but for what it holds only the message's channel has changed.
  pub record Again (k : Line) : Type 0 where
    pub kept : Inv k g cut base fed (receipts ++ record { receiver = (channel_at l.plan b).receiver; what = m.what; sender = (channel_at l.plan b).sender } ∷ []) crashes
    pub status : (node_at k (channel_at l.plan b).receiver).status ≡ replay
    pub targets : (node_at k (channel_at l.plan b).receiver).targets ≡ (node_at l (channel_at l.plan b).receiver).targets
    pub others : (j : ℕ) → j ≢ (channel_at l.plan b).receiver → node_at k j ≡ node_at l j
    pub lanes : k.lanes ≡ (with_lane b (record { mark = (lane_at l b).mark; taken = max (lane_at l b).taken m.time; heard = raise_heard (parents l.plan (sender_of l b)) (lane_at l b).heard m.origin; queue = rest; low = (lane_at l b).low }) l).lanes
    pub plan : k.plan ≡ l.plan
    pub steps : k.steps ≡ l.steps

  pub again : Again (taken_replaying b m (taken_lane b m rest l))
  unfolding with_node with_lane holding
  again = go (goes_on l.plan n m) refl
    where
      x : Node
      x = holding (held_of l.plan n b m) (node_at cleared n)

      go : (t : Bool) → goes_on l.plan n m ≡ t → Again (taken_replaying b m (taken_lane b m rest l))
      go true t =
          subst Again (sym (holds t))
          (record {
            kept = hold_inv l g cut base fed receipts crashes inv b here m rest heard first sender replaying open_row t;
            status = still;
            targets = ap (λ (y : Node). y.targets) (node_there n x cleared (rw inv.shape.nodes_long inside));
            others = node_else n x cleared;
            lanes = refl;
            plan = refl;
            steps = refl;
          })
      go false t =
          subst Again (sym (drops t))
          (record {
            kept = drop_inv l g cut base fed receipts crashes inv b here m rest heard first sender replaying open_row t;
            status = replaying;
            targets = refl;
            others = λ j d. refl;
            lanes = refl;
            plan = refl;
            steps = refl;
          })

  pub replay_take_inv : {k : Line} → EndsAs n (taken_replaying b m (taken_lane b m rest l)) k → Goes k base fed (receipts ++ record { receiver = n; what = m.what; sender = (channel_at l.plan b).sender } ∷ []) crashes
  replay_take_inv e = ended_inv (taken_replaying b m (taken_lane b m rest l)) g cut base fed given crashes again.kept n again.status (rw again.plan inside) e
