-- Ask keeps the invariant: what a down node keeps is read by nothing in it.
use Prim.Native.Nat.{ℕ, ◌<◌}
use mathlib.Core.Path.{◌≡◌, refl, sym, ap, subst, ◌∙◌}
use mathlib.Core.Logic.{◌≢◌}
use mathlib.Core.Bool.{true, false, true≢false}
use mathlib.Core.List.{List}
use native.Mathlib.Omega.{arith}
use native.Mathlib.Decide.{ℕ_discrete}
use lib.ListN.{length-set}
use Rattle.plan.specs.Plan.{node_count, channel_at}
use Rattle.rules.specs.Line.{Asked, Target, down, replay, Node, Line, node_at, with_node}
use Rattle.rules.specs.Step.{asking}
use Rattle.rules.specs.Plain.{Act, Receipt}
use Rattle.rules.proofs.Line.LineLaws.{node_there, node_else}
use Rattle.rules.proofs.Histories.Ghost.{Ghost}
use Rattle.rules.proofs.Invariant.Inv.{is_up, Room, Inv}
use Rattle.rules.proofs.Invariant.InvLaws.{up_not_down, replay_not_down, marked_unless_up, marked_took}
use Rattle.rules.proofs.Invariant.Stays.{everywhere, marks_stay, nodes_stay, channel_stays, ends_stay, events_stay, replays_stay}
use Rattle.rules.proofs.Lists.Members.{In}
use Rattle.rules.proofs.Invariant.Logs.{Grows, logged_stays}
use Rattle.rules.proofs.Invariant.Rooms.{room_stays}

module _ (l : Line) (g : Ghost) (cut base : ℕ → ℕ) (fed : List Act) (receipts : List Receipt) (crashes : List ℕ) (inv : Inv l g cut base fed receipts crashes) (n : ℕ) (here : n < node_count l.plan) (is_down_lem : (node_at l n).status ≡ down) (a : Asked) (ts : List Target) where
  abbrev x : Node
  x = asking a ts (node_at l n)

  abbrev after : Line
  after = with_node n (asking a ts (node_at l n)) l

  now : node_at after n ≡ x
  now = node_there n x l (rw inv.shape.nodes_long here)

  other : (m : ℕ) → m ≢ n → node_at after m ≡ node_at l m
  other = node_else n x l

  status : (m : ℕ) → (node_at after m).status ≡ (node_at l m).status
  unfolding with_node asking
  status = everywhere l l.steps after.nodes l.lanes n other (λ (y : Node). y.status) (ap (λ (y : Node). y.status) now)

  mark : (m : ℕ) → (node_at after m).crashed ≡ (node_at l m).crashed
  unfolding with_node asking
  mark = everywhere l l.steps after.nodes l.lanes n other (λ (y : Node). y.crashed) (ap (λ (y : Node). y.crashed) now)

  marked : (node_at l n).crashed ≡ true
  marked = marked_unless_up inv.marks n (λ q. up_not_down (sym q ∙ is_down_lem))

  -- A node that is up, or bears no mark, or replays, is another.
  up_other : (m : ℕ) → is_up after m → node_at after m ≡ node_at l m
  up_other m e = other m (λ q. up_not_down (sym (sym (status m) ∙ e) ∙ ap (λ (y : ℕ). (node_at l y).status) q ∙ is_down_lem))

  unmarked_other : (m : ℕ) → (node_at after m).crashed ≡ false → node_at after m ≡ node_at l m
  unmarked_other m e = other m (λ q. true≢false (sym (ap (λ (y : ℕ). (node_at l y).crashed) q ∙ marked) ∙ sym (mark m) ∙ e))

  replay_other : (m : ℕ) → (node_at after m).status ≡ replay → m ≢ n
  replay_other m e q = replay_not_down (sym (sym (status m) ∙ e) ∙ ap (λ (y : ℕ). (node_at l y).status) q ∙ is_down_lem)

  own_room : Room after g n
  unfolding with_node asking
  own_room =
      let r = inv.rooms n marked in
      record {
        least = r.least;
        below = r.below;
        few = rw now r.few;
        held_few = λ e. absurd (replay_other n e refl);
      }

  grows : Grows l after
  unfolding with_node
  grows = record { marks = λ m e. sym (mark m) ∙ e; entries = λ c h e. omega arith; lows = λ c h e. refl; entered = λ m e d i. subst (λ (y : Node). In d y.log) (sym (unmarked_other m e)) i }

  pub ask_inv : Inv (with_node n (asking a ts (node_at l n)) l) g cut base fed receipts crashes
  unfolding with_node
  ask_inv =
      record {
        shape = record { nodes_long = length-set l.nodes n x ∙ inv.shape.nodes_long; lanes_long = inv.shape.lanes_long };
        ordered = inv.ordered;
        marks = marks_stay l l.steps after.nodes l.lanes crashes status mark inv.marks;
        nodes = nodes_stay l l.steps after.nodes l.lanes unmarked_other (λ m e. refl) inv.nodes;
        logs = λ m e. logged_stays l l.steps after.nodes l.lanes grows g g m e (unmarked_other m e) refl (inv.logs m (sym (mark m) ∙ e));
        events = λ m. events_stay l l.steps after.nodes l.lanes g g m (up_other m) refl (inv.events m);
        channels = λ b h. channel_stays l l.steps after.nodes l.lanes g g b (status (channel_at l.plan b).sender) (status (channel_at l.plan b).receiver) refl refl (up_other (channel_at l.plan b).sender) cut cut refl refl (inv.channels b h);
        ends = λ b h. ends_stay l l.steps after.nodes l.lanes g g b (status (channel_at l.plan b).sender) (status (channel_at l.plan b).receiver) refl refl (mark (channel_at l.plan b).receiver) (inv.ends b h);
        replays = λ m e. replays_stay l l.steps after.nodes l.lanes g g m (other m (replay_other m e)) refl cut cut base base (λ c h. refl) (λ b y t i. refl) (λ b h. (refl, omega arith, refl, refl)) (inv.replays m (sym (status m) ∙ e));
        rooms = λ m e. elim (ℕ_discrete m n) [
          | yes q ↦ subst (Room after g) (sym q) own_room
          | no d ↦ (let old = sym (mark m) ∙ e in room_stays l l.steps after.nodes l.lanes g g m (other m d) refl (marked_took inv.marks inv.nodes m old) (λ c h. omega arith) (λ b h. omega arith) (inv.rooms m old))
        ];
      }
