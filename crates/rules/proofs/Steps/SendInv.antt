-- Send keeps the invariant: only the mark and the queue of its channel move.
use Prim.Native.Nat.{ℕ, ◌<◌}
use mathlib.Core.Path.{◌≡◌, refl, sym, ap, subst, ◌∙◌}
use mathlib.Core.Logic.{◌≢◌}
use mathlib.Core.Bool.{Bool, true, false, ◌&&◌}
use mathlib.Core.List.{List, [], ◌∷◌, map}
use mathlib.Core.Option.{Option, none, some}
use native.Mathlib.Omega.{arith}
use native.Mathlib.Decide.{ℕ_discrete}
use lib.Dec.{ltb}
use Rattle.plan.specs.declared.Channel.{Channel}
use Rattle.plan.specs.Channel.{takes}
use Rattle.plan.specs.Plan.{channel_at, channel_count}
use Rattle.rules.specs.Lists.{keep, keep_one}
use Rattle.rules.specs.Line.{parents, Message, Entry, down, Lane, Line, node_at, lane_at, with_lane}
use Rattle.rules.specs.Clock.{entry_for, next_to_send, sent_on, message_of}
use Rattle.rules.specs.Step.{sendable}
use Rattle.rules.specs.Plain.{Act, Receipt}
use Rattle.rules.proofs.Lists.Rising.{past}
use Rattle.rules.proofs.Line.LineLaws.{lane_there, lane_else}
use Rattle.rules.proofs.Histories.Ghost.{Ghost, log_put}
use Rattle.rules.proofs.Invariant.Inv.{Inv, time_of, is_up, Channels, Ends}
use Rattle.rules.proofs.Invariant.InvLaws.{ends_up, marked_took}
use Rattle.rules.proofs.Invariant.Grow.{sender_sends, sender_same}
use Rattle.rules.proofs.Invariant.Stays.{heard_same, shape_beside, marks_stay, nodes_stay, channel-beside, ends_stay, events_stay, replays_stay}
use Rattle.rules.proofs.Invariant.Logs.{Grows, logged_stays}
use Rattle.rules.proofs.Invariant.Rooms.{room_stays}

-- An entry whose message is the first of some, or none where there is none.
abbrev pub First : Option Entry → List Message → Type 0
First none ms = ms ≡ []
First (some e) ms = (rest : List Message) × (ms ≡ message_of e ∷ rest)

first_past : (c : Channel) (mark : ℕ) (log : List Entry) → First (next_to_send c mark log) (past time_of mark (keep (λ (m : Message). takes c m.what) (map message_of log)))
first_past c mark [] = refl
first_past c mark (d ∷ log) = one (ltb mark d.time) (takes c d.what) refl (first_past c mark log)
  where
    taken : List Message
    taken = keep (λ (m : Message). takes c m.what) (map message_of log)

    one : (late fits : Bool) → ltb mark d.time ≡ late → First (next_to_send c mark log) (past time_of mark (keep (λ (m : Message). takes c m.what) (map message_of log)))
        → First (elim (late && fits) [ true ↦ some d | false ↦ next_to_send c mark log ]) (past time_of mark (keep_one fits (message_of d) (keep (λ (m : Message). takes c m.what) (map message_of log))))
    one true true e ih = (past time_of mark taken, ap (λ (t : Bool). keep_one t (message_of d) (past time_of mark taken)) e)
    one true false e ih = ih
    one false true e ih = rw e ih
    one false false e ih = ih

-- What can be sent is the first message past the mark that the channel takes.
pub sendable_first : (l : Line) (b : ℕ) → First (sendable l b) (past time_of (lane_at l b).mark (log_put l b))
unfolding sendable log_put
sendable_first l b = first_past (channel_at l.plan b) (lane_at l b).mark (node_at l (channel_at l.plan b).sender).log

module _ (l : Line) (g : Ghost) (cut base : ℕ → ℕ) (fed : List Act) (receipts : List Receipt) (crashes : List ℕ) (inv : Inv l g cut base fed receipts crashes)
    (b : ℕ) (e : Entry) (here : b < channel_count l.plan) (first : sendable l b ≡ some e) (sender : is_up l (channel_at l.plan b).sender) (receiver : (node_at l (channel_at l.plan b).receiver).status ≢ down) where
  abbrev sent : Lane
  sent = sent_on e (lane_at l b)

  abbrev after : Line
  after = with_lane b (sent_on e (lane_at l b)) l

  lane_now : lane_at after b ≡ sent
  lane_now = lane_there b sent l (rw inv.shape.lanes_long here)

  own_channel : Channels after g cut b
  unfolding with_lane sent_on log_put
  own_channel =
      let k = inv.channels b here in
      let (rest, next) = subst (λ (o : Option Entry). First o (past time_of (lane_at l b).mark (log_put l b))) first (sendable_first l b) in
      record {
        rises = k.rises;
        cut_is = k.cut_is;
        cut_up = λ h. k.cut_up h ∙ ap (λ (x : Lane). x.taken) (sym lane_now);
        sender_up = λ h. sender_same refl (sym lane_now) refl refl refl (sender_sends (message_of e) rest receiver k.rises next (k.sender_up sender));
      }

  taken_same : (c : ℕ) → (lane_at after c).taken ≡ (lane_at l c).taken
  unfolding sent_on
  taken_same c =
      elim (ℕ_discrete c b) [
        | yes q ↦ ap (λ (x : ℕ). (lane_at after x).taken) q ∙ ap (λ (x : Lane). x.taken) lane_now ∙ ap (λ (x : ℕ). (lane_at l x).taken) (sym q)
        | no d ↦ ap (λ (x : Lane). x.taken) (lane_else b sent l c d)
      ]

  own_ends : Ends after g b
  unfolding with_lane sent_on
  own_ends = ends_up sender (λ m. taken_same b ∙ (inv.ends b here).exact m) (λ m a. heard_same ((inv.ends b here).through m a) (ap (λ (x : Lane). entry_for a (parents l.plan (channel_at l.plan b).sender) x.heard) (sym lane_now)) refl)

  low_same : (c : ℕ) → (lane_at after c).low ≡ (lane_at l c).low
  unfolding sent_on
  low_same c =
      elim (ℕ_discrete c b) [
        | yes q ↦ ap (λ (x : ℕ). (lane_at after x).low) q ∙ ap (λ (x : Lane). x.low) lane_now ∙ ap (λ (x : ℕ). (lane_at l x).low) (sym q)
        | no d ↦ ap (λ (x : Lane). x.low) (lane_else b sent l c d)
      ]

  send_grows : Grows l (with_lane b (sent_on e (lane_at l b)) l)
  unfolding with_lane
  send_grows = record { marks = λ m s. s; entries = λ c h s. omega (arith, taken_same c); lows = λ c h s. low_same c; entered = λ m s d i. i }

  pub send_inv : Inv (with_lane b (sent_on e (lane_at l b)) l) g cut base fed receipts crashes
  unfolding with_lane
  send_inv =
      record {
        shape = shape_beside b sent inv.shape;
        ordered = inv.ordered;
        marks = marks_stay l l.steps l.nodes after.lanes crashes (λ n. refl) (λ n. refl) inv.marks;
        nodes = nodes_stay l l.steps l.nodes after.lanes (λ n e. refl) (λ n e. refl) inv.nodes;
        logs = λ n s. logged_stays l l.steps l.nodes after.lanes send_grows g g n s refl refl (inv.logs n s);
        events = λ n. events_stay l l.steps l.nodes after.lanes g g n (λ _. refl) refl (inv.events n);
        channels = λ c h. elim (ℕ_discrete c b) [ yes q ↦ subst (Channels after g cut) (sym q) own_channel | no d ↦ channel-beside l g cut b c sent d (inv.channels c h) ];
        ends = λ c h. elim (ℕ_discrete c b) [ yes q ↦ subst (Ends after g) (sym q) own_ends | no d ↦ ends_stay l l.steps l.nodes after.lanes g g c refl refl (lane_else b sent l c d) refl refl (inv.ends c h) ];
        replays = λ n q. replays_stay l l.steps l.nodes after.lanes g g n refl refl cut cut base base (λ c h. taken_same c) (λ c y t i. refl) (λ c h. (taken_same c, omega arith, refl, refl)) (inv.replays n q);
        rooms = λ n q. room_stays l l.steps l.nodes after.lanes g g n refl refl (marked_took inv.marks inv.nodes n q) (λ c h. omega (arith, taken_same c)) (λ c h. omega (arith, taken_same c)) (inv.rooms n q);
      }
