-- One more step counted keeps the invariant.
use Prim.Native.Nat.{ℕ}
use mathlib.Core.Path.{refl}
use mathlib.Core.List.{List}
use native.Mathlib.Omega.{arith}
use Rattle.rules.specs.Line.{Line, one_more, counted}
use Rattle.rules.specs.Plain.{Act, Receipt}
use Rattle.rules.proofs.Histories.Ghost.{Ghost}
use Rattle.rules.proofs.Invariant.Inv.{Inv}
use Rattle.rules.proofs.Invariant.InvLaws.{marked_took}
use Rattle.rules.proofs.Invariant.Stays.{marks_stay, nodes_stay, events_stay, channel_stays, ends_stay, replays_stay}
use Rattle.rules.proofs.Invariant.Logs.{logged_stays}
use Rattle.rules.proofs.Invariant.Rooms.{room_stays}

pub counted_inv : (c : ℕ) {l : Line} {g : Ghost} {cut base : ℕ → ℕ} {fed : List Act} {receipts : List Receipt} {crashes : List ℕ} → Inv l g cut base fed receipts crashes → Inv (counted c l) g cut base fed receipts crashes
unfolding counted
counted_inv c {l} {g} {cut} {base} {fed} {receipts} {crashes} inv =
    let steps = one_more c l.steps in
    let nodes = l.nodes in
    let lanes = l.lanes in
    record {
      shape = record { nodes_long = inv.shape.nodes_long; lanes_long = inv.shape.lanes_long };
      ordered = inv.ordered;
      marks = marks_stay l steps nodes lanes crashes (λ m. refl) (λ m. refl) inv.marks;
      nodes = nodes_stay l steps nodes lanes (λ m e. refl) (λ m e. refl) inv.nodes;
      logs = λ m e. logged_stays l steps nodes lanes (record { marks = λ x s. s; entries = λ b h s. omega arith; lows = λ b h s. refl; entered = λ x s d i. i }) g g m e refl refl (inv.logs m e);
      events = λ m. events_stay l steps nodes lanes g g m (λ _. refl) refl (inv.events m);
      channels = λ b h. channel_stays l steps nodes lanes g g b refl refl refl refl (λ _. refl) cut cut refl refl (inv.channels b h);
      ends = λ b h. ends_stay l steps nodes lanes g g b refl refl refl refl refl (inv.ends b h);
      replays = λ m e. replays_stay l steps nodes lanes g g m refl refl cut cut base base (λ c h. refl) (λ b x t i. refl) (λ b h. (refl, omega arith, refl, refl)) (inv.replays m e);
      rooms = λ m e. room_stays l steps nodes lanes g g m refl refl (marked_took inv.marks inv.nodes m e) (λ c h. omega arith) (λ b h. omega arith) (inv.rooms m e);
    }
