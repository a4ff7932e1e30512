-- The laws of a line in which a replay may end (EndsAs), of the step itself: it goes on as `ended_if_complete` says, at the chosen columns.
use Prim.Native.Nat.{ℕ, ◌<◌}
use mathlib.Core.Path.{◌≡◌}
use mathlib.Core.Logic.{◌≢◌}
use mathlib.Core.Bool.{false}
use mathlib.Core.List.{List, [], ◌∷◌, ◌++◌}
use mathlib.Core.Option.{some}
use lib.ListN.{length}
use Rattle.plan.specs.declared.Record.{Record}
use Rattle.plan.specs.Plan.{channel_at, node_count, channel_count}
use Rattle.rules.specs.Lists.{joined}
use Rattle.rules.specs.Line.{Message, Held, up, replay, Line, node_at, lane_at}
use Rattle.rules.specs.Recover.{row_goal, rows_complete}
use Rattle.rules.specs.Replay.{items_by_row, placed_log, placing, ended_if_complete}
use Rattle.rules.specs.Step.{taken_lane, taken_replaying}
use Rattle.rules.specs.Plain.{Act, Receipt}
use Rattle.rules.proofs.Histories.Ghost.{Ghost}
use Rattle.rules.proofs.Invariant.Inv.{Inv, is_up}
use Rattle.rules.proofs.Invariant.Limits.{Limits, OpenAt, Steady}
use Rattle.rules.proofs.Ending.Ends.{ended_as}
use Rattle.rules.proofs.Ending.EndInv as EndInv
use Rattle.rules.proofs.Ending.EndInv.{Goes}
use Rattle.rules.proofs.Ending.ReplayTakeInv as ReplayTakeInv
use Rattle.rules.proofs.Theorem.SteadyKept as SteadyKept
use Rattle.rules.proofs.Undamaged.Standing.{Standing, Stopped, Sound}
use Rattle.rules.proofs.Undamaged.PlacedLog as PlacedLog
use Rattle.rules.proofs.Undamaged.PlacedLog.{LogPlaced, placing-keeps}
use Rattle.rules.proofs.Undamaged.EndSound as EndSound

pub log_placed : (sets : Record → ℕ) (l : Line) (b : ℕ) (rows : List (List Held)) (low high : ℕ) (columns : List ℕ) → placing low high (items_by_row l b 0 rows) ≡ some columns → LogPlaced low high (placed_log sets (joined rows) columns)
log_placed sets l b rows low high columns e =
    let (keeps, few) = placing-keeps low high (items_by_row l b 0 rows) columns e in
    PlacedLog.log_placed sets l b rows low high columns keeps few

module _ (l : Line) (g : Ghost) (cut base : ℕ → ℕ) (fed : List Act) (receipts : List Receipt) (crashes : List ℕ) (inv : Inv l g cut base fed receipts crashes) (n : ℕ) (replaying : (node_at l n).status ≡ replay) (inside : n < node_count l.plan) where
  pub ended_inv : (k : Line) → ended_if_complete n l ≡ some k → Goes k base fed receipts crashes
  ended_inv k e = EndInv.ended_inv l g cut base fed receipts crashes inv n replaying inside (ended_as n l k e)

module _ (l : Line) (g : Ghost) (cut base : ℕ → ℕ) (fed : List Act) (receipts : List Receipt) (crashes : List ℕ) (inv : Inv l g cut base fed receipts crashes)
    (b : ℕ) (here : b < channel_count l.plan) (m : Message) (rest : List Message) (first : (lane_at l b).queue ≡ m ∷ rest) (sender : is_up l (channel_at l.plan b).sender)
    (replaying : (node_at l (channel_at l.plan b).receiver).status ≡ replay) (open_row : (lane_at l b).taken < row_goal (node_at l (channel_at l.plan b).receiver).targets (channel_at l.plan b).sender) where
  abbrev n : ℕ
  n = (channel_at l.plan b).receiver

  pub replay_take_inv : (k : Line) → ended_if_complete n (taken_replaying b m (taken_lane b m rest l)) ≡ some k → Goes k base fed (receipts ++ record { receiver = n; what = m.what; sender = (channel_at l.plan b).sender } ∷ []) crashes
  replay_take_inv k e = ReplayTakeInv.replay_take_inv l g cut base fed receipts crashes inv b here m rest first sender replaying open_row (ended_as n (taken_replaying b m (taken_lane b m rest l)) k e)

module _ (n : ℕ) (l : Line) (inside : n < length l.nodes) (s : Limits 1 l) (others : (m : ℕ) → m ≢ n → OpenAt l m) where
  pub ended_steady : (k : Line) → ended_if_complete n l ≡ some k → Steady 1 k
  ended_steady k e = SteadyKept.ended_steady n l inside s others (ended_as n l k e)

module _ (l : Line) (s : Standing l) (n : ℕ) (inside : n < node_count l.plan) (again : (node_at l n).status ≡ replay) (others : (m : ℕ) → m < node_count l.plan → m ≢ n → (node_at l m).status ≢ up → Stopped l m) where
  pub ended_sound : (rows_complete l n ≡ false → Stopped l n) → (k : Line) → ended_if_complete n l ≡ some k → Sound k
  ended_sound own k e = EndSound.ended_sound l s n inside again others own (ended_as n l k e)
