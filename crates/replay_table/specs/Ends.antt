-- The end of a replay worked out before anything is written: of node n in a line l, with the held records that it is to have.
use Rattle.std.specs.Prelude.{ℕ, ◌≤◌, ◌<◌, ◌≡◌, List, [], map, length, get_or, Result, Ok, Err}
use Rattle.std.proofs.Math.Option.{none, some}
use Rattle.plan.specs.declared.Record.{Record}
use Rattle.plan.specs.Mask.{set_of}
use Rattle.answers.specs.declared.Refusal.{Refusal}
use Rattle.answers.specs.declared.Refusal.TheVariants.{NoPlacing}
use Rattle.rules.specs.Line.{Entry, Held, up, Line, node_at, lane_at, sender_of, with_node}
use Rattle.rules.specs.Recover.{high_of}
use Rattle.rules.specs.Replay.{entry_at, replay_end}
use Rattle.buffer.specs.Nothing.{no_held}
use Rattle.replay_table.specs.declared.PlacedRecord.{PlacedRecord}

-- A line in which node n holds these, and all that the end of its replay reads is as in l.
pub record AsIn (l : Line) (n : ℕ) (hs : List Held) (k : Line) : Type 0 where
  pub plan : k.plan ≡ l.plan
  pub held : (node_at k n).held ≡ hs
  pub targets : (node_at k n).targets ≡ (node_at l n).targets
  pub time : (node_at k n).time ≡ (node_at l n).time
  pub taken : (c : ℕ) → sender_of l c ≡ n → (lane_at k c).taken ≡ (lane_at l c).taken

-- The log by the held records' numbers and columns.
abbrev pub entry_from : (Record → ℕ) → List Held → PlacedRecord → Entry
entry_from sets hs x = entry_at sets x.column (get_or hs x.number no_held)

abbrev pub logged_from : (Record → ℕ) → List Held → List PlacedRecord → List Entry
logged_from sets hs xs = map (entry_from sets hs) xs

-- What stands past the end of a list of them.
abbrev pub no_placed : PlacedRecord
no_placed = record { number = 0; column = 0 }

-- The end found: what its log has.
pub record Ended (l : Line) (n : ℕ) (hs : List Held) (xs : List PlacedRecord) : Type 0 where
  pub now : (k : Line) → AsIn l n hs k
      → replay_end n k ≡ some (with_node n (record { status = up; crashed = (node_at k n).crashed; time = high_of k n; log = logged_from (set_of l.plan n) hs xs; held = []; targets = []; asked = none }) k)
  pub inside : (j : ℕ) → j < length xs → (get_or xs j no_placed).number < length hs
  pub few : length xs ≤ length hs

-- Or there is none: 24.
abbrev pub Ends : Line → ℕ → List Held → Result (List PlacedRecord) Refusal → Type 0
Ends l n hs (Ok xs) = Ended l n hs xs
Ends l n hs (Err r) = (r ≡ NoPlacing) × ((k : Line) → AsIn l n hs k → replay_end n k ≡ none)
