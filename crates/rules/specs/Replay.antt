-- A replay of node B: what is held, the replay table, and its end (document 01, "While B replays" and "Placing"). Here b is the node B and c a channel.
use Rattle.std.specs.Prelude.{ℕ, suc, Bool, true, false, cond, not, ◌&&◌, ◌||◌, List, [], ◌∷◌, ◌++◌, map, ltb, eqb}
use Rattle.std.proofs.Math.Option.{Option, none, some}
use Rattle.plan.specs.declared.Record.{Record}
use Rattle.plan.specs.Channel.{takes}
use Rattle.plan.specs.Plan.{Plan, channel_at, entering, is_sink}
use Rattle.plan.specs.Mask.{taking, set_of}
use Rattle.placing.specs.Item.{Item}
use Rattle.placing.specs.Table.{table_fits, bounds_fit, item_fits, fixed_fits, comes_after}
use Rattle.placing.specs.Walk.{walked, begun, rows_of, chosen_row, last_column}
use Rattle.placing.specs.Answer.{unplaceable, chosen_columns}
use Rattle.rules.specs.Lists.{is_empty, keep, all_of, any_of, joined, greatest_of}
use Rattle.rules.specs.Line.{made, Entry, Held, Target, up, Node, Line, node_at, lane_at, with_node}
use Rattle.rules.specs.Recover.{high_of, rows_complete}

-- Whether some channel that leaves node n takes a record (else it is dropped in a replay).
unfoldable pub passed_on : Plan → ℕ → Record → Bool
unfolding taking takes
passed_on p n r = not (is_empty (taking p n r))

-- 2026-08: "A record taken by a node that has leaving belts, when none of them takes it, raises the clock as before but gets no time of its own." All other records do; "Outfeeds log and count everything as before."
unfoldable pub timed : Plan → ℕ → Record → Bool
unfolding is_sink passed_on
timed p n r = is_sink p n || passed_on p n r

-- The time of what a node makes: its next one, or else its present one.
abbrev pub time_for : Plan → ℕ → Record → ℕ → ℕ
time_for p n r t = cond (timed p n r) (suc t) t

-- One more held record.
unfoldable pub holding : Held → Node → Node
holding h x = record { status = x.status; crashed = x.crashed; time = x.time; log = x.log; held = x.held ++ h ∷ []; targets = x.targets; asked = x.asked }

-- "A target is fixed at its B-time": the time of the target that a held record is, 0 if it is none.
abbrev pub fixed_at : List Target → Held → ℕ
fixed_at ts h = greatest_of (map (λ (t : Target). t.time) (keep (λ (t : Target). eqb t.parent h.sender && eqb t.parent_time h.time) ts))

-- "A free record's floor is the greatest entry for B among children whose belts take it."
unfoldable pub floor_of : Line → ℕ → Record → ℕ
unfolding taking takes
floor_of l b r = greatest_of (map (λ (c : ℕ). (lane_at l c).taken) (taking l.plan b r))

-- A held record as an item of the replay table: "fixed at its B-time with floor 0", or free above its floor.
unfoldable pub item_of : Line → ℕ → ℕ → Held → Item
unfolding floor_of
item_of l b row h =
    let f = fixed_at (node_at l b).targets h in
    record { row = row; time = h.time; fixed = f; floor = cond (eqb f 0) (floor_of l b h.what) 0 }

-- "The replay table lists items by row (0..3, parents in rising number), then by row time": what is held, row by row.
abbrev pub held_by_row : List Held → Line → List ℕ → List (List Held)
held_by_row hs l [] = []
held_by_row hs l (c ∷ cs) = keep (λ (h : Held). eqb h.sender (channel_at l.plan c).sender) hs ∷ held_by_row hs l cs

abbrev pub items_by_row : Line → ℕ → ℕ → List (List Held) → List Item
items_by_row l b row [] = []
items_by_row l b row (hs ∷ rest) = map (item_of l b row) hs ++ items_by_row l b (suc row) rest

abbrev pub held_rows : Line → ℕ → List (List Held)
held_rows l b = held_by_row (node_at l b).held l (entering l.plan b)

abbrev pub table_of : Line → ℕ → List Item
table_of l b = items_by_row l b 0 (held_rows l b)

-- "a target not held when rows are complete"
abbrev pub is_held : List Held → Target → Bool
is_held hs t = any_of (λ (h : Held). eqb h.sender t.parent && eqb h.time t.parent_time) hs

-- Held records "logged in order of column as their times".
abbrev pub entry_at : (Record → ℕ) → ℕ → Held → Entry
entry_at sets t h = record { what = h.what; time = t; origin = made h.sender h.time; before = h.before; set = sets h.what }

-- A held record seen as an entry that has neither time nor set yet.
abbrev pub held_entry : Held → Entry
held_entry = entry_at (λ (r : Record). 0) 0

abbrev pub add_entry : Entry → List Entry → List Entry
add_entry e [] = e ∷ []
add_entry e (d ∷ ds) = elim (ltb e.time d.time) [ true ↦ e ∷ d ∷ ds | false ↦ d ∷ add_entry e ds ]

abbrev pub placed_log : (Record → ℕ) → List Held → List ℕ → List Entry
placed_log sets [] columns = []
placed_log sets (h ∷ hs) [] = []
placed_log sets (h ∷ hs) (t ∷ columns) = add_entry (entry_at sets t h) (placed_log sets hs columns)

-- The columns that the placing gives a table, if it gives any.
unfoldable pub placing : ℕ → ℕ → List Item → Option (List ℕ)
unfolding table_fits bounds_fit item_fits fixed_fits comes_after unplaceable chosen_columns walked begun rows_of chosen_row last_column
placing low high table = elim (table_fits low high table && not (unplaceable low high table)) [ true ↦ some (chosen_columns low high table) | false ↦ none ]

-- The node once its held records are placed: "B's time becomes high, and B is up, targets and held list emptied".
unfoldable pub node_placed : Line → ℕ → List Held → List ℕ → Node
unfolding high_of set_of
node_placed l b hs columns = record { status = up; crashed = (node_at l b).crashed; time = high_of l b; log = placed_log (set_of l.plan b) hs columns; held = []; targets = []; asked = none }

-- The line with the held records at these columns.
abbrev pub placed_at : List ℕ → ℕ → Line → Line
placed_at columns b l = with_node b (node_placed l b (joined (held_rows l b)) columns) l

-- The replay's end: nothing where a target is not held or no placing exists.
unfoldable pub replay_end : ℕ → Line → Option Line
unfolding entering high_of item_of placing node_placed with_node
replay_end b l =
    let hs = (node_at l b).held in
    let rows = held_by_row hs l (entering l.plan b) in
    elim (all_of (is_held hs) (node_at l b).targets) [
      | false ↦ none
      | true ↦ elim (placing (node_at l b).time (high_of l b) (items_by_row l b 0 rows)) [
        | none ↦ none
        | some columns ↦ some (with_node b (node_placed l b (joined rows) columns) l)
      ]
    ]

-- "When all rows are complete, in that same step (a Recover too)": a line with node B replaying, ended if its rows are complete.
unfoldable pub ended_if_complete : ℕ → Line → Option Line
unfolding rows_complete replay_end
ended_if_complete b l = elim (rows_complete l b) [ true ↦ replay_end b l | false ↦ some l ]
