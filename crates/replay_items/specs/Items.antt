-- What the end of a replay is asked of, its targets and the replay table as the code lists them.
use Rattle.std.specs.Prelude.{ℕ, suc, ◌≤◌, ◌<◌, ◌≡◌, Bool, true, false, ◌&&◌, List, [], ◌∷◌, ◌++◌, map, length, get_or, take, eqb, Option, None, Some}
use Rattle.plan.specs.Plan.{plan_of, keep_if, numbers_from, leaving}
use Rattle.plan.specs.Mask.{listed}
use Rattle.placing.specs.Item.{Item}
use Rattle.rules.specs.Line.{held_limit, Held, Target, Line, node_at, sender_of}
use Rattle.rules.specs.Recover.{conflict}
use Rattle.rules.specs.Replay.{item_of}
use Rattle.state.specs.State.{line_of}
use Rattle.slots.specs.declared.Waiting.{Waiting}
use Rattle.slots.specs.Slots.{held_is}
use Rattle.buffer.specs.Holds.{AtNode}
use Rattle.buffer.specs.Nothing.{no_held, no_target}
use Rattle.replay_items.specs.declared.Ending.{Ending}
use Rattle.replay_items.specs.declared.Listed.{Listed}

-- ---- what is asked

-- One more held record, if there is one; the held records and that one.
abbrev pub one_more : Option Waiting → List Held
one_more None = []
one_more (Some h) = held_is h ∷ []

abbrev pub held_with : Line → ℕ → Option Waiting → List Held
held_with l n last = (node_at l n).held ++ one_more last

-- The held records that the node is to have: so many of them, from the first on.
abbrev pub held_by : List ℕ → Ending → List Held
held_by s e = take e.held (held_with (line_of s) e.node e.last)

pub record Asked (s : List ℕ) (e : Ending) : Type 0 where
  pub node : AtNode s e.node
  pub leaving : listed e.leaving ≡ leaving (plan_of s) e.node
  pub targets : e.targets.now ≡ (node_at (line_of s) e.node).targets
  pub counted : e.held ≤ length (held_with (line_of s) e.node e.last)
  pub few : e.held ≤ held_limit
  pub agreed : conflict (node_at (line_of s) e.node).targets ≡ false

-- ---- looked for

-- The first of a list's from a place on that passes a test: there is none, or it stands at i.
abbrev pub FoundFrom : {A : Type 0} → (A → Bool) → A → List A → ℕ → Option ℕ → Type 0
FoundFrom f d xs from None = (j : ℕ) → from ≤ j → j < length xs → f (get_or xs j d) ≡ false
FoundFrom f d xs from (Some i) = (from ≤ i) × (i < length xs) × (f (get_or xs i d) ≡ true)

-- Whether a target is a held record.
abbrev pub is_target : Held → Target → Bool
is_target h t = eqb t.parent h.sender && eqb t.parent_time h.time

-- A place of a target, or none, and the time there.
abbrev pub IsPlace : List Target → Option ℕ → Type 0
IsPlace ts None = Unit {0}
IsPlace ts (Some i) = i < length ts

abbrev pub time_at : List Target → Option ℕ → ℕ
time_at ts None = 0
time_at ts (Some i) = (get_or ts i no_target).time

-- ---- the replay table

-- A place of the table: its row, and the number of its held record.
pub record Slot : Type 0 where
  pub row : ℕ
  pub number : ℕ

abbrev pub slot_held : List Held → Slot → Held
slot_held hs x = get_or hs x.number no_held

abbrev pub slot_item : Line → ℕ → List Held → Slot → Item
slot_item l n hs x = item_of l n x.row (slot_held hs x)

-- What the table has there.
abbrev pub listed_of : Line → ℕ → List Held → Slot → Listed
listed_of l n hs x = record { row = x.row; time = (slot_item l n hs x).time; fixed = (slot_item l n hs x).fixed; floor = (slot_item l n hs x).floor; number = x.number }

-- A held record's place, if it is of the parent's row; the places of that row, and of all rows.
abbrev pub slot_of : ℕ → ℕ → Slot
slot_of row i = record { row = row; number = i }

abbrev pub one_slot : List Held → ℕ → ℕ → ℕ → List Slot
one_slot hs parent row i = map (slot_of row) (keep_if (eqb (get_or hs i no_held).sender parent) i [])

abbrev pub row_slots : List Held → ℕ → ℕ → List Slot
row_slots hs parent row = map (slot_of row) (numbers_from 0 (λ (h : Held). eqb h.sender parent) hs)

abbrev pub slots_from : Line → List Held → ℕ → List ℕ → List Slot
slots_from l hs row [] = []
slots_from l hs row (c ∷ cs) = row_slots hs (sender_of l c) row ++ slots_from l hs (suc row) cs
