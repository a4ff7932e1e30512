-- A list with its count in front of its slots.
use Rattle.std.specs.Prelude.{ℕ, ◌+◌, ◌*◌, ◌≤◌, ◌<◌, List, length, take, drop}
use Rattle.plan.specs.Layout.{spelled}
use Rattle.slots.specs.declared.list.SlotList.{SlotList}

-- The count that stands at a place.
abbrev pub count_in : ℕ → List ℕ → ℕ
count_in a s = spelled 0 (take 4 (drop a s))

-- The list of a page or a block lies within the bytes, with all its slots.
pub record Whole (l : SlotList) (s : List ℕ) (from : ℕ) : Type 0 where
  pub long : length s < 65_536
  pub slots : from + l.at + 4 + l.slot * count_in (from + l.at) s ≤ length s
  pub size : l.slot < 65_536
  pub few : count_in (from + l.at) s < 65_536
