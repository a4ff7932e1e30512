-- A number for each node of a plan, which has at most 12.
use Rattle.std.specs.Prelude.{ℕ, ◌<◌, ◌≡◌, List, length, get_or}

abbrev pub rows_long : ℕ
rows_long = 12

-- What stands for each node is as a function says.
pub record Rows (rows : List ℕ) (f : ℕ → ℕ) : Type 0 where
  pub long : length rows ≡ rows_long
  pub each : (q : ℕ) → q < rows_long → get_or rows q 0 ≡ f q
