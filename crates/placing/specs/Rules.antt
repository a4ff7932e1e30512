-- What a placing keeps (document 01, "Placing").
use Rattle.std.specs.Prelude.{ℕ, ◌<◌, ◌≤◌, ◌≢◌, ◌≡◌, List, length, get_or}
use Rattle.placing.specs.Item.{Item, item_at}

-- "A placing gives distinct columns, rising along each row, fixed items at theirs, free ones above their floors."
-- "Columns run from low + 1 to high." The table lists each row's items in rising order.
pub record KeepsRules (low high : ℕ) (table : List Item) (columns : List ℕ) : Type 0 where
  pub one_each : length columns ≡ length table
  pub inside : (k : ℕ) → k < length table → (low < get_or columns k 0) × (get_or columns k 0 ≤ high)
  pub distinct : (j k : ℕ) → j < k → k < length table → get_or columns j 0 ≢ get_or columns k 0
  pub rising : (j k : ℕ) → j < k → k < length table → (item_at table j).row ≡ (item_at table k).row → get_or columns j 0 < get_or columns k 0
  pub fixed : (k : ℕ) → k < length table → (item_at table k).fixed ≢ 0 → get_or columns k 0 ≡ (item_at table k).fixed
  pub free : (k : ℕ) → k < length table → (item_at table k).fixed ≡ 0 → (item_at table k).floor < get_or columns k 0
