-- Words of the marker's inner functions.
use Rattle.std.specs.Prelude.{ℕ, ◌<◌, ◌≡◌, Bool, List, length}
use Rattle.std.specs.declared.option.Option as rust
use Rattle.std.specs.declared.option.Option.TheVariants.{None, Some}
use Rattle.std.proofs.Math.Option.{Option, none, some}
use Rattle.placing.specs.Item.{items_of}
use Rattle.marking.specs.Mark.{clashes, first_broken}

-- Whether item k clashes with one of the first j, in the tables with these rows.
abbrev pub Beside : List ℕ → List ℕ → ℕ → ℕ → Bool → Type 0
Beside rows columns k j found = (times fixed floors : List ℕ) → found ≡ clashes (items_of rows times fixed floors) columns k j

-- A place, or none.
abbrev pub place_of : rust.Option ℕ → Option ℕ
place_of None = none
place_of (Some k) = some k

-- A place among n items, or none.
abbrev pub WithinItems : ℕ → rust.Option ℕ → Type 0
WithinItems n None = Unit {0}
WithinItems n (Some k) = k < n

-- The first that breaks a rule among all items, whatever their times.
abbrev pub FoundBy : ℕ → ℕ → List ℕ → List ℕ → List ℕ → List ℕ → rust.Option ℕ → Type 0
FoundBy low high rows fixed floors columns o = WithinItems (length rows) o × ((times : List ℕ) → place_of o ≡ first_broken low high (items_of rows times fixed floors) columns 0 (length rows))

-- Slices of one length.
pub record Aligned (rows fixed floors columns : List ℕ) : Type 0 where
  pub fixed_long : length fixed ≡ length rows
  pub floors_long : length floors ≡ length rows
  pub columns_long : length columns ≡ length rows
