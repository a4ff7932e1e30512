-- What stands in the numbers that Recover finds of a node.
use Rattle.std.specs.Prelude.{ℕ, ◌≡◌, List, Result}
use Rattle.answers.specs.declared.Refusal.{Refusal}
use Rattle.rules.specs.Line.{Target}
use Rattle.rules.specs.Recover.{low_of, restored, targets_of}
use Rattle.state.specs.State.{line_of}
use Rattle.buffer.specs.Rows.{Rows}
use Rattle.recover.specs.declared.told.Found.{Found}
use Rattle.recover.specs.Found.{Gained, GainedOn}

pub record Finds (s : List ℕ) (n : ℕ) (found : Found) : Type 0 where
  pub low : found.low ≡ low_of (line_of s) n
  pub targets : found.targets ≡ targets_of (line_of s) n
  pub rows : Rows found.entries (restored (line_of s) n)

-- Told some triples: they are in what is found, whose low stays, or the targets are too many; the entries are raised then, too.
pub record Told {A : Type 0} (ts : List Target) (before : Found) (r : Result A Refusal) (after : Found) : Type 0 where
  pub low : after.low ≡ before.low
  pub gained : Gained before.low ts before.targets before.entries r after.targets after.entries

-- Told what channel b tells of node n.
pub record ToldOn {A : Type 0} (s : List ℕ) (n b : ℕ) (before : Found) (r : Result A Refusal) (after : Found) : Type 0 where
  pub low : after.low ≡ before.low
  pub gained : GainedOn s n b before.low before.targets before.entries r after.targets after.entries
