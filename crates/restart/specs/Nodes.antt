-- The node that Crash empties, and the one that Recover and Commit restore.
use Rattle.std.specs.Prelude.{ℕ, ◌≤◌, ◌<◌, ◌≡◌, true, List, [], length, get_or}
use Rattle.std.proofs.Math.Option.{none}
use Rattle.rules.specs.Line.{target_limit, down, Node, node_at}
use Rattle.rules.specs.Recover.{status_of}
use Rattle.state.specs.State.{line_of}
use Rattle.buffer.specs.Holds.{AtNode}
use Rattle.slots.specs.declared.Goal.{Goal}

abbrev pub emptied : Node → Node
emptied x = record { status = down; crashed = true; time = 0; log = []; held = []; targets = []; asked = none }

-- Restored, its targets written: the log and the held list of a node that is down are empty.
abbrev pub settled : ℕ → Node → Node
settled low x = record { status = status_of x.targets; crashed = x.crashed; time = low; log = x.log; held = x.held; targets = x.targets; asked = none }

-- A node that has no targets, and those that are to be written.
pub record Fillable (s : List ℕ) (n : ℕ) (targets : List Goal) : Type 0 where
  pub on : AtNode s n
  pub none : (node_at (line_of s) n).targets ≡ []
  pub few : length targets ≤ target_limit
  pub parents : (i : ℕ) (d : Goal) → i < length targets → (get_or targets i d).parent < 256
