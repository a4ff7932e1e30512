-- What Recover finds of a node, and the rows of a kept answer.
use Rattle.std.specs.Prelude.{ℕ, ◌<◌, ◌≡◌, List, get_or, Result, Ok, Err, IfOk}
use Rattle.std.proofs.Math.Option.{some}
use Rattle.plan.specs.Plan.{Plan, node_count, channel_count, channel_at, entering}
use Rattle.rules.specs.Line.{down, Asked, node_at}
use Rattle.rules.specs.Frame.{recover}
use Rattle.rules.specs.Recover.{recovered, beside}
use Rattle.rules.specs.Step.{line_refusal, effect}
use Rattle.state.specs.State.{line_of}
use Rattle.recover.specs.declared.told.Found.{Found}
use Rattle.recover.specs.Finds.{Finds}
use Rattle.answers.specs.declared.Refusal.{Refusal}
use Rattle.answers.specs.Number.{number}

-- The node is down, and what is found are the numbers that restore it.
pub record Restores (s : List ℕ) (n : ℕ) (found : Found) : Type 0 where
  pub inside : n < node_count (line_of s).plan
  pub stopped : (node_at (line_of s) n).status ≡ down
  pub leads : effect (line_of s) (recover n) ≡ some (recovered n (line_of s))
  pub finds : Finds s n found

-- What a call that fills what is lent gives: what stands in it then, or its refusal.
abbrev pub filled : Result (Unit {0}) Refusal → Found → Result Found Refusal
filled (Ok u) found = Ok found
filled (Err e) found = Err e

-- So it is, or Recover is refused with this number.
pub record Restoring (s : List ℕ) (n : ℕ) (r : Result Found Refusal) : Type 0 where
  pub number : line_refusal (line_of s) (recover n) ≡ number r
  pub restores : IfOk r (Restores s n)

-- The entries of a kept answer, by the parents' numbers.
abbrev pub KeptRows : Plan → ℕ → Asked → List ℕ → Type 0
KeptRows p n a entries = (c : ℕ) → c < channel_count p → (channel_at p c).receiver ≡ n → get_or entries (channel_at p c).sender 0 ≡ beside (entering p n) a.entries c
