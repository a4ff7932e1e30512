-- The parents that are listed, and whose entries for them.
use Rattle.std.specs.Prelude.{ℕ, zero, suc, ◌<◌, ◌≡◌, List, [], map, length, get_or}
use Rattle.std.proofs.Math.Option.{Option, none, some}
use Rattle.plan.specs.Plan.{plan_of, plan_channels, channel_at, entering}
use Rattle.rules.specs.Line.{Asked, Line, node_at, lane_at}
use Rattle.state.specs.State.{line_of}
use Rattle.report.specs.declared.Heard.{Heard}
use Rattle.report.specs.declared.Heard.TheVariants.{Itself, Through, Kept}

-- A kept answer's entries.
abbrev pub entries_of : Option Asked → List ℕ
entries_of none = []
entries_of (some a) = a.entries

-- The node's own: what it has taken. A child's: what it has heard through its channel from the node. Those of the node's kept answer.
unfoldable pub times_of : Line → ℕ → Heard → List ℕ
times_of l n Itself = map (λ (b : ℕ). (lane_at l b).taken) (entering l.plan n)
times_of l n (Through c) = (lane_at l c).heard
times_of l n Kept = entries_of (node_at l n).asked

-- The channel that entries are heard through is one of the plan's, and leaves the node; an answer is kept.
abbrev pub HeardAt : List ℕ → ℕ → Heard → Type 0
HeardAt s n Itself = Unit
HeardAt s n (Through c) = (c < plan_channels s) × ((channel_at (plan_of s) c).sender ≡ n)
HeardAt s n Kept = (a : Asked) × ((node_at (line_of s) n).asked ≡ some a)

-- What stands before the parent at a place: a byte before the first, else a space.
abbrev pub separator_at : ℕ → ℕ → ℕ
separator_at first zero = first
separator_at first (suc place) = 32

-- A parent's channel, at its place among those that enter the node.
pub record ParentAt (s : List ℕ) (n place channel : ℕ) : Type 0 where
  pub inside : place < length (entering (plan_of s) n)
  pub is : channel ≡ get_or (entering (plan_of s) n) place 0
  pub below : channel < plan_channels s
