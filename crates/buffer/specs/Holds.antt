-- A state that holds a line, and what a step leaves of it.
use Rattle.std.specs.Prelude.{ℕ, ◌<◌, ◌≡◌, ◌≢◌, false, List}
use Rattle.std.proofs.Math.Option.{some}
use Rattle.plan.specs.Plan.{plan_nodes, plan_channels}
use Rattle.rules.specs.Line.{Node, Lane, Line, node_at, lane_at, with_node, with_lane}
use Rattle.rules.specs.Frame.{Frame}
use Rattle.rules.specs.Step.{line_refusal, effect}
use Rattle.rules.specs.Damaged.{damaged}
use Rattle.state.specs.Fits.{LineFits}
use Rattle.state.specs.State.{line_bytes, line_of}
use Rattle.buffer.specs.Ready.{Ready}

-- The bytes are what the line is written as, and the line's numbers are ones that bytes can spell.
pub record Holds (s : List ℕ) (l : Line) : Type 0 where
  pub written : s ≡ line_bytes l
  pub fits : LineFits l
  pub same : line_of s ≡ l
  pub ready : Ready s

-- A node and a channel of a state that holds a line.
pub record AtNode (s : List ℕ) (n : ℕ) : Type 0 where
  pub holds : Holds s (line_of s)
  pub inside : n < plan_nodes s

pub record AtLane (s : List ℕ) (b : ℕ) : Type 0 where
  pub holds : Holds s (line_of s)
  pub below : b < plan_channels s

-- The state t afterwards: node n, or the lane of channel b, is changed and nothing else. What the next call asks of it holds again.
pub record NodeNow (s : List ℕ) (n : ℕ) (f : Node → Node) (t : List ℕ) : Type 0 where
  pub holds : Holds t (with_node n (f (node_at (line_of s) n)) (line_of s))
  pub on : AtNode t n

pub record LaneNow (s : List ℕ) (b : ℕ) (f : Lane → Lane) (t : List ℕ) : Type 0 where
  pub holds : Holds t (with_lane b (f (lane_at (line_of s) b)) (line_of s))
  pub on : AtLane t b

-- A state that holds an undamaged line.
pub record Undamaged (s : List ℕ) : Type 0 where
  pub holds : Holds s (line_of s)
  pub undamaged : damaged (line_of s) ≡ false

-- What a kind of step answers, whoever sent it, and the state t that it leaves, the step not yet counted: refused, the state s as it was.
pub record Did (s : List ℕ) (f : Frame) (t : List ℕ) (r : ℕ) : Type 0 where
  pub number : line_refusal (line_of s) f ≡ r
  pub refused : r ≢ 0 → t ≡ s
  pub done : r ≡ 0 → (k : Line) × ((effect (line_of s) f ≡ some k) × Holds t k)
