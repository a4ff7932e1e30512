-- A step of a state that holds an undamaged line.
use Rattle.std.specs.Prelude.{ℕ, ◌≡◌, List}
use Rattle.rules.specs.Step.{refusal, step}
use Rattle.state.specs.State.{line_bytes, line_of}
use Rattle.buffer.specs.Holds.{Undamaged}

-- The number is the rules', the state left is what the rules' step leaves, refused or not, and it holds an undamaged line again.
pub record Stepped (s frame t : List ℕ) (r : ℕ) : Type 0 where
  pub number : r ≡ refusal (line_of s) frame
  pub left : t ≡ line_bytes (step (line_of s) frame).line
  pub undamaged : Undamaged t
