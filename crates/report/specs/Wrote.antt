-- A text written into a buffer.
use Rattle.std.specs.Prelude.{ℕ, ◌+◌, ◌≤◌, ◌≡◌, List, length}
use Rattle.basics.specs.Put.{put}

-- The buffer s becomes t: the text stands at a place, r is the place behind it, and nothing else has changed. It is no longer than so many bytes.
pub record Wrote (most : ℕ) (s : List ℕ) (at : ℕ) (text t : List ℕ) (r : ℕ) : Type 0 where
  pub left : t ≡ put s at text
  pub end : r ≡ at + length text
  pub short : length text ≤ most
  pub within : r ≤ length s
  pub same : length t ≡ length s
