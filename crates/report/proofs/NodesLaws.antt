-- The numbers of a line's nodes.
use Prim.Native.Nat.{ℕ, zero, suc, ◌+◌, ◌<◌}
use mathlib.Core.Path.{◌≡◌, refl, sym, ap, ◌∙◌}
use mathlib.Core.List.{List}
use native.Mathlib.Nat.{add-zero, zero-add}
use native.Mathlib.Omega.{arith}
use lib.ListN.{length, get_or}
use Rattle.plan.specs.Plan.{plan_nodes, node_count}
use Rattle.rules.specs.Lists.{up_to}
use Rattle.rules.specs.Line.{node_numbers}
use Rattle.state.specs.State.{line_of}
use Rattle.buffer.specs.Holds.{Holds}
use Rattle.buffer.proofs.HoldsLaws.{holds-nodes}

up_long : (k n : ℕ) → length (up_to k n) ≡ n
up_long k zero = refl
up_long k (suc n) = ap suc (up_long (suc k) n)

up_at : (k n i : ℕ) → i < n → get_or (up_to k n) i 0 ≡ k + i
up_at k zero i h = let no : ⊥ = omega arith in absurd no
up_at k (suc n) zero h = sym (add-zero k)
up_at k (suc n) (suc i) h = up_at (suc k) n i (omega arith) ∙ omega arith

module _ (s : List ℕ) (h : Holds s (line_of s)) where
  pub numbers_long : length (node_numbers (line_of s)) ≡ plan_nodes s
  numbers_long = up_long 0 (node_count (line_of s).plan) ∙ sym (holds-nodes h)

  pub number_at : (i : ℕ) → i < plan_nodes s → get_or (node_numbers (line_of s)) i 0 ≡ i
  number_at i p = up_at 0 (node_count (line_of s).plan) i (omega (arith, holds-nodes h)) ∙ zero-add i
