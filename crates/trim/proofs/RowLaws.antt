-- What stands for each node, changed node by node.
use Prim.Native.Nat.{ℕ, ◌+◌, ◌≤◌, ◌<◌}
use mathlib.Core.Path.{◌≡◌, ◌∙◌}
use mathlib.Core.Logic.{◌≢◌, inl, inr}
use mathlib.Core.List.{List}
use native.Mathlib.Decide.{ℕ_discrete}
use native.Mathlib.Omega.{arith}
use lib.ListN.{length, get_or, set, length-set}
use lib.Seq.{get_or-set_same, get_or-set_other}
use Rattle.basics.specs.Bools.{below_or_not}
use Rattle.buffer.specs.Rows.{Rows}

-- The rows of the nodes before i are as a function of the node and what stood says; the others as they were.
pub record RowsTo (f : ℕ → ℕ → ℕ) (old rows : List ℕ) (i : ℕ) : Type 0 where
  pub long : length rows ≡ 12
  pub done : (q : ℕ) → q < i → q < 12 → get_or rows q 0 ≡ f q (get_or old q 0)
  pub rest : (q : ℕ) → i ≤ q → get_or rows q 0 ≡ get_or old q 0

module _ (f : ℕ → ℕ → ℕ) (old : List ℕ) where
  module _ (rows : List ℕ) (i : ℕ) (now : RowsTo f old rows i) (few : i < 12) where
    pub rows_set : (v : ℕ) → v ≡ f i (get_or old i 0) → RowsTo f old (set rows i v) (i + 1)
    rows_set v e =
        record {
          long = length-set rows i v ∙ now.long;
          done = λ q h k. elim (below_or_not q i) [
            | inl g ↦ get_or-set_other rows i q v 0 (λ z. omega arith) ∙ now.done q g k
            | inr g ↦ (let same : i ≡ q = omega arith in rw (← same) (get_or-set_same rows i v 0 (omega (arith, now.long)) ∙ e))
          ];
          rest = λ q h. get_or-set_other rows i q v 0 (λ z. omega arith) ∙ now.rest q (omega arith);
        }

    pub rows_left : get_or old i 0 ≡ f i (get_or old i 0) → RowsTo f old rows (i + 1)
    rows_left e =
        record {
          long = now.long;
          done = λ q h k. elim (below_or_not q i) [
            | inl g ↦ now.done q g k
            | inr g ↦ (let same : i ≡ q = omega arith in rw (← same) (now.rest i (omega arith) ∙ e))
          ];
          rest = λ q h. now.rest q (omega arith);
        }

  pub rows_end : (rows : List ℕ) (i : ℕ) → RowsTo f old rows i → ((q : ℕ) → i ≤ q → q < 12 → get_or old q 0 ≡ f q (get_or old q 0)) → Rows rows (λ q. f q (get_or old q 0))
  rows_end rows i now past = record { long = now.long; each = λ q h. elim (below_or_not q i) [ inl g ↦ now.done q g h | inr g ↦ now.rest q g ∙ past q g h ] }

-- One node's row.
pub rows_one : (f : ℕ → ℕ) (rows : List ℕ) (n v : ℕ) → length rows ≡ 12 → v ≡ f n → ((q : ℕ) → q ≢ n → q < 12 → get_or rows q 0 ≡ f q) → Rows (set rows n v) f
rows_one f rows n v long e others =
    record {
      long = length-set rows n v ∙ long;
      each = λ q h. elim (ℕ_discrete q n) [
        | yes same ↦ rw same (get_or-set_same rows n v 0 (omega arith) ∙ e)
        | no d ↦ get_or-set_other rows n q v 0 d ∙ others q d h
      ];
    }
