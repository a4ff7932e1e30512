-- The placing's promise: `accepted` and `none_exists` of a table, `promise` of the slices lent. Accepted: the columns keep the rules. Refused with 24: no list of columns does.
use Prim.Native.Nat.{ℕ, zero, suc, ◌+◌, ◌-◌, ◌<◌, ◌≤◌}
use mathlib.Core.Path.{◌≡◌, refl, sym, subst, fun_ext, ◌∙◌}
use mathlib.Core.Logic.{◌↔◌, ◌≢◌}
use mathlib.Core.Bool.{Bool, true, false, not, ◌&&◌, true≢false}
use mathlib.Core.List.{List, ◌++◌}
use native.Mathlib.Omega.{arith}
use lib.ListN.{length, replicate, take, drop, length-replicate}
use lib.Seq.{take_at}
use lib.Dec.{leb, ltb}
use borrow.Author.Tests.{leb-true, ltb-true, ltb-false, not-true, not-false, lt-ltb, le-ltb}
use Rattle.placing.specs.Item.{Item, items_of}
use Rattle.placing.specs.Table.{most_items, greatest, row_count, table_fits, bounds_fit, items_fit, malformed, lengths_agree}
use Rattle.placing.specs.Rules.{KeepsRules}
use Rattle.placing.specs.Walk.{rows_of, begun, walked, none_wait}
use Rattle.placing.specs.Answer.{unplaceable, chosen_columns, too_short, answer, columns_left}
use Rattle.basics.specs.Bools.{both_true}
use Rattle.placing.specs.Places.{row_at, row_from}
use Rattle.placing.proofs.Rows.{Sorted, in_row-none}
use Rattle.placing.proofs.Next.{rows_at, Begins, begins}
use Rattle.placing.proofs.Fits.{Rows, Fits}
use Rattle.placing.proofs.Choice.{row_of}
use Rattle.placing.proofs.Complete.{walk_places}
use Rattle.placing.proofs.TableLaws.{rows_rise, rows_four}
use Rattle.placing.proofs.Placings.{Split, completion}
use Rattle.placing.proofs.AnswerLaws.{first_none, first_zero, first_form, first_short, left_accepted, left_refused}
use Rattle.placing.proofs.ItemsLaws.{length_items}
use Rattle.placing.proofs.Sound.{Good, walk-keeps}

-- What the promise takes from a table's check.
record Fit (low high : ℕ) (table : List Item) : Type 0 where
  bounds : low ≤ high
  sorted : Sorted table
  four : (k : ℕ) → k < length table → row_at table k < row_count

fit : (low high : ℕ) (table : List Item) → table_fits low high table ≡ true → Fit low high table
unfolding table_fits
fit low high table e =
    let t = both_true (leb (length table) most_items && bounds_fit low high) (items_fit low high 0 0 table) e in
    record {
      bounds = leb-true low high (both_true (leb low high) (leb high greatest) (both_true (leb (length table) most_items) (bounds_fit low high) t.0).1).0;
      sorted = rows_rise low high 0 0 table t.1;
      four = rows_four low high 0 0 table t.1;
    }

module _ (low high : ℕ) (table : List Item) (f : Fit low high table) where
  row_begun : (r : ℕ) → row_of (rows_of table) r ≡ row_from table r 0
  unfolding rows_of row_from
  row_begun zero = refl
  row_begun (suc zero) = refl
  row_begun (suc (suc zero)) = refl
  row_begun (suc (suc (suc zero))) = refl
  row_begun (suc (suc (suc (suc r)))) = sym (in_row-none (suc (suc (suc (suc r)))) 0 table (λ k l e. omega (arith, f.four k l)))

  begin : (r : ℕ) → Begins table r 0
  begin r = begins table f.sorted r (length table) 0 (omega arith)

  first_next : ℕ → ℕ
  first_next r = (begin r).place

  waits-begun : row_of (rows_of table) ≡ rows_at table first_next
  unfolding first_next
  waits-begun = fun_ext λ r. row_begun r ∙ (begin r).waits

  none_before : (k : ℕ) → k < length table → first_next (row_at table k) ≤ k
  unfolding first_next
  none_before k l = (begin (row_at table k)).first k (omega arith) l refl

  split_begun : (columns : List ℕ) → KeepsRules low high table columns → Split table columns (suc low) first_next
  unfolding first_next
  split_begun columns keeps =
      record {
        lows = λ r. (begin r).low;
        past = λ k l p. omega (arith, none_before k l);
        ahead = λ k l p. (keeps.inside k l).0;
      }

  good_begun : Good table low (suc low) first_next (replicate (length table) 0)
  unfolding first_next
  good_begun =
      record {
        one_each = length-replicate (length table) 0;
        lows = λ r. (begin r).low;
        inside = λ k l p. omega (arith, none_before k l);
        may = λ k l p. absurd (never k l p);
        distinct = λ j k o l p q. absurd (never k l q);
        rising = λ j k o l p e. omega (arith, none_before k l);
      }
    where
      never : (k : ℕ) → k < length table → k < first_next (row_at table k) → ⊥
      never k l p = omega (arith, none_before k l)

  columns_count : (high - low) + suc low ≡ suc high
  columns_count = omega (arith, f.bounds)

  sound : none_wait (walked low high table).waiting ≡ true → KeepsRules low high table (walked low high table).columns
  unfolding walked begun
  sound e = walk-keeps table low f.sorted high (high - low) (suc low) (begun table) first_next (λ z. omega arith) (omega arith) columns_count waits-begun good_begun e

  complete : (columns : List ℕ) → KeepsRules low high table columns → none_wait (walked low high table).waiting ≡ true
  unfolding walked begun
  complete columns keeps =
      walk_places high (high - low) (suc low) (begun table) (λ z. omega arith) columns_count
      (subst (λ (R : Rows). Fits (high - low) (suc low) R) (sym waits-begun) (completion table f.sorted low high columns keeps (high - low) (suc low) first_next columns_count (split_begun columns keeps)))

-- The promise that a caller goes by: accepted, the chosen columns keep the rules.
pub accepted : (low high : ℕ) (table : List Item) → table_fits low high table ≡ true → unplaceable low high table ≡ false → KeepsRules low high table (chosen_columns low high table)
unfolding unplaceable chosen_columns
accepted low high table e a = sound low high table (fit low high table e) (not-false (none_wait (walked low high table).waiting) a)

-- A table is refused for want of a placing if and only if no list of columns keeps the rules.
pub none_exists : (low high : ℕ) (table : List Item) → table_fits low high table ≡ true → (unplaceable low high table ≡ true) ↔ ((columns : List ℕ) → ¬ KeepsRules low high table columns)
unfolding unplaceable
none_exists low high table e = (
  λ a columns keeps. true≢false (sym (complete low high table (fit low high table e) columns keeps) ∙ not-true (none_wait (walked low high table).waiting) a),
  λ never. waits (none_wait (walked low high table).waiting) refl never,
)
  where
    waits : (b : Bool) → none_wait (walked low high table).waiting ≡ b → ((columns : List ℕ) → ¬ KeepsRules low high table columns) → not b ≡ true
    waits false q never = refl
    waits true q never = absurd (never (walked low high table).columns (sound low high table (fit low high table e) q))

-- What a number and the columns left tell of the table and the columns lent: all that a caller goes by.
pub record Outcome (low high : ℕ) (rows times fixed floors columns : List ℕ) (number : ℕ) (left : List ℕ) : Type 0 where
  pub zero : (number ≡ 0) ↔ ((malformed low high rows times fixed floors ≡ false) × (length rows ≤ length columns) × (cs : List ℕ) × KeepsRules low high (items_of rows times fixed floors) cs)
  pub chosen : number ≡ 0 → (left ≡ chosen_columns low high (items_of rows times fixed floors) ++ drop (length rows) columns) × KeepsRules low high (items_of rows times fixed floors) (take (length rows) left)
  pub none : (number ≡ 24) ↔ ((malformed low high rows times fixed floors ≡ false) × (length rows ≤ length columns) × ((cs : List ℕ) → ¬ KeepsRules low high (items_of rows times fixed floors) cs))
  pub short : (number ≡ 23) ↔ ((malformed low high rows times fixed floors ≡ false) × (length columns < length rows))
  pub malformed : (number ≡ 22) ↔ (malformed low high rows times fixed floors ≡ true)
  pub refused : number ≢ 0 → left ≡ columns

module _ (low high : ℕ) (rows times fixed floors columns : List ℕ) where
  formed : malformed low high rows times fixed floors ≡ false → table_fits low high (items_of rows times fixed floors) ≡ true
  unfolding malformed
  formed e = (both_true (lengths_agree rows times fixed floors) (table_fits low high (items_of rows times fixed floors)) (not-false (lengths_agree rows times fixed floors && table_fits low high (items_of rows times fixed floors)) e)).1

  -- Some columns keep the rules.
  placeable : malformed low high rows times fixed floors ≡ false → (cs : List ℕ) → KeepsRules low high (items_of rows times fixed floors) cs → unplaceable low high (items_of rows times fixed floors) ≡ false
  placeable m cs keeps = told (unplaceable low high (items_of rows times fixed floors)) refl
    where
      told : (b : Bool) → unplaceable low high (items_of rows times fixed floors) ≡ b → b ≡ false
      told false e = refl
      told true e = absurd ((none_exists low high (items_of rows times fixed floors) (formed m)).0 e cs keeps)

  -- The answer is 24 if and only if the table is well formed, the output long enough, and no list of columns keeps the rules.
  pub answers-none : (answer low high rows times fixed floors columns ≡ 24)
      ↔ ((malformed low high rows times fixed floors ≡ false) × (length rows ≤ length columns) × ((cs : List ℕ) → ¬ KeepsRules low high (items_of rows times fixed floors) cs))
  unfolding answer
  answers-none = (
    λ e.
        (let t = first_none (malformed low high rows times fixed floors) (ltb (length columns) (length rows)) (unplaceable low high (items_of rows times fixed floors)) e in
        (t.0, ltb-false (length columns) (length rows) t.1, (none_exists low high (items_of rows times fixed floors) (formed t.0)).0 t.2)),
    λ h. rw (h.0, le-ltb (length columns) (length rows) h.1, (none_exists low high (items_of rows times fixed floors) (formed h.0)).1 h.2),
  )

  -- Where the answer is 0, the columns left keep the rules.
  pub answers_zero : answer low high rows times fixed floors columns ≡ 0 → KeepsRules low high (items_of rows times fixed floors) (take (length rows) (columns_left low high rows times fixed floors columns))
  unfolding answer
  answers_zero e =
      let t = first_zero (malformed low high rows times fixed floors) (ltb (length columns) (length rows)) (unplaceable low high (items_of rows times fixed floors)) e in
      let keeps = accepted low high (items_of rows times fixed floors) (formed t.0) t.2 in
      rw (
        left_accepted low high rows times fixed floors columns e,
        take_at (chosen_columns low high (items_of rows times fixed floors)) (drop (length rows) columns) (length rows) (keeps.one_each ∙ length_items rows times fixed floors),
      )
      keeps

  -- The promise: every answer of `placing_place`, and what it leaves, is such an outcome.
  pub promise : Outcome low high rows times fixed floors columns (answer low high rows times fixed floors columns) (columns_left low high rows times fixed floors columns)
  unfolding answer
  promise =
      let table = items_of rows times fixed floors in
      let m = malformed low high rows times fixed floors in
      let s = too_short columns rows in
      let u = unplaceable low high table in
      record {
        zero = (
          λ e. (let t = first_zero m s u e in (t.0, ltb-false (length columns) (length rows) t.1, chosen_columns low high table, accepted low high table (formed t.0) t.2)),
          λ h. rw (h.0, le-ltb (length columns) (length rows) h.1, placeable h.0 h.2 h.3),
        );
        chosen = λ e. (left_accepted low high rows times fixed floors columns e, answers_zero e);
        none = answers-none;
        short = (
          λ e. (let t = first_short m s u e in (t.0, ltb-true (length columns) (length rows) t.1)),
          λ h. rw (h.0, lt-ltb (length columns) (length rows) h.1),
        );
        malformed = (λ e. first_form m s u e, λ h. rw h);
        refused = left_refused low high rows times fixed floors columns;
      }
