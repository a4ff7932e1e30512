-- One turn of `prepare`: the item at place k gets its last column from the one behind it, and its row begins there.
use Prim.Native.Nat.{ℕ, suc, ◌+◌, ◌-◌, ◌<◌, ◌≤◌}
use mathlib.Core.Path.{◌≡◌, refl, sym, ap, subst, ◌∙◌}
use mathlib.Core.Logic.{◌≢◌}
use mathlib.Core.Bool.{cond}
use mathlib.Core.List.{List, ◌∷◌}
use native.Mathlib.Omega.{arith}
use native.Mathlib.Decide.{dec_lt, ℕ_discrete}
use lib.ListN.{length, get_or, set, length-set}
use lib.Seq.{get_or-set_same, get_or-set_other}
use lib.Dec.{ltb, eqb}
use borrow.Author.Tests.{lt-ltb, le-ltb, eq-eqb, ne_eqb}
use Rattle.placing.specs.Item.{Item, items_of, item_at}
use Rattle.placing.specs.Table.{most_items, row_count}
use Rattle.placing.specs.Walk.{Waiting, last_column}
use Rattle.placing.specs.Places.{row_at, row_from, Ordered, BeginsAt, Prepared}
use Rattle.placing.proofs.Rows.{Sorted, from_head, from_skip, from_end}
use Rattle.placing.proofs.Fits.{last_fixed, last_free, last_none}
use Rattle.placing.proofs.ItemsLaws.{length_items, items_at}

module _ (rows times fixed floors : List ℕ) where
  pub row_is : (k : ℕ) → k < length rows → row_at (items_of rows times fixed floors) k ≡ get_or rows k 0
  row_is k l = ap (λ (x : Item). x.row) (items_at rows times fixed floors k l)

  pub fixed_is : (k : ℕ) → k < length rows → (item_at (items_of rows times fixed floors) k).fixed ≡ get_or fixed k 0
  fixed_is k l = ap (λ (x : Item). x.fixed) (items_at rows times fixed floors k l)

  pub floor_is : (k : ℕ) → k < length rows → (item_at (items_of rows times fixed floors) k).floor ≡ get_or floors k 0
  floor_is k l = ap (λ (x : Item). x.floor) (items_at rows times fixed floors k l)

  pub in_table : {k : ℕ} → k < length rows → k < length (items_of rows times fixed floors)
  in_table l = rw length_items l

  pub in_rows : {k : ℕ} → k < length (items_of rows times fixed floors) → k < length rows
  in_rows l = rw length_items at l

  pub sorted_table : Ordered rows → Sorted (items_of rows times fixed floors)
  sorted_table o j k p q = rw (row_is j (omega (arith, in_rows q)), row_is k (in_rows q)) (o.rise j k p (in_rows q))

pub prepared_start : (high : ℕ) (rows fixed lasts next : List ℕ) → length lasts ≡ most_items → length next ≡ row_count → ((r : ℕ) → r < row_count → get_or next r 0 ≡ length rows) → Prepared high (length rows) rows fixed lasts next
prepared_start high rows fixed lasts next long four p =
    record {
      lasts_long = long;
      next_long = four;
      lasts_are = λ k l m times floors. absurd (past k l m);
      begins = λ r l times floors. rw (p r l) (at_end r times floors);
    }
  where
    past : (k : ℕ) → length rows ≤ k → k < length rows → ⊥
    past k l m = omega arith

    at_end : (r : ℕ) (times floors : List ℕ) → BeginsAt (items_of rows times fixed floors) r (length rows) (length rows)
    at_end r times floors =
        record {
          after = omega arith;
          within = rw length_items (omega arith);
          there = λ l. absurd (past (length rows) (omega arith) (in_rows rows times fixed floors l));
          low = λ k l m. absurd (past k l (in_rows rows times fixed floors m));
          waits = refl;
        }

abbrev pub behind_of : ℕ → List ℕ → List ℕ → ℕ → ℕ
behind_of high rows lasts place = cond (ltb place (length rows)) (get_or lasts place 0) (high + 1)

abbrev pub last_of : ℕ → ℕ → ℕ
last_of fixed behind = cond (eqb fixed 0) (behind - 1) fixed

module _ (high : ℕ) (rows fixed lasts next : List ℕ) (o : Ordered rows) (k : ℕ) (l : k < length rows) (p : Prepared high (suc k) rows fixed lasts next) where
  module _ (times floors : List ℕ) where
    behind_is : behind_of high rows lasts (get_or next (get_or rows k 0) 0) ≡ last_column high (row_from (items_of rows times fixed floors) (get_or rows k 0) (suc k))
    behind_is =
        let r = get_or rows k 0 in
        let j = get_or next r 0 in
        let table = items_of rows times fixed floors in
        let b : BeginsAt table r (suc k) j = p.begins r (o.four k l) times floors in
        elim (dec_lt j (length rows)) [
          | yes m ↦
              (let same : row_at table j ≡ r = b.there (in_table rows times fixed floors m) in
              rw (lt-ltb j (length rows) m, b.waits) (p.lasts_are j b.after m times floors ∙ ap (λ (s : ℕ). last_column high (row_from table s j)) same))
          | no h ↦ rw (le-ltb j (length rows) (omega arith), b.waits, from_end table r j (rw length_items (omega arith)), last_none) (omega arith)
        ]

    last_is : last_of (get_or fixed k 0) (behind_of high rows lasts (get_or next (get_or rows k 0) 0)) ≡ last_column high (row_from (items_of rows times fixed floors) (get_or rows k 0) k)
    last_is =
        let r = get_or rows k 0 in
        let table = items_of rows times fixed floors in
        let w : Waiting = record { place = k; item = item_at table k } in
        let head : row_from table r k ≡ w ∷ row_from table r (suc k) = from_head table r k (in_table rows times fixed floors l) (row_is rows times fixed floors k l) in
        let its = fixed_is rows times fixed floors k l in
        elim (ℕ_discrete (get_or fixed k 0) 0) [
          | yes e ↦ rw (eq-eqb (get_or fixed k 0) 0 e, behind_is, head, last_free high w (row_from table r (suc k)) (its ∙ e))
          | no h ↦ rw (ne_eqb (get_or fixed k 0) 0 h, head, last_fixed high w (row_from table r (suc k)) (λ e. h (sym its ∙ e)), its)
        ]

    begins_here : BeginsAt (items_of rows times fixed floors) (get_or rows k 0) k k
    begins_here =
        record {
          after = omega arith;
          within = omega (arith, in_table rows times fixed floors l);
          there = λ m. row_is rows times fixed floors k l;
          low = λ j q m. rw (← row_is rows times fixed floors k l) (sorted_table rows times fixed floors o k j q m);
          waits = refl;
        }

    begins_else : (s j : ℕ) → s ≢ get_or rows k 0 → BeginsAt (items_of rows times fixed floors) s (suc k) j → BeginsAt (items_of rows times fixed floors) s k j
    begins_else s j h b =
        record {
          after = omega (arith, b.after);
          within = b.within;
          there = b.there;
          low = b.low;
          waits = from_skip (items_of rows times fixed floors) s k (in_table rows times fixed floors l) (λ e. h (sym e ∙ row_is rows times fixed floors k l)) ∙ b.waits;
        }

  -- The turn.
  pub prepared_more : Prepared high k rows fixed (set lasts k (last_of (get_or fixed k 0) (behind_of high rows lasts (get_or next (get_or rows k 0) 0)))) (set next (get_or rows k 0) k)
  prepared_more =
      record {
        lasts_long = length-set lasts k _ ∙ p.lasts_long;
        next_long = length-set next (get_or rows k 0) k ∙ p.next_long;
        lasts_are = λ j q m times floors. elim (ℕ_discrete j k) [
          | yes e ↦ subst (λ (i : ℕ). get_or (set lasts k (last_of (get_or fixed k 0) (behind_of high rows lasts (get_or next (get_or rows k 0) 0)))) i 0 ≡ last_column high (row_from (items_of rows times fixed floors) (row_at (items_of rows times fixed floors) i) i)) (sym e)
              (get_or-set_same lasts k _ 0 (omega (arith, p.lasts_long, o.few)) ∙ last_is times floors ∙ ap (λ (s : ℕ). last_column high (row_from (items_of rows times fixed floors) s k)) (sym (row_is rows times fixed floors k l)))
          | no d ↦ get_or-set_other lasts k j _ 0 d ∙ p.lasts_are j (omega arith) m times floors
        ];
        begins = λ s q times floors. elim (ℕ_discrete s (get_or rows k 0)) [
          | yes e ↦ subst (λ (i : ℕ). BeginsAt (items_of rows times fixed floors) i k (get_or (set next (get_or rows k 0) k) i 0)) (sym e)
              (rw (get_or-set_same next (get_or rows k 0) k 0 (omega (arith, p.next_long, o.four k l))) (begins_here times floors))
          | no d ↦ rw (get_or-set_other next (get_or rows k 0) s k 0 d) (begins_else times floors s (get_or next s 0) d (p.begins s q times floors))
        ];
      }
