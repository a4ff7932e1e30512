-- Up to which column a row is shut, as the code keeps it: what that tells of the row's next item.
use Prim.Native.Nat.{ℕ, suc, ◌+◌, ◌<◌, ◌≤◌}
use mathlib.Core.Path.{◌≡◌, refl, sym, subst, ◌∙◌}
use mathlib.Core.Logic.{◌≢◌}
use mathlib.Core.Bool.{◌&&◌}
use mathlib.Core.List.{List, [], ◌∷◌}
use native.Mathlib.Omega.{arith}
use native.Mathlib.Decide.{dec_lt, ℕ_discrete}
use lib.ListN.{length, get_or, set, length-set}
use lib.Seq.{get_or-set_same, get_or-set_other}
use lib.Dec.{ltb, eqb}
use borrow.Author.Tests.{lt-ltb, le-ltb, eq-eqb, ne_eqb}
use Rattle.placing.specs.Item.{items_of, item_at}
use Rattle.placing.specs.Table.{row_count}
use Rattle.placing.specs.Walk.{fixed_here, free_here}
use Rattle.placing.specs.Places.{row_from, RowsAtLeast, Ordered, shut_before, shut_until, NextColumn}
use Rattle.placing.proofs.Rows.{from_head, from_none}
use Rattle.placing.proofs.Choice.{row_of, GivesNone}
use Rattle.placing.proofs.PrepareLaws.{row_is, fixed_is, floor_is, in_table, in_rows, sorted_table}
use Rattle.placing.proofs.WalkLaws.{rows_now, row_now, row_past}

-- Row r has an item at place i, which is taken past column a if it is free, and not later than at the next one if it is fixed.
pub record Opens (rows fixed floors : List ℕ) (r i a : ℕ) : Type 0 where
  pub there : i < length rows
  pub row : get_or rows i 0 ≡ r
  pub by_fixed : get_or fixed i 0 ≤ a + 1
  pub by_floor : get_or fixed i 0 ≡ 0 → get_or floors i 0 ≤ a

-- Row r, whose next place is i, gives nothing from column c up to column a. It opens then if that is before the highest.
pub record Shut (high : ℕ) (rows fixed floors : List ℕ) (r i c a : ℕ) : Type 0 where
  pub gives_none : (times : List ℕ) (e : ℕ) → c ≤ e → e ≤ a → GivesNone e (row_from (items_of rows times fixed floors) r i)
  pub opens : a < high → Opens rows fixed floors r i a

-- The tests of a row whose next place i has an item.
module _ (rows fixed floors : List ℕ) (r i : ℕ) (l : i < length rows) (e : get_or rows i 0 ≡ r) (times : List ℕ) where
  pub first_is : row_from (items_of rows times fixed floors) r i ≡ record { place = i; item = item_at (items_of rows times fixed floors) i } ∷ row_from (items_of rows times fixed floors) r (suc i)
  first_is = from_head (items_of rows times fixed floors) r i (in_table rows times fixed floors l) (row_is rows times fixed floors i l ∙ e)

  pub fixed_here_lem : (c : ℕ) → fixed_here c (row_from (items_of rows times fixed floors) r i) ≡ eqb (get_or fixed i 0) c
  fixed_here_lem c = rw (first_is, fixed_is rows times fixed floors i l)

  pub free_here_lem : (c : ℕ) → free_here c (row_from (items_of rows times fixed floors) r i) ≡ (eqb (get_or fixed i 0) 0 && ltb (get_or floors i 0) c)
  free_here_lem c = rw (first_is, fixed_is rows times fixed floors i l, floor_is rows times fixed floors i l)

module _ (high : ℕ) (rows fixed floors : List ℕ) (r i : ℕ) where
  -- A row whose next item is fixed at another column gives nothing.
  fixed_elsewhere : (times : List ℕ) (c : ℕ) → i < length rows → get_or rows i 0 ≡ r → get_or fixed i 0 ≢ 0 → get_or fixed i 0 ≢ c → GivesNone c (row_from (items_of rows times fixed floors) r i)
  fixed_elsewhere times c l e h d =
      (fixed_here_lem rows fixed floors r i l e times c ∙ ne_eqb (get_or fixed i 0) c d, free_here_lem rows fixed floors r i l e times c ∙ (rw (ne_eqb (get_or fixed i 0) 0 h)))

  -- One whose fixed column has passed is shut for good.
  pub shut_passed : (c a : ℕ) → a < c → Opens rows fixed floors r i a → get_or fixed i 0 ≢ 0 → get_or fixed i 0 ≢ c → Shut high rows fixed floors r i c high
  shut_passed c a l o h d =
      record {
        gives_none = λ times e p q. fixed_elsewhere times e o.there o.row h (λ same. absurd (before e p same));
        opens = λ m. absurd (never m);
      }
    where
      before : (e : ℕ) → c ≤ e → get_or fixed i 0 ≡ e → ⊥
      before e p same = d (omega (arith, o.by_fixed))

      never : high < high → ⊥
      never m = omega arith

  shut_item : (c : ℕ) → 0 < c → i < length rows → get_or rows i 0 ≡ r → Shut high rows fixed floors r i c (shut_before (get_or fixed i 0) (get_or floors i 0))
  shut_item c pos l e =
      elim (ℕ_discrete (get_or fixed i 0) 0) [
        | yes z ↦ rw (eq-eqb (get_or fixed i 0) 0 z)
            (record {
              gives_none = λ times k p q. (
                fixed_here_lem rows fixed floors r i l e times k ∙ ne_eqb (get_or fixed i 0) k (λ same. omega arith),
                free_here_lem rows fixed floors r i l e times k ∙ (rw (eq-eqb (get_or fixed i 0) 0 z, le-ltb (get_or floors i 0) k q)),
              );
              opens = λ m. record { there = l; row = e; by_fixed = omega arith; by_floor = λ _. omega arith };
            })
        | no h ↦ rw (ne_eqb (get_or fixed i 0) 0 h)
            (record {
              gives_none = λ times k p q. fixed_elsewhere times k l e h (λ same. omega arith);
              opens = λ m. record { there = l; row = e; by_fixed = omega arith; by_floor = λ z. absurd (h z) };
            })
      ]

  module _ (o : Ordered rows) (low : (times : List ℕ) → RowsAtLeast (items_of rows times fixed floors) r i) where
    nothing_there : (i < length rows → get_or rows i 0 ≢ r) → (times : List ℕ) → row_from (items_of rows times fixed floors) r i ≡ []
    nothing_there h times =
        from_none (items_of rows times fixed floors) (sorted_table rows times fixed floors o) r i (low times) (λ l e. h (in_rows rows times fixed floors l) (sym (row_is rows times fixed floors i (in_rows rows times fixed floors l)) ∙ e))

    shut_ended : (c : ℕ) → (i < length rows → get_or rows i 0 ≢ r) → Shut high rows fixed floors r i c high
    shut_ended c h = record { gives_none = λ times e p q. rw (nothing_there h times) (refl, refl); opens = λ m. omega arith }

    -- The code's `shut_until`.
    pub shut_until_lem : (c : ℕ) → 0 < c → Shut high rows fixed floors r i c (shut_until high rows fixed floors r i)
    unfolding shut_until
    shut_until_lem c pos =
        elim (dec_lt i (length rows)) [
          | no h ↦ rw (le-ltb i (length rows) (omega arith)) (shut_ended c (λ l. absurd (h l)))
          | yes l ↦ elim (ℕ_discrete (get_or rows i 0) r) [
            | no h ↦ rw (lt-ltb i (length rows) l, ne_eqb (get_or rows i 0) r h) (shut_ended c (λ _. h))
            | yes e ↦ rw (lt-ltb i (length rows) l, eq-eqb (get_or rows i 0) r e) (shut_item c pos l e)
          ]
        ]

-- Each row is shut up to its column.
pub record AllShut (high : ℕ) (rows fixed floors next : List ℕ) (c : ℕ) (shut : List ℕ) : Type 0 where
  pub long : length shut ≡ row_count
  pub each : (r : ℕ) → r < row_count → Shut high rows fixed floors r (get_or next r 0) c (get_or shut r 0)

pub all_later : {high : ℕ} {rows fixed floors next shut : List ℕ} {c : ℕ} (d : ℕ) → c ≤ d → AllShut high rows fixed floors next c shut → AllShut high rows fixed floors next d shut
all_later d l s =
    record {
      long = s.long;
      each = λ r m. record { gives_none = λ times e p q. (s.each r m).gives_none times e (omega arith) q; opens = (s.each r m).opens };
    }

-- Row r is found shut up to another column, where its next place may have changed and no other row's has.
pub all_set : {high : ℕ} {rows fixed floors next shut : List ℕ} {c : ℕ} (now : List ℕ) (r a : ℕ) → r < row_count → ((q : ℕ) → q ≢ r → get_or now q 0 ≡ get_or next q 0)
    → Shut high rows fixed floors r (get_or now r 0) c a → AllShut high rows fixed floors next c shut → AllShut high rows fixed floors now c (set shut r a)
all_set {high} {rows} {fixed} {floors} {next} {shut} {c} now r a l same one s =
    record {
      long = length-set shut r a ∙ s.long;
      each = λ q m. elim (ℕ_discrete q r) [
        | yes e ↦ subst (λ (k : ℕ). Shut high rows fixed floors k (get_or now k 0) c (get_or (set shut r a) k 0)) (sym e) (rw (get_or-set_same shut r a 0 (omega (arith, s.long))) one)
        | no h ↦ rw (get_or-set_other shut r q a 0 h, same q h) (s.each q m)
      ];
    }

-- Up to the next column no row gives anything.
pub none_between : {high : ℕ} {rows fixed floors next shut : List ℕ} {c d : ℕ} → AllShut high rows fixed floors next (c + 1) shut → NextColumn high shut c d
    → (times : List ℕ) (e r : ℕ) → c + 1 ≤ e → e < d → GivesNone e (row_of (rows_now (items_of rows times fixed floors) next) r)
none_between {rows = rows} {fixed} {floors} {next} s n times e r p q =
    elim (dec_lt r 4) [
      | yes l ↦ rw (row_now (items_of rows times fixed floors) next r l) ((s.each r l).gives_none times e p (n.between r e l (omega arith) q))
      | no h ↦ rw (row_past (items_of rows times fixed floors) next r (omega arith)) (refl, refl)
    ]
