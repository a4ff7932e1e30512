-- The marker's loops.
use Prim.Native.Nat.{ℕ, suc, ◌+◌, ◌-◌, ◌<◌, ◌≤◌}
use mathlib.Core.Path.{◌≡◌, sym, ap, ◌∙◌}
use mathlib.Core.Bool.{Bool, true, false, ◌||◌, ◌&&◌}
use mathlib.Core.List.{List}
use mathlib.Core.Option.{some}
use native.Mathlib.Omega.{arith}
use native.Mathlib.Numerals.{add-one}
use lib.ListN.{length, get_or}
use lib.Dec.{eqb, leb}
use Rattle.std.specs.Prelude.{Some, None}
use Rattle.placing.specs.Item.{Item, items_of}
use Rattle.placing.proofs.ItemsLaws.{items_at}
use Rattle.marking.specs.Mark.{breaks_alone, breaks, first_broken}
use Rattle.marking.specs.Loops.{Beside, FoundBy}

pub beside_more : (rows columns : List ℕ) (k j : ℕ) (found : Bool) → j < length rows → k < length rows → Beside rows columns k j found
    → Beside rows columns k (j + 1) (found || (eqb (get_or columns j 0) (get_or columns k 0) || (eqb (get_or rows j 0) (get_or rows k 0) && leb (get_or columns k 0) (get_or columns j 0))))
beside_more rows columns k j found l m h times fixed floors =
    rw (add-one, items_at rows times fixed floors j l, items_at rows times fixed floors k m, h times fixed floors)

module _ (low high : ℕ) (table : List Item) (columns : List ℕ) (k n : ℕ) (l : k < n) where
  one_less : n - k ≡ suc (n - (k + 1))
  one_less = omega arith

  pub first_here : breaks low high table columns k ≡ true → first_broken low high table columns k (n - k) ≡ some k
  first_here e = rw (one_less, e, first_broken)

  pub first_later : breaks low high table columns k ≡ false → first_broken low high table columns k (n - k) ≡ first_broken low high table columns (k + 1) (n - (k + 1))
  first_later e = rw (one_less, e, first_broken, add-one)

-- From item k on, none before it breaks a rule.
pub record Going (low high : ℕ) (rows fixed floors columns : List ℕ) (k : ℕ) : Type 0 where
  pub same : (times : List ℕ) → first_broken low high (items_of rows times fixed floors) columns 0 (length rows) ≡ first_broken low high (items_of rows times fixed floors) columns k (length rows - k)

module _ (low high : ℕ) (rows fixed floors columns : List ℕ) (k : ℕ) (l : k < length rows) (alone beside : Bool) (a : alone ≡ breaks_alone low high (get_or fixed k 0) (get_or floors k 0) (get_or columns k 0)) (b : Beside rows columns k k beside) (g : Going low high rows fixed floors columns k) where
  broken_is : (times : List ℕ) → breaks low high (items_of rows times fixed floors) columns k ≡ (alone || beside)
  unfolding breaks
  broken_is times = rw (items_at rows times fixed floors k l, ← b times fixed floors, a)

  pub found_here : (alone || beside) ≡ true → FoundBy low high rows fixed floors columns (Some k)
  found_here e = (l, λ times. sym (g.same times ∙ first_here low high (items_of rows times fixed floors) columns k (length rows) l (broken_is times ∙ e)))

  pub found_later : (alone || beside) ≡ false → Going low high rows fixed floors columns (k + 1)
  found_later e = record { same = λ times. g.same times ∙ first_later low high (items_of rows times fixed floors) columns k (length rows) l (broken_is times ∙ e) }

pub found_none : (low high : ℕ) (rows fixed floors columns : List ℕ) (k : ℕ) → length rows ≤ k → Going low high rows fixed floors columns k → FoundBy low high rows fixed floors columns None
found_none low high rows fixed floors columns k h g =
    let z : length rows - k ≡ 0 = omega arith in
    (tt, λ times. sym (g.same times ∙ ap (first_broken low high (items_of rows times fixed floors) columns k) z))

pub going_begun : (low high : ℕ) (rows fixed floors columns : List ℕ) → Going low high rows fixed floors columns 0
going_begun low high rows fixed floors columns = record { same = λ times. ap (first_broken low high (items_of rows times fixed floors) columns 0) (from_zero (length rows)) }
  where
    from_zero : (n : ℕ) → n ≡ n - 0
    from_zero n = omega arith
