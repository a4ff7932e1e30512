-- The replay table by its five lists: each of them, and one item more.
use Prim.Native.Nat.{ℕ, zero, suc, ◌+◌, ◌≤◌, ◌<◌}
use mathlib.Core.Path.{◌≡◌, refl, sym, ap, ap₂, ◌∙◌}
use mathlib.Core.Logic.{◌≢◌}
use mathlib.Core.List.{List, [], ◌∷◌, ◌++◌, map}
use native.Mathlib.Omega.{arith}
use native.Mathlib.Numerals.{add-one}
use lib.ListN.{length, get_or, set, take, length-append}
use lib.Seq.{take-suc, get_or-set_same, get_or-set_other}
use Rattle.rules.proofs.Lists.ListLaws.{map-append}
use Rattle.replay_items.specs.declared.Listed.{Listed}
use Rattle.replay_items.specs.Listing.{listed_at, listed_to}

module _ (rows times fixed floors numbers : List ℕ) where
  abbrev to : ℕ → List Listed
  to = listed_to rows times fixed floors numbers

  abbrev at : ℕ → Listed
  at = listed_at rows times fixed floors numbers

  pub part : (f : Listed → ℕ) (xs : List ℕ) (k : ℕ) → ((i : ℕ) → f (listed_at rows times fixed floors numbers i) ≡ get_or xs i 0) → k ≤ length xs → take k xs ≡ map f (listed_to rows times fixed floors numbers k)
  part f xs zero e h = refl
  part f xs (suc k) e h = take-suc xs k 0 h ∙ ap₂ (λ (ys : List ℕ) (y : ℕ). ys ++ y ∷ []) (part f xs k e (omega arith)) (sym (e k)) ∙ sym (map-append f (to k) (at k ∷ []))

  pub listed_long : (k : ℕ) → length (listed_to rows times fixed floors numbers k) ≡ k
  listed_long zero = refl
  listed_long (suc k) = omega (arith, length-append (to k) (at k ∷ []), listed_long k)

  module _ (k : ℕ) (x : Listed) where
    abbrev then_to : ℕ → List Listed
    then_to = listed_to (set rows k x.row) (set times k x.time) (set fixed k x.fixed) (set floors k x.floor) (set numbers k x.number)

    abbrev then_at : ℕ → Listed
    then_at = listed_at (set rows k x.row) (set times k x.time) (set fixed k x.fixed) (set floors k x.floor) (set numbers k x.number)

    before : (i : ℕ) → i ≤ k → then_to i ≡ to i
    before zero h = refl
    before (suc i) h =
        let ne : i ≢ k = omega arith in
        ap₂ (λ (ys : List Listed) (y : Listed). ys ++ y ∷ []) (before i (omega arith))
        (rw (get_or-set_other rows k i x.row 0 ne, get_or-set_other times k i x.time 0 ne, get_or-set_other fixed k i x.fixed 0 ne, get_or-set_other floors k i x.floor 0 ne, get_or-set_other numbers k i x.number 0 ne) refl)

    pub listed_more : k < length rows → k < length times → k < length fixed → k < length floors → k < length numbers
        → listed_to (set rows k x.row) (set times k x.time) (set fixed k x.fixed) (set floors k x.floor) (set numbers k x.number) (k + 1) ≡ listed_to rows times fixed floors numbers k ++ x ∷ []
    listed_more a b c d e =
        let here : then_at k ≡ x =
        rw (get_or-set_same rows k x.row 0 a, get_or-set_same times k x.time 0 b, get_or-set_same fixed k x.fixed 0 c, get_or-set_same floors k x.floor 0 d, get_or-set_same numbers k x.number 0 e) refl in
        ap then_to (add-one k) ∙ ap₂ (λ (ys : List Listed) (y : Listed). ys ++ y ∷ []) (before k (omega arith)) here
