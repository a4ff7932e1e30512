-- The walk as the code's arrays hold it: each row's next place, and the columns so far.
use Prim.Native.Nat.{ℕ, zero, suc, ◌+◌, ◌-◌, ◌<◌, ◌≤◌}
use mathlib.Core.Path.{◌≡◌, refl, sym, ap, subst, ◌∙◌}
use mathlib.Core.Logic.{inl, inr}
use mathlib.Core.Bool.{true, true≢false}
use mathlib.Core.List.{List, [], ◌∷◌}
use mathlib.Core.Option.{Option, none, some}
use native.Mathlib.Omega.{arith}
use native.Mathlib.Decide.{ℕ_discrete}
use native.Mathlib.Numerals.{add-one}
use lib.ListN.{length, get_or, set, take, length-set, get_or-eq_default}
use lib.Seq.{get_or-set_same, get_or-set_other, ext_get_or, take-set-lt}
use lib.Dec.{eqb}
use borrow.Author.Tests.{ne_eqb}
use Rattle.placing.specs.Item.{Item, item_at}
use Rattle.placing.specs.Walk.{Waiting, Walk, in_row, cons_if, rows_of, chosen_row, place_in, walk, none_wait}
use Rattle.placing.specs.Places.{row_at, row_from, RowsAtLeast}
use Rattle.placing.proofs.Rows.{Sorted, nil_cons, from_head, from_some, low_next}
use Rattle.placing.proofs.Fits.{cons_first, cons_rest}
use Rattle.placing.proofs.Choice.{row_of, GivesNone, ChoiceSays, choice_says}
use Rattle.placing.proofs.Complete.{fixed_next, free_next, took, none-waits}

-- The walk that the arrays stand for.
unfoldable pub rows_now : List Item → List ℕ → List (List Waiting)
rows_now table next = row_from table 0 (get_or next 0 0) ∷ row_from table 1 (get_or next 1 0) ∷ row_from table 2 (get_or next 2 0) ∷ row_from table 3 (get_or next 3 0) ∷ []

unfoldable pub view : List Item → List ℕ → List ℕ → Walk
view table next work = record { waiting = rows_now table next; columns = take (length table) work }

pub row_now : (table : List Item) (next : List ℕ) (r : ℕ) → r < 4 → row_of (rows_now table next) r ≡ row_from table r (get_or next r 0)
unfolding rows_now
row_now table next zero l = refl
row_now table next (suc zero) l = refl
row_now table next (suc (suc zero)) l = refl
row_now table next (suc (suc (suc zero))) l = refl
row_now table next (suc (suc (suc (suc r)))) l = let no : ⊥ = omega arith in absurd no

pub length_now : (table : List Item) (next : List ℕ) → length (rows_now table next) ≡ 4
unfolding rows_now
length_now table next = refl

-- Past the four rows nothing waits.
pub row_past : (table : List Item) (next : List ℕ) (r : ℕ) → 4 ≤ r → row_of (rows_now table next) r ≡ []
row_past table next r l = get_or-eq_default (rows_now table next) [] (rw length_now l)

row_small : (table : List Item) (next : List ℕ) (r : ℕ) {w : Waiting} {ws : List Waiting} → row_of (rows_now table next) r ≡ w ∷ ws → r < 4
unfolding rows_now
row_small table next zero e = omega arith
row_small table next (suc zero) e = omega arith
row_small table next (suc (suc zero)) e = omega arith
row_small table next (suc (suc (suc zero))) e = omega arith
row_small table next (suc (suc (suc (suc r)))) e = absurd (nil_cons e)

-- How many items wait.
abbrev pub total : List (List Waiting) → ℕ
total [] = 0
total (ws ∷ rest) = length ws + total rest

total_taken : (rows : List (List Waiting)) (a : ℕ) {w : Waiting} {ws : List Waiting} → row_of rows a ≡ w ∷ ws → suc (total (set rows a ws)) ≡ total rows
total_taken [] a e = absurd (nil_cons e)
total_taken (r ∷ rest) zero {w} {ws} e = omega (arith, ap length e)
total_taken (r ∷ rest) (suc a) e = omega (arith, total_taken rest a e)

pub none_total : (rows : List (List Waiting)) → eqb (total rows) 0 ≡ none_wait rows
none_total [] = refl
none_total ([] ∷ rest) = rw (zero_plus (total rest)) (none_total rest)
  where
    zero_plus : (n : ℕ) → 0 + n ≡ n
    zero_plus n = omega arith
none_total ((w ∷ ws) ∷ rest) = ne_eqb (suc (length ws) + total rest) 0 (λ e. omega arith)

-- Each item waits in one row at first.
one_row : (v k : ℕ) (x : Waiting) (a b c d : List Waiting) → v < 4 → length (cons_if (eqb v 0) x a) + (length (cons_if (eqb v 1) x b) + (length (cons_if (eqb v 2) x c) + (length (cons_if (eqb v 3) x d) + 0))) ≡ suc (length a + (length b + (length c + (length d + 0))))
one_row zero k x a b c d l = omega arith
one_row (suc zero) k x a b c d l = omega arith
one_row (suc (suc zero)) k x a b c d l = omega arith
one_row (suc (suc (suc zero))) k x a b c d l = omega arith
one_row (suc (suc (suc (suc v)))) k x a b c d l = omega arith

total_from : (k : ℕ) (xs : List Item) → ((j : ℕ) → j < length xs → row_at xs j < 4) → total (in_row 0 k xs ∷ in_row 1 k xs ∷ in_row 2 k xs ∷ in_row 3 k xs ∷ []) ≡ length xs
total_from k [] h = refl
total_from k (x ∷ xs) h =
    one_row x.row k (record { place = k; item = x }) (in_row 0 (suc k) xs) (in_row 1 (suc k) xs) (in_row 2 (suc k) xs) (in_row 3 (suc k) xs) (h 0 (omega arith))
    ∙ ap suc (total_from (suc k) xs (λ j l. h (suc j) (omega arith)))

pub total_begun : (table : List Item) → ((j : ℕ) → j < length table → row_at table j < 4) → total (rows_of table) ≡ length table
unfolding rows_of
total_begun table h = total_from 0 table h

none_chosen : (high c : ℕ) (rows : List (List Waiting)) → ((r : ℕ) → GivesNone c (row_of rows r)) → (o : Option ℕ) → ChoiceSays high c rows o → o ≡ none
none_chosen high c rows h none says = refl
none_chosen high c rows h (some a) (inl e) = absurd (true≢false (sym e ∙ (h a).0))
none_chosen high c rows h (some a) (inr f) = absurd (true≢false (sym f.may ∙ (h a).1))

-- A column that no row gives anything changes nothing of the walk.
pub empty_column : (high n c : ℕ) (s : Walk) → ((r : ℕ) → GivesNone c (row_of s.waiting r)) → walk high (suc n) c s ≡ walk high n (suc c) s
empty_column high n c s h = rw (none_chosen high c s.waiting h (chosen_row high c s.waiting) (choice_says high c s.waiting))

-- So the walk goes over m such columns at once.
pub empty_columns : (high m c : ℕ) (s : Walk) → c + m ≤ suc high → ((e r : ℕ) → c ≤ e → e < c + m → GivesNone e (row_of s.waiting r)) → walk high (suc high - c) c s ≡ walk high (suc high - (c + m)) (c + m) s
empty_columns high zero c s l h = let e : c + 0 ≡ c = omega arith in rw e
empty_columns high (suc m) c s l h =
    let first : suc high - c ≡ suc (high - c) = omega arith in
    let left : suc high - suc c ≡ high - c = omega arith in
    let there : suc c + m ≡ c + suc m = omega arith in
    (rw first (empty_column high (high - c) c s (λ r. h c r (omega arith) (omega arith))))
    ∙ ap (λ (n : ℕ). walk high n (suc c) s) (sym left)
    ∙ empty_columns high m (suc c) s (omega arith) (λ e r p q. h e r (omega arith) (omega arith))
    ∙ ap (λ (d : ℕ). walk high (suc high - d) d s) there

-- A walk with nothing waiting stays as it is.
pub walk_idle : (high n c : ℕ) (s : Walk) → none_wait s.waiting ≡ true → walk high n c s ≡ s
walk_idle high zero c s e = refl
walk_idle high (suc n) c s e = empty_column high n c s (λ r. rw (none-waits s.waiting e r) (refl, refl)) ∙ walk_idle high n (suc c) s e

-- One column of the walk.
pub walk_more : (high c : ℕ) (s : Walk) → c ≤ high → walk high (suc high - c) c s ≡ walk high (suc high - (c + 1)) (c + 1) (place_in c (chosen_row high c s.waiting) s)
walk_more high c s l =
    let m : suc high - c ≡ suc (high - c) = omega arith in
    let n : suc high - (c + 1) ≡ high - c = omega arith in
    rw (m, n, add-one)

-- A chosen row waits.
chosen_waits : (high c : ℕ) (rows : List (List Waiting)) (a : ℕ) → ChoiceSays high c rows (some a) → (w : Waiting) × (ws : List Waiting) × (row_of rows a ≡ w ∷ ws)
chosen_waits high c rows a (inl e) = let f = fixed_next c (row_of rows a) e in (f.0, f.1, f.2)
chosen_waits high c rows a (inr f) = let g = free_next c (row_of rows a) f.may in (g.0, g.1, g.2)

-- What the code's step does to the arrays where row a was chosen at column c.
pub record Step (table : List Item) (next work : List ℕ) (a c : ℕ) : Type 0 where
  pub four : a < 4
  pub inside : get_or next a 0 < length table
  pub placed : place_in c (some a) (view table next work) ≡ view table (set next a (get_or next a 0 + 1)) (set work (get_or next a 0) c)
  pub fewer : suc (total (rows_now table (set next a (get_or next a 0 + 1)))) ≡ total (rows_now table next)
  pub lows : (r : ℕ) → r < 4 → RowsAtLeast table r (get_or (set next a (get_or next a 0 + 1)) r 0)

module _ (table : List Item) (sorted : Sorted table) (next work : List ℕ) (long : length next ≡ 4) (lows : (r : ℕ) → r < 4 → RowsAtLeast table r (get_or next r 0)) where
  rows_set : (a v : ℕ) → a < 4 → rows_now table (set next a v) ≡ set (rows_now table next) a (row_from table a v)
  rows_set a v l =
      ext_get_or [] (rows_now table (set next a v)) (set (rows_now table next) a (row_from table a v)) (length_now table (set next a v) ∙ sym (length-set (rows_now table next) a (row_from table a v) ∙ length_now table next))
      λ r m. same r (rw length_now at m)
    where
      same : (r : ℕ) → r < 4 → row_of (rows_now table (set next a v)) r ≡ row_of (set (rows_now table next) a (row_from table a v)) r
      same r m =
          elim (ℕ_discrete r a) [
            | yes e ↦ row_now table (set next a v) r m
                ∙ subst (λ (i : ℕ). row_from table i (get_or (set next a v) i 0) ≡ row_of (set (rows_now table next) a (row_from table a v)) i) (sym e)
                (ap (row_from table a) (get_or-set_same next a v 0 (omega arith)) ∙ sym (get_or-set_same (rows_now table next) a (row_from table a v) [] (omega (arith, length_now table next))))
            | no h ↦ row_now table (set next a v) r m ∙ ap (row_from table r) (get_or-set_other next a r v 0 h) ∙ sym (row_now table next r m) ∙ sym (get_or-set_other (rows_now table next) a r (row_from table a v) [] h)
          ]

  pub step : (high c a : ℕ) → chosen_row high c (rows_now table next) ≡ some a → Step table next work a c
  unfolding view
  step high c a e =
      let says : ChoiceSays high c (rows_now table next) (some a) = rw e at (choice_says high c (rows_now table next)) in
      let (w, ws, waits) = chosen_waits high c (rows_now table next) a says in
      let l : a < 4 = row_small table next a waits in
      let i : ℕ = get_or next a 0 in
      let there : row_from table a i ≡ w ∷ ws = sym (row_now table next a l) ∙ waits in
      let (m, row) = from_some table sorted a i (lows a l) there in
      let head : w ∷ ws ≡ record { place = i; item = item_at table i } ∷ row_from table a (suc i) = sym there ∙ from_head table a i m row in
      let place : w.place ≡ i = ap (λ (x : Waiting). x.place) (cons_first head) in
      let moved : rows_now table (set next a (i + 1)) ≡ set (rows_now table next) a ws = rows_set a (i + 1) l ∙ ap (λ (x : List Waiting). set (rows_now table next) a x) (ap (row_from table a) (add-one i) ∙ sym (cons_rest head)) in
      record {
        four = l;
        inside = m;
        placed = took c a (view table next work) waits ∙ λ k. record { waiting = sym moved k; columns = (ap (λ (p : ℕ). set (take (length table) work) p c) place ∙ sym (take-set-lt (length table) work i c m)) k };
        fewer = ap (λ (x : List (List Waiting)). suc (total x)) moved ∙ total_taken (rows_now table next) a waits;
        lows = λ r q. elim (ℕ_discrete r a) [
          | yes same ↦ subst (λ (s : ℕ). RowsAtLeast table s (get_or (set next a (i + 1)) s 0)) (sym same)
              (subst (λ (v : ℕ). RowsAtLeast table a v) (sym (get_or-set_same next a (i + 1) 0 (omega arith) ∙ add-one i)) (subst (λ (s : ℕ). RowsAtLeast table s (suc i)) row (low_next table sorted i m)))
          | no h ↦ rw (get_or-set_other next a r (i + 1) 0 h) (lows r q)
        ];
      }
