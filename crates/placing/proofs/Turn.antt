-- The walk's two loops, turn by turn, as the code's variables hold them.
use Prim.Native.Nat.{ℕ, zero, suc, ◌+◌, ◌-◌, ◌<◌, ◌≤◌}
use mathlib.Core.Path.{◌≡◌, refl, sym, ap, ◌∙◌}
use mathlib.Core.Logic.{◌⊎◌, inl, inr}
use mathlib.Core.List.{List, [], ◌∷◌}
use mathlib.Core.Option.{Option, none, some}
use native.Mathlib.Omega.{arith}
use native.Mathlib.Numerals.{add-one}
use lib.ListN.{length, get_or, set, take, replicate, length-set}
use lib.Seq.{get_or-set_same, get_or-set_other}
use lib.Dec.{eqb}
use borrow.Author.Tests.{eq-eqb}
use Rattle.std.specs.Prelude.{cond, Bool}
use Rattle.std.specs.declared.result.Result.{Result}
use Rattle.answers.specs.declared.Refusal.{Refusal}
use Rattle.answers.specs.Number.{number}
use Rattle.placing.specs.Item.{Item, items_of}
use Rattle.placing.specs.Table.{most_items, row_count}
use Rattle.placing.specs.Walk.{Walk, Candidate, sooner, or_else, chosen_row, place_in, walk, begun, walked, none_wait, rows_of}
use Rattle.placing.specs.declared.Offer.{Offer}
use Rattle.placing.specs.declared.Offer.TheVariants.{Fixed, Free, Passed, Nothing}
use Rattle.placing.specs.Places.{row_from, RowsAtLeast, shut_until, ShutRows, NextColumn, offer_at, Formed, Prepared, WalkGives}
use Rattle.placing.proofs.ItemsLaws.{length_items}
use Rattle.placing.proofs.PrepareLaws.{row_is, in_rows, sorted_table}
use Rattle.placing.proofs.Choice.{row_of, GivesNone, ChoiceSays, choice_says}
use Rattle.placing.proofs.ShutLaws.{Shut, AllShut, shut_until_lem, all_later, all_set, none_between}
use Rattle.placing.proofs.OfferLaws.{offer_fixed, offer_free, offer_passed, offer_nothing}
use Rattle.placing.proofs.WalkLaws.{rows_now, view, row_now, length_now, total, none_total, total_begun, empty_columns, walk_idle, walk_more, Step, step}
use Rattle.placing.proofs.SearchLaws.{Searched, search_begun, search_fixed, search_nothing, search_free, search_ended}

-- The rows before r are searched, whatever the times.
pub record Searching (high : ℕ) (rows fixed floors next : List ℕ) (c : ℕ) (best : Option Candidate) (r : ℕ) : Type 0 where
  pub within : r ≤ 4
  pub searched : (times : List ℕ) → Searched high c (rows_now (items_of rows times fixed floors) next) r best

-- Last columns and next places as `prepare` leaves them, and no column yet.
pub record Begun (low high : ℕ) (rows fixed floors lasts next work : List ℕ) : Type 0 where
  pub formed : Formed low high rows fixed floors
  pub work_clear : work ≡ replicate most_items 0
  pub prepared : Prepared high 0 rows fixed lasts next

-- The columns before c are walked, whatever the times.
pub record Walking (low high : ℕ) (rows fixed floors lasts next₀ work₀ next work : List ℕ) (left c : ℕ) : Type 0 where
  pub begun : Begun low high rows fixed floors lasts next₀ work₀
  pub above : low < c
  pub within : c ≤ high + 1
  pub next_long : length next ≡ row_count
  pub work_long : length work ≡ most_items
  pub lows : (times : List ℕ) (r : ℕ) → r < 4 → RowsAtLeast (items_of rows times fixed floors) r (get_or next r 0)
  pub left_is : (times : List ℕ) → left ≡ total (rows_now (items_of rows times fixed floors) next)
  pub same : (times : List ℕ) → walked low high (items_of rows times fixed floors) ≡ walk high (suc high - c) c (view (items_of rows times fixed floors) next work)

-- The choice at a column, whatever the times.
abbrev pub Chosen : ℕ → List ℕ → List ℕ → List ℕ → List ℕ → ℕ → Option ℕ → Type 0
Chosen high rows fixed floors next c o = (times : List ℕ) → chosen_row high c (rows_now (items_of rows times fixed floors) next) ≡ o

pub searching_begun : (high : ℕ) (rows fixed floors next : List ℕ) (c : ℕ) → Searching high rows fixed floors next c none 0
searching_begun high rows fixed floors next c =
    record { within = omega arith; searched = λ times. search_begun high c (rows_now (items_of rows times fixed floors) next) }

pub searching_ended : {high : ℕ} {rows fixed floors next : List ℕ} {c : ℕ} {best : Option Candidate} {r : ℕ} → 4 ≤ r → Searching high rows fixed floors next c best r → Chosen high rows fixed floors next c (or_else none best)
searching_ended {high} {rows} {fixed} {floors} {next} {c} {best} {r} l s times =
    search_ended high c (rows_now (items_of rows times fixed floors) next) r best (rw length_now l) (s.searched times)

module _ {low high : ℕ} {rows fixed floors lasts next₀ work₀ next work : List ℕ} {left c : ℕ} (w : Walking low high rows fixed floors lasts next₀ work₀ next work left c) where
  module _ {best : Option Candidate} {r : ℕ} (s : Searching high rows fixed floors next c best r) (l : r < 4) where
    there : (times : List ℕ) → r < length (rows_now (items_of rows times fixed floors) next)
    there times = rw length_now l

    -- A row that is shut at the column.
    shut_here : {a : ℕ} → Shut high rows fixed floors r (get_or next r 0) c a → c ≤ a → Searching high rows fixed floors next c best (r + 1)
    shut_here one m =
        record {
          within = omega arith;
          searched = λ times.
              (let t : GivesNone c (row_of (rows_now (items_of rows times fixed floors) next) r) = rw (row_now (items_of rows times fixed floors) next r l) (one.gives_none times c (omega arith) m) in
              search_nothing high c (rows_now (items_of rows times fixed floors) next) r best (there times) (s.searched times) t.0 t.1);
        }

    module _ {shut : List ℕ} (all : AllShut high rows fixed floors next c shut) (inside : c ≤ high) {o : Offer} (gives : o ≡ offer_at fixed lasts (get_or shut r 0) (get_or next r 0) c) where
      pub turn_fixed : o ≡ Fixed → Chosen high rows fixed floors next c (some r)
      turn_fixed e times =
          search_fixed high c (rows_now (items_of rows times fixed floors) next) r best (there times) (s.searched times)
          (rw (row_now (items_of rows times fixed floors) next r l) (offer_fixed (all.each r l) inside lasts (sym gives ∙ e) times))

      pub turn_free : (last : ℕ) → o ≡ Free last → Searching high rows fixed floors next c (sooner best (some (record { row = r; last = last }))) (r + 1)
      turn_free last e =
          record {
            within = omega arith;
            searched = λ times.
                (let t = offer_free (all.each r l) inside lasts last (sym gives ∙ e) times (λ m. w.begun.prepared.lasts_are (get_or next r 0) (omega arith) m times floors) in
                let same = row_now (items_of rows times fixed floors) next r l in
                search_free high c (rows_now (items_of rows times fixed floors) next) r best (there times) (s.searched times) (rw same t.0) (rw same t.1) last (rw same t.2));
          }

      pub turn_passed : o ≡ Passed → Searching high rows fixed floors next c best (r + 1) × AllShut high rows fixed floors next c (set shut r high)
      turn_passed e =
          let one = offer_passed (all.each r l) inside lasts (sym gives ∙ e) in
          (shut_here one inside, all_set next r high l (λ q h. refl) one all)

      pub turn_nothing : o ≡ Nothing → Searching high rows fixed floors next c best (r + 1)
      turn_nothing e = shut_here (all.each r l) (offer_nothing (all.each r l) inside lasts (sym gives ∙ e))

  step_of : (a : ℕ) → Chosen high rows fixed floors next c (some a) → (times : List ℕ) → Step (items_of rows times fixed floors) next work a c
  step_of a e times = step (items_of rows times fixed floors) (sorted_table rows times fixed floors w.begun.formed.ordered) next work w.next_long (w.lows times) high c a (e times)

  -- The chosen row is one of the four, and its next place is in the table.
  pub chosen_inside : (a : ℕ) → Chosen high rows fixed floors next c (some a) → (a < 4) × (get_or next a 0 < length rows)
  chosen_inside a e = ((step_of a e []).four, in_rows rows [] fixed floors (step_of a e []).inside)

  -- A column that takes row a's next item.
  pub column_taken : (a : ℕ) → c ≤ high → Chosen high rows fixed floors next c (some a)
      → Walking low high rows fixed floors lasts next₀ work₀ (set next a (get_or next a 0 + 1)) (set work (get_or next a 0) c) (left - 1) (c + 1)
  unfolding view
  column_taken a q e =
      record {
        begun = w.begun;
        above = omega (arith, w.above);
        within = omega arith;
        next_long = length-set next a (get_or next a 0 + 1) ∙ w.next_long;
        work_long = length-set work (get_or next a 0) c ∙ w.work_long;
        lows = λ times. (step_of a e times).lows;
        left_is = λ times. omega (arith, w.left_is times, (step_of a e times).fewer);
        same = λ times.
            (let s = view (items_of rows times fixed floors) next work in
            w.same times ∙ walk_more high c s q ∙ ap (λ (o : Option ℕ). walk high (suc high - (c + 1)) (c + 1) (place_in c o s)) (e times) ∙ ap (walk high (suc high - (c + 1)) (c + 1)) (step_of a e times).placed);
      }

  -- The columns up to d, to which no row gives anything.
  pub columns_empty : (d : ℕ) → c ≤ d → d ≤ high + 1 → ((times : List ℕ) (e r : ℕ) → c ≤ e → e < d → GivesNone e (row_of (rows_now (items_of rows times fixed floors) next) r)) → Walking low high rows fixed floors lasts next₀ work₀ next work left d
  unfolding view
  columns_empty d p q h =
      record {
        begun = w.begun;
        above = omega (arith, w.above);
        within = q;
        next_long = w.next_long;
        work_long = w.work_long;
        lows = w.lows;
        left_is = w.left_is;
        same = λ times. w.same times ∙ (rw there at (empty_columns high (d - c) c (view (items_of rows times fixed floors) next work) (omega arith) (λ e r m n. h times e r m (omega arith))));
      }
    where
      there : c + (d - c) ≡ d
      there = omega arith

  -- A column left empty.
  pub column_empty : c ≤ high → Chosen high rows fixed floors next c none → Walking low high rows fixed floors lasts next₀ work₀ next work left (c + 1)
  column_empty q e =
      columns_empty (c + 1) (omega arith) (omega arith) (λ times k r m n.
      (let same : k ≡ c = omega arith in
      let says : ChoiceSays high c (rows_now (items_of rows times fixed floors) next) none = rw (e times) at (choice_says high c (rows_now (items_of rows times fixed floors) next)) in
      rw same (says r)))

  -- A row that gave its item is shut until its next one may be taken.
  pub shut_taken : (a : ℕ) {shut : List ℕ} → Chosen high rows fixed floors next c (some a) → AllShut high rows fixed floors next c shut
      → AllShut high rows fixed floors (set next a (get_or next a 0 + 1)) c (set shut a (shut_until high rows fixed floors a (get_or next a 0 + 1)))
  shut_taken a {shut} e s =
      let (four, _) = chosen_inside a e in
      let after : ℕ = get_or next a 0 + 1 in
      let now : get_or (set next a after) a 0 ≡ after = get_or-set_same next a after 0 (omega (arith, w.next_long)) in
      all_set (set next a after) a (shut_until high rows fixed floors a after) four (λ q h. get_or-set_other next a q after 0 h)
      (rw now (shut_until_lem high rows fixed floors a after w.begun.formed.ordered (λ times. rw now at ((step_of a e times).lows a four)) c (omega (arith, w.above)))) s

  finished : (high < c) ⊎ (left ≡ 0) → (times : List ℕ) → walked low high (items_of rows times fixed floors) ≡ view (items_of rows times fixed floors) next work
  unfolding view
  finished (inl past) times = let z : suc high - c ≡ 0 = omega arith in w.same times ∙ (rw z)
  finished (inr none_left) times =
      let table = items_of rows times fixed floors in
      w.same times ∙ walk_idle high (suc high - c) c (view table next work) (sym (none_total (rows_now table next)) ∙ eq-eqb (total (rows_now table next)) 0 (sym (w.left_is times) ∙ none_left))

  -- The walk is over: past the last column, or with nothing left to place.
  pub walking_done : (high < c) ⊎ (left ≡ 0) → (outcome : Result Unit Refusal) → number outcome ≡ cond (eqb left 0) 0 24 → WalkGives low high rows fixed floors outcome work
  unfolding view
  walking_done e outcome is =
      record {
        number_is = λ times. is
            ∙ ap (λ (placed : Bool). cond placed 0 24)
            (ap (λ (n : ℕ). eqb n 0) (w.left_is times) ∙ none_total (rows_now (items_of rows times fixed floors) next) ∙ ap (λ (s : Walk). none_wait s.waiting) (sym (finished e times)));
        columns_are = λ times. ap (λ (n : ℕ). take n work) (sym (length_items rows times fixed floors)) ∙ ap (λ (s : Walk). s.columns) (sym (finished e times));
      }

-- The walk goes on at the next column: those before it stay empty.
pub goes_on_lem : {low high : ℕ} {rows fixed floors lasts next₀ work₀ next work shut : List ℕ} {left c d : ℕ} → Walking low high rows fixed floors lasts next₀ work₀ next work left (c + 1)
    → AllShut high rows fixed floors next c shut → NextColumn high shut c d → Walking low high rows fixed floors lasts next₀ work₀ next work left d × AllShut high rows fixed floors next d shut
goes_on_lem {c = c} {d} w s n = (columns_empty w d (omega (arith, n.past)) n.within (none_between (all_later (c + 1) (omega arith) s) n), all_later d (omega (arith, n.past)) s)

rows_begun : (table : List Item) (next : List ℕ) → ((r : ℕ) → r < 4 → row_from table r 0 ≡ row_from table r (get_or next r 0)) → rows_of table ≡ rows_now table next
unfolding rows_now rows_of row_from
rows_begun table next h = λ k. h 0 (omega arith) k ∷ h 1 (omega arith) k ∷ h 2 (omega arith) k ∷ h 3 (omega arith) k ∷ []

pub take-replicate : (n m x : ℕ) → n ≤ m → take n (replicate m x) ≡ replicate n x
take-replicate zero m x l = refl
take-replicate (suc n) zero x l = let no : ⊥ = omega arith in absurd no
take-replicate (suc n) (suc m) x l = ap (λ (xs : List ℕ). x ∷ xs) (take-replicate n m x (omega arith))

-- The walk begins.
pub walking_begun : (low high : ℕ) (rows fixed floors lasts next work : List ℕ) → Begun low high rows fixed floors lasts next work → Walking low high rows fixed floors lasts next work next work (length rows) (low + 1)
unfolding view walked begun
walking_begun low high rows fixed floors lasts next work a =
    record {
      begun = a;
      above = omega arith;
      within = omega (arith, a.formed.bounds);
      next_long = a.prepared.next_long;
      work_long = rw a.work_clear refl;
      lows = λ times r l. (a.prepared.begins r l times floors).low;
      left_is = λ times.
          sym (ap total (sym (rows_same times)) ∙ total_begun (items_of rows times fixed floors) (λ k l. rw (row_is rows times fixed floors k (in_rows rows times fixed floors l)) (a.formed.ordered.four k (in_rows rows times fixed floors l))) ∙ length_items rows times fixed floors);
      same = λ times. λ k. walk high (count k) (sym (add-one low) k) (record { waiting = rows_same times k; columns = clear times k });
    }
  where
    rows_same : (times : List ℕ) → rows_of (items_of rows times fixed floors) ≡ rows_now (items_of rows times fixed floors) next
    rows_same times = rows_begun (items_of rows times fixed floors) next (λ r l. (a.prepared.begins r l times floors).waits)

    count : high - low ≡ suc high - (low + 1)
    count = omega arith

    clear : (times : List ℕ) → replicate (length (items_of rows times fixed floors)) 0 ≡ take (length (items_of rows times fixed floors)) work
    clear times = rw (length_items, a.work_clear) (sym (take-replicate (length rows) most_items 0 a.formed.ordered.few))

-- The rows as they are shut at first.
pub shut_begun : {low high : ℕ} {rows fixed floors lasts next work shut : List ℕ} → Begun low high rows fixed floors lasts next work → ShutRows high rows fixed floors next row_count shut → AllShut high rows fixed floors next (low + 1) shut
shut_begun {low} {high} {rows} {fixed} {floors} {next = next} a s =
    record {
      long = s.long;
      each = λ r l. rw (s.until r l) (shut_until_lem high rows fixed floors r (get_or next r 0) a.formed.ordered (λ times. (a.prepared.begins r l times floors).low) (low + 1) (omega arith));
    }
