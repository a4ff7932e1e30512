-- A mark is right: yes exactly if the columns keep the placing rules, and a no names the first item that breaks one.
use Prim.Native.Nat.{ℕ, zero, suc, ◌+◌, ◌<◌, ◌≤◌}
use mathlib.Core.Path.{◌≡◌, refl, sym, ap, subst, ◌∙◌}
use mathlib.Core.Logic.{◌≢◌}
use mathlib.Core.Bool.{Bool, true, false, not, ◌&&◌, ◌||◌, true≢false}
use mathlib.Core.List.{List}
use mathlib.Core.Option.{Option, none, some, some-injective, none-ne-some}
use native.Mathlib.Omega.{arith}
use native.Mathlib.Decide.{ℕ_discrete}
use lib.ListN.{length, get_or, take}
use lib.Seq.{get_or-take, length-take-le, take_all}
use lib.Dec.{eqb, leb, ltb}
use borrow.Author.Tests.{eq-eqb, ne_eqb, le-ltb, leb-false, ltb-false, eqb-true, lt-leb}
use Rattle.basics.specs.Bools.{neither_true}
use Rattle.placing.specs.Item.{Item, items_of, item_at, no_item}
use Rattle.placing.specs.Table.{malformed, table_fits}
use Rattle.placing.specs.Rules.{KeepsRules}
use Rattle.marking.specs.declared.Mark.{Mark}
use Rattle.marking.specs.Mark.{breaks_alone, clash, clashes, breaks, first_broken, mark_by, mark_table, mark, mark_number, gets_yes}
use Rattle.marking.specs.Right.{FirstBroken, MarkRight, MarksRight, ChosenGetsYes, NoneGetsYes}
use Rattle.placing.specs.Answer.{columns_left}
use Rattle.placing.proofs.Promise.{promise}
use Rattle.placing.proofs.ItemsLaws.{length_items}
use Rattle.marking.proofs.MarkLaws.{marks_malformed, marks_length, marks_by}

-- What an item that breaks nothing by itself keeps, and the other way.
pub record Fine (low high fixed floor c : ℕ) : Type 0 where
  pub above : low < c
  pub within : c ≤ high
  pub in_place : fixed ≢ 0 → c ≡ fixed
  pub over : fixed ≡ 0 → floor < c

module _ (low high fixed floor c : ℕ) where
  alone_fine : breaks_alone low high fixed floor c ≡ false → Fine low high fixed floor c
  unfolding breaks_alone
  alone_fine e =
      let (rest, moved) = neither_true (leb c low || ltb high c || (eqb fixed 0 && leb c floor)) (not (eqb fixed 0) && not (eqb c fixed)) e in
      let (outside, under) = neither_true (leb c low || ltb high c) (eqb fixed 0 && leb c floor) rest in
      let (below, over) = neither_true (leb c low) (ltb high c) outside in
      record {
        above = leb-false c low below;
        within = ltb-false high c over;
        in_place = λ d. stays (eqb c fixed) refl (sym (ap (λ (t : Bool). not t && not (eqb c fixed)) (ne_eqb fixed 0 d)) ∙ moved);
        over = λ z. leb-false c floor (sym (ap (λ (t : Bool). t && leb c floor) (eq-eqb fixed 0 z)) ∙ under);
      }
    where
      stays : (t : Bool) → eqb c fixed ≡ t → not t ≡ false → c ≡ fixed
      stays true q z = eqb-true c fixed q
      stays false q z = absurd (true≢false z)

  fine_alone : Fine low high fixed floor c → breaks_alone low high fixed floor c ≡ false
  unfolding breaks_alone
  fine_alone f = rw (lt-leb c low f.above, le-ltb high c f.within) (elim (ℕ_discrete fixed 0) [
    | yes z ↦ rw (eq-eqb fixed 0 z, lt-leb c floor (f.over z))
    | no d ↦ rw (ne_eqb fixed 0 d, eq-eqb c fixed (f.in_place d))
  ])

-- Two items that break nothing together.
pub record Apart (itsRow its row c : ℕ) : Type 0 where
  pub other : its ≢ c
  pub rising : itsRow ≡ row → its < c

module _ (itsRow its row c : ℕ) where
  clash-apart : clash itsRow its row c ≡ false → Apart itsRow its row c
  clash-apart e =
      let (other, low) = neither_true (eqb its c) (eqb itsRow row && leb c its) e in
      record { other = λ z. true≢false (sym (eq-eqb its c z) ∙ other); rising = λ q. leb-false c its (sym (ap (λ (t : Bool). t && leb c its) (eq-eqb itsRow row q)) ∙ low) }

  apart-clash : Apart itsRow its row c → clash itsRow its row c ≡ false
  apart-clash a = rw (ne_eqb its c a.other) (elim (ℕ_discrete itsRow row) [
    | yes q ↦ rw (eq-eqb itsRow row q, lt-leb c its (a.rising q))
    | no d ↦ rw (ne_eqb itsRow row d)
  ])

module _ (low high : ℕ) (table : List Item) (columns : List ℕ) where
  -- Item k breaks nothing by itself or with an earlier one.
  pub record Good (k : ℕ) : Type 0 where
    pub fine : Fine low high (item_at table k).fixed (item_at table k).floor (get_or columns k 0)
    pub apart : (j : ℕ) → j < k → Apart (item_at table j).row (get_or columns j 0) (item_at table k).row (get_or columns k 0)

  none-clashes : (k m : ℕ) → clashes table columns k m ≡ false → (j : ℕ) → j < m → Apart (item_at table j).row (get_or columns j 0) (item_at table k).row (get_or columns k 0)
  none-clashes k zero e j h = let no : ⊥ = omega arith in absurd no
  none-clashes k (suc m) e j h =
      let (before, here) = neither_true (clashes table columns k m) (clash (item_at table m).row (get_or columns m 0) (item_at table k).row (get_or columns k 0)) e in
      elim (ℕ_discrete j m) [
        | yes q ↦ subst (λ (i : ℕ). Apart (item_at table i).row (get_or columns i 0) (item_at table k).row (get_or columns k 0)) (sym q) (clash-apart (item_at table m).row (get_or columns m 0) (item_at table k).row (get_or columns k 0) here)
        | no d ↦ none-clashes k m before j (omega arith)
      ]

  all_apart : (k m : ℕ) → ((j : ℕ) → j < m → Apart (item_at table j).row (get_or columns j 0) (item_at table k).row (get_or columns k 0)) → clashes table columns k m ≡ false
  all_apart k zero f = refl
  all_apart k (suc m) f = rw (all_apart k m (λ j h. f j (omega arith)), apart-clash (item_at table m).row (get_or columns m 0) (item_at table k).row (get_or columns k 0) (f m (omega arith)))

  breaks_good : (k : ℕ) → breaks low high table columns k ≡ false → Good k
  unfolding breaks
  breaks_good k e =
      let (alone, beside) = neither_true (breaks_alone low high (item_at table k).fixed (item_at table k).floor (get_or columns k 0)) (clashes table columns k k) e in
      record { fine = alone_fine low high (item_at table k).fixed (item_at table k).floor (get_or columns k 0) alone; apart = none-clashes k k beside }

  good_breaks : (k : ℕ) → Good k → breaks low high table columns k ≡ false
  unfolding breaks
  good_breaks k g = rw (fine_alone low high (item_at table k).fixed (item_at table k).floor (get_or columns k 0) g.fine, all_apart k k g.apart)

  -- The first i items and their columns keep the rules exactly if each is good.
  module _ (i : ℕ) (few : i ≤ length table) (long : length columns ≡ length table) where
    abbrev first : List Item
    first = take i table

    abbrev cs : List ℕ
    cs = take i columns

    first_long : length (take i table) ≡ i
    first_long = length-take-le i table few

    at : (k : ℕ) → k < i → item_at (take i table) k ≡ item_at table k
    at k h = get_or-take i table k no_item h

    column_at : (k : ℕ) → k < i → get_or (take i columns) k 0 ≡ get_or columns k 0
    column_at k h = get_or-take i columns k 0 h

    keeps_first : ((k : ℕ) → k < i → Good k) → KeepsRules low high (take i table) (take i columns)
    keeps_first f =
        record {
          one_each = length-take-le i columns (omega arith) ∙ sym first_long;
          inside = λ k h. (let l = below k h in rw (column_at k l) ((f k l).fine.above, (f k l).fine.within));
          distinct = λ j k o h. (let l = below k h in let m : j < i = omega arith in rw (column_at k l, column_at j m) ((f k l).apart j o).other);
          rising = λ j k o h q. (let l = below k h in let m : j < i = omega arith in rw (column_at k l, column_at j m) (((f k l).apart j o).rising (ap (λ (x : Item). x.row) (sym (at j m)) ∙ q ∙ ap (λ (x : Item). x.row) (at k l))));
          fixed = λ k h d. (let l = below k h in column_at k l ∙ (f k l).fine.in_place (λ z. d (ap (λ (x : Item). x.fixed) (at k l) ∙ z)) ∙ ap (λ (x : Item). x.fixed) (sym (at k l)));
          free = λ k h z. (let l = below k h in rw (column_at k l, at k l) ((f k l).fine.over (ap (λ (x : Item). x.fixed) (sym (at k l)) ∙ z)));
        }
      where
        below : (k : ℕ) → k < length (take i table) → k < i
        below k h = omega (arith, first_long)

    first_keeps : KeepsRules low high (take i table) (take i columns) → (k : ℕ) → k < i → Good k
    first_keeps r k h =
        let l : k < length (take i table) = omega (arith, first_long) in
        record {
          fine = record {
            above = rw (column_at k h) at (r.inside k l).0;
            within = rw (column_at k h) at (r.inside k l).1;
            in_place = λ d. sym (column_at k h) ∙ r.fixed k l (λ z. d (ap (λ (x : Item). x.fixed) (sym (at k h)) ∙ z)) ∙ ap (λ (x : Item). x.fixed) (at k h);
            over = λ z. rw (column_at k h, at k h) at (r.free k l (ap (λ (x : Item). x.fixed) (at k h) ∙ z));
          };
          apart = λ j o. (let m : j < i = omega arith in record {
            other = rw (column_at k h, column_at j m) at (r.distinct j k o l);
            rising = λ q. rw (column_at k h, column_at j m) at (r.rising j k o l (ap (λ (x : Item). x.row) (at j m) ∙ q ∙ ap (λ (x : Item). x.row) (sym (at k h))));
          });
        }

  -- The first broken item.
  first_none : (k n : ℕ) → first_broken low high table columns k n ≡ none → (j : ℕ) → k ≤ j → j < k + n → breaks low high table columns j ≡ false
  first_none k zero e j l h = let no : ⊥ = omega arith in absurd no
  first_none k (suc n) e j l h = go (breaks low high table columns k) refl e (λ z d. first_none (suc k) n z j (omega arith) (omega arith))
    where
      go : (t : Bool) → breaks low high table columns k ≡ t → ◌≡◌ {A = Option ℕ} (elim t [ true ↦ some k | false ↦ first_broken low high table columns (suc k) n ]) none
          → (first_broken low high table columns (suc k) n ≡ none → j ≢ k → breaks low high table columns j ≡ false) → breaks low high table columns j ≡ false
      go true q z f = absurd (none-ne-some k (sym z))
      go false q z f = elim (ℕ_discrete j k) [ yes s ↦ ap (breaks low high table columns) s ∙ q | no d ↦ f z d ]

  none_first : (k n : ℕ) → ((j : ℕ) → k ≤ j → j < k + n → breaks low high table columns j ≡ false) → first_broken low high table columns k n ≡ none
  none_first k zero f = refl
  none_first k (suc n) f = rw (f k (omega arith) (omega arith), first_broken) (none_first (suc k) n (λ j l h. f j (omega arith) (omega arith)))

  some_first : (k n i : ℕ) → k ≤ i → i < k + n → ((j : ℕ) → k ≤ j → j < i → breaks low high table columns j ≡ false) → breaks low high table columns i ≡ true → first_broken low high table columns k n ≡ some i
  some_first k zero i l h f b = let no : ⊥ = omega arith in absurd no
  some_first k (suc n) i l h f b = elim (ℕ_discrete i k) [
    | yes q ↦ rw (ap (breaks low high table columns) (sym q) ∙ b, first_broken, q)
    | no d ↦ rw (f k (omega arith) (omega arith), first_broken) (some_first (suc k) n i (omega arith) (omega arith) (λ j m o. f j (omega arith) o) b)
  ]

  pub record Breaks (k n i : ℕ) : Type 0 where
    pub from : k ≤ i
    pub inside : i < k + n
    pub before : (j : ℕ) → k ≤ j → j < i → breaks low high table columns j ≡ false
    pub here : breaks low high table columns i ≡ true

  first_some : (k n i : ℕ) → first_broken low high table columns k n ≡ some i → Breaks k n i
  first_some k zero i e = absurd (none-ne-some i e)
  first_some k (suc n) i e = go (breaks low high table columns k) refl e (λ z. first_some (suc k) n i z)
    where
      go : (t : Bool) → breaks low high table columns k ≡ t → ◌≡◌ {A = Option ℕ} (elim t [ true ↦ some k | false ↦ first_broken low high table columns (suc k) n ]) (some i)
          → (first_broken low high table columns (suc k) n ≡ some i → Breaks (suc k) n i) → Breaks k (suc n) i
      go true q z f = let s = some-injective k i z in record { from = omega arith; inside = omega arith; before = λ j l h. (let no : ⊥ = omega arith in absurd no); here = ap (breaks low high table columns) (sym s) ∙ q }
      go false q z f =
          let r = f z in
          record {
            from = omega (arith, r.from);
            inside = omega (arith, r.inside);
            before = λ j l h. elim (ℕ_discrete j k) [ yes s ↦ ap (breaks low high table columns) s ∙ q | no d ↦ r.before j (omega arith) h ];
            here = r.here;
          }

  -- Of a table with its columns.
  module _ (long : length columns ≡ length table) where
    pub none-keeps : first_broken low high table columns 0 (length table) ≡ none → KeepsRules low high table columns
    none-keeps e =
        rw (take_all (length table) table (omega arith), take_all (length table) columns (omega arith)) at
        (keeps_first (length table) (omega arith) long (λ k h. breaks_good k (first_none 0 (length table) e k (omega arith) (omega arith))))

    pub keeps-none : KeepsRules low high table columns → first_broken low high table columns 0 (length table) ≡ none
    keeps-none r =
        let whole : KeepsRules low high (take (length table) table) (take (length table) columns) = rw (take_all (length table) table (omega arith), take_all (length table) columns (omega arith)) r in
        none_first 0 (length table) (λ j l h. good_breaks j (first_keeps (length table) (omega arith) long whole j (omega arith)))

    pub some_broken : (i : ℕ) → first_broken low high table columns 0 (length table) ≡ some i → FirstBroken low high table columns i
    some_broken i e =
        let b = first_some 0 (length table) i e in
        let inside : i < length table = omega (arith, b.inside) in
        record {
          inside = inside;
          kept = keeps_first i (omega arith) long (λ k h. breaks_good k (b.before k (omega arith) h));
          broken = λ r. true≢false (sym b.here ∙ good_breaks i (first_keeps (suc i) (omega arith) long r i (omega arith)));
        }

    pub broken_some : (i : ℕ) → FirstBroken low high table columns i → first_broken low high table columns 0 (length table) ≡ some i
    broken_some i b =
        some_first 0 (length table) i (omega arith) (omega (arith, b.inside)) (λ j l h. good_breaks j (first_keeps i (omega (arith, b.inside)) long b.kept j h))
        (not_good (breaks low high table columns i) refl)
      where
        not_good : (t : Bool) → breaks low high table columns i ≡ t → t ≡ true
        not_good true q = refl
        not_good false q = absurd (b.broken (keeps_first (suc i) (omega (arith, b.inside)) long (λ k h. elim (ℕ_discrete k i) [
          | yes s ↦ subst Good (sym s) (breaks_good i q)
          | no d ↦ first_keeps i (omega (arith, b.inside)) long b.kept k (omega arith)
        ])))

module _ (low high : ℕ) (table : List Item) (columns : List ℕ) where
  -- Columns that get yes keep the rules.
  pub yes_keeps : gets_yes low high table columns ≡ true → KeepsRules low high table columns
  unfolding gets_yes mark_table
  yes_keeps = go (table_fits low high table) (eqb (length columns) (length table)) (first_broken low high table columns 0 (length table)) refl refl refl
    where
      go : (fits long : Bool) (o : Option ℕ) → table_fits low high table ≡ fits → eqb (length columns) (length table) ≡ long → first_broken low high table columns 0 (length table) ≡ o → gets_yes low high table columns ≡ true → KeepsRules low high table columns
      go false long o f l b e = absurd (true≢false (sym e ∙ rw (f, mark_table)))
      go true false o f l b e = absurd (true≢false (sym e ∙ rw (f, mark_table, l, mark_table)))
      go true true none f l b e = none-keeps low high table columns (eqb-true (length columns) (length table) l) b
      go true true (some k) f l b e = absurd (true≢false (sym e ∙ rw (f, mark_table, l, mark_table, b)))

module _ (low high : ℕ) (rows times fixed floors columns : List ℕ) where
  abbrev table : List Item
  table = items_of rows times fixed floors

  -- The first broken item, if any, is what the number tells.
  by_item : malformed low high rows times fixed floors ≡ false → length columns ≡ length rows → (o : Option ℕ) → first_broken low high (items_of rows times fixed floors) columns 0 (length (items_of rows times fixed floors)) ≡ o → MarkRight low high rows times fixed floors columns (mark_number (mark_by o))
  by_item e q none f =
      let long = q ∙ sym (length_items rows times fixed floors) in
      record {
        yes = (λ z. ((e, q), none-keeps low high table columns long f), λ h. refl);
        no = λ k. (λ z. (let no : ⊥ = omega arith in absurd no), λ h. absurd (none-ne-some k (sym f ∙ broken_some low high table columns long k h.1)));
        other_length = (λ z. (let no : ⊥ = omega arith in absurd no), λ h. absurd (h.1 q));
        no_table = (λ z. (let no : ⊥ = omega arith in absurd no), λ h. absurd (true≢false (sym h ∙ e)));
      }
  by_item e q (some i) f =
      let long = q ∙ sym (length_items rows times fixed floors) in
      record {
        yes = (λ z. (let no : ⊥ = omega arith in absurd no), λ h. absurd (none-ne-some i (sym (keeps-none low high table columns long h.1) ∙ f)));
        no = λ k. (λ z. ((e, q), subst (FirstBroken low high table columns) (omega arith) (some_broken low high table columns long i f)), λ h. ap (λ (n : ℕ). 256 + n) (some-injective i k (sym f ∙ broken_some low high table columns long k h.1)));
        other_length = (λ z. (let no : ⊥ = omega arith in absurd no), λ h. absurd (h.1 q));
        no_table = (λ z. (let no : ⊥ = omega arith in absurd no), λ h. absurd (true≢false (sym h ∙ e)));
      }

  by_length : malformed low high rows times fixed floors ≡ false → MarkRight low high rows times fixed floors columns (mark_number (mark low high rows times fixed floors columns))
  by_length e = elim (ℕ_discrete (length columns) (length rows)) [
    | yes q ↦
        (let o = first_broken low high table columns 0 (length table) in
        let is : mark low high rows times fixed floors columns ≡ mark_by o = marks_by low high rows times fixed floors columns e q ∙ ap (λ (n : ℕ). mark_by (first_broken low high table columns 0 n)) (sym (length_items rows times fixed floors)) in
        subst (λ (m : Mark). MarkRight low high rows times fixed floors columns (mark_number m)) (sym is) (by_item e q o refl))
    | no d ↦
        subst (λ (m : Mark). MarkRight low high rows times fixed floors columns (mark_number m)) (marks_length low high rows times fixed floors columns e d)
        (record {
          yes = (λ z. (let no : ⊥ = omega arith in absurd no), λ h. absurd (d h.0.1));
          no = λ k. (λ z. (let no : ⊥ = omega arith in absurd no), λ h. absurd (d h.0.1));
          other_length = (λ z. (e, d), λ h. refl);
          no_table = (λ z. (let no : ⊥ = omega arith in absurd no), λ h. absurd (true≢false (sym h ∙ e)));
        })
  ]

  by_table : (bad : Bool) → malformed low high rows times fixed floors ≡ bad → MarkRight low high rows times fixed floors columns (mark_number (mark low high rows times fixed floors columns))
  by_table false e = by_length e
  by_table true e =
      subst (λ (m : Mark). MarkRight low high rows times fixed floors columns (mark_number m)) (marks_malformed low high rows times fixed floors columns e)
      (record {
        yes = (λ z. (let no : ⊥ = omega arith in absurd no), λ h. absurd (true≢false (sym e ∙ h.0.0)));
        no = λ k. (λ z. (let no : ⊥ = omega arith in absurd no), λ h. absurd (true≢false (sym e ∙ h.0.0)));
        other_length = (λ z. (let no : ⊥ = omega arith in absurd no), λ h. absurd (true≢false (sym e ∙ h.0)));
        no_table = (λ z. e, λ h. refl);
      })

pub marks_right : MarksRight
marks_right low high rows times fixed floors columns = by_table low high rows times fixed floors columns (malformed low high rows times fixed floors) refl

pub chosen_gets_yes : ChosenGetsYes
chosen_gets_yes low high rows times fixed floors lent e =
    let p = promise low high rows times fixed floors lent in
    let keeps = (p.chosen e).1 in
    (marks_right low high rows times fixed floors (take (length rows) (columns_left low high rows times fixed floors lent))).yes.1 (((p.zero.0 e).0, keeps.one_each ∙ length_items rows times fixed floors), keeps)

pub none-gets_yes : NoneGetsYes
none-gets_yes low high rows times fixed floors lent columns e y =
    ((promise low high rows times fixed floors lent).none.0 e).2 columns ((marks_right low high rows times fixed floors columns).yes.0 y).1
