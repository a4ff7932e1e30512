-- The log that a replay's end places, for any columns that keep the placing's rules: its entries are the held records at their columns, and its times rise between low and high.
use Prim.Native.Nat.{ℕ, suc, ◌<◌, ◌≤◌}
use mathlib.Core.Path.{◌≡◌, refl, ap, subst, ◌∙◌}
use mathlib.Core.Logic.{◌≢◌, ◌⊎◌, inl, inr}
use mathlib.Core.Bool.{Bool, true, false, not, ◌&&◌}
use mathlib.Core.List.{List, [], ◌∷◌, map}
use mathlib.Core.Option.{none, some}
use native.Mathlib.Omega.{arith}
use native.Mathlib.Decide.{dec_lt}
use lib.ListN.{length, get_or, length-append, length-map}
use lib.Dec.{leb, ltb}
use borrow.Author.Tests.{lt-ltb, le-ltb, leb-true}
use Rattle.basics.specs.Bools.{both_true}
use Rattle.placing.specs.Item.{Item}
use Rattle.placing.specs.Table.{most_items, table_fits, bounds_fit, items_fit}
use Rattle.placing.specs.Answer.{unplaceable, chosen_columns}
use Rattle.placing.specs.Rules.{KeepsRules}
use Rattle.placing.proofs.Promise.{accepted}
use Rattle.rules.specs.Lists.{joined}
use Rattle.plan.specs.declared.Record.{Record}
use Rattle.rules.specs.Line.{Entry, Held, Line}
use Rattle.rules.specs.Replay.{item_of, items_by_row, entry_at, add_entry, placed_log, placing}
use Rattle.rules.proofs.Lists.Rising.{Rises, none, more, Within}
use Rattle.rules.proofs.Lists.Members.{In, here, there, in_none, in_first, within_by}
use Rattle.rules.proofs.Lists.Options.{some_same, none_some}
use Rattle.rules.proofs.Undamaged.Standing.{entry_time}

add_in : (e : Entry) (es : List Entry) {d : Entry} → In d (add_entry e es) → (d ≡ e) ⊎ In d es
add_in e [] i = in_first i
add_in e (c ∷ cs) {d} i = one (ltb e.time c.time) (λ j. add_in e cs j) i
  where
    one : (t : Bool) → (In d (add_entry e cs) → (d ≡ e) ⊎ In d cs) → In d (elim t [ true ↦ e ∷ c ∷ cs | false ↦ c ∷ add_entry e cs ]) → (d ≡ e) ⊎ In d (c ∷ cs)
    one true ih j = in_first j
    one false ih j = elim (in_first j) [ inl q ↦ inr (rw q here) | inr k ↦ elim (ih k) [ inl q ↦ inl q | inr h ↦ inr (there h) ] ]

add_long : (e : Entry) (es : List Entry) → length (add_entry e es) ≡ suc (length es)
add_long e [] = refl
add_long e (c ∷ cs) = one (ltb e.time c.time) (add_long e cs)
  where
    one : (t : Bool) → length (add_entry e cs) ≡ suc (length cs) → length {A = Entry} (elim t [ true ↦ e ∷ c ∷ cs | false ↦ c ∷ add_entry e cs ]) ≡ suc (suc (length cs))
    one true ih = refl
    one false ih = ap suc ih

-- A time that no other entry has keeps the times rising.
rises_add : {a : ℕ} (e : Entry) {es : List Entry} → a < e.time → ((d : Entry) → In d es → e.time ≢ d.time) → Rises entry_time a es → Rises entry_time a (add_entry e es)
rises_add e l other none = more {x = e} l none
rises_add {a} e l other (more {x = d} {xs = ds} h r) =
    elim (dec_lt e.time d.time) [
      | yes u ↦ rw (lt-ltb e.time d.time u, add_entry) (more {x = e} l (more {x = d} u r))
      | no u ↦ rw (le-ltb e.time d.time (omega arith), add_entry) (more {x = d} h (rises_add e (omega (arith, other d here)) (λ c i. other c (there i)) r))
    ]

-- An entry of the placed log: its held record and its column.
pub record Placed (sets : Record → ℕ) (hs : List Held) (columns : List ℕ) (e : Entry) : Type 0 where
  pub held : Held
  pub place : ℕ
  pub among : In held hs
  pub in_table : place < length hs
  pub entry_is_lem : e ≡ entry_at sets (get_or columns place 0) held

pub placed_from : (sets : Record → ℕ) (hs : List Held) (columns : List ℕ) {e : Entry} → In e (placed_log sets hs columns) → Placed sets hs columns e
placed_from sets [] columns i = absurd (in_none i)
placed_from sets (h ∷ hs) [] i = absurd (in_none i)
placed_from sets (h ∷ hs) (t ∷ columns) {e} i = elim (add_in (entry_at sets t h) (placed_log sets hs columns) i) [ inl q ↦ first q | inr j ↦ later (placed_from sets hs columns j) ]
  where
    first : e ≡ entry_at sets t h → Placed sets (h ∷ hs) (t ∷ columns) e
    first q = record { held = h; place = 0; among = here; in_table = omega arith; entry_is_lem = q }

    later : Placed sets hs columns e → Placed sets (h ∷ hs) (t ∷ columns) e
    later x = record { held = x.held; place = suc x.place; among = there x.among; in_table = omega arith; entry_is_lem = x.entry_is_lem }

pub placed_long : (sets : Record → ℕ) (hs : List Held) (columns : List ℕ) → length (placed_log sets hs columns) ≤ length hs
placed_long sets [] columns = omega arith
placed_long sets (h ∷ hs) [] = omega arith
placed_long sets (h ∷ hs) (t ∷ columns) = let ih = placed_long sets hs columns in omega (arith, add_long (entry_at sets t h) (placed_log sets hs columns))

-- Distinct columns above low.
record Columns (low : ℕ) (hs : List Held) (columns : List ℕ) : Type 0 where
  above : (k : ℕ) → k < length hs → low < get_or columns k 0
  distinct : (j k : ℕ) → j < k → k < length hs → get_or columns j 0 ≢ get_or columns k 0

columns_rest : {low : ℕ} {h : Held} {hs : List Held} {t : ℕ} {columns : List ℕ} → Columns low (h ∷ hs) (t ∷ columns) → Columns low hs columns
columns_rest c = record { above = λ k l. c.above (suc k) (omega arith); distinct = λ j k l m. c.distinct (suc j) (suc k) (omega arith) (omega arith) }

rises_placed : (sets : Record → ℕ) (low : ℕ) (hs : List Held) (columns : List ℕ) → Columns low hs columns → Rises entry_time low (placed_log sets hs columns)
rises_placed sets low [] columns c = none
rises_placed sets low (h ∷ hs) [] c = none
rises_placed sets low (h ∷ hs) (t ∷ columns) c =
    rises_add (entry_at sets t h) (c.above 0 (omega arith))
    (λ d i q. (let x = placed_from sets hs columns i in c.distinct 0 (suc x.place) (omega arith) (omega arith) (q ∙ ap entry_time x.entry_is_lem)))
    (rises_placed sets low hs columns (columns_rest c))

-- The table has an item for each held record.
pub items_long : (l : Line) (b row : ℕ) (rows : List (List Held)) → length (items_by_row l b row rows) ≡ length (joined rows)
items_long l b row [] = refl
items_long l b row (hs ∷ rest) =
    let ih = items_long l b (suc row) rest in
    omega (arith, length-append (map (item_of l b row) hs) (items_by_row l b (suc row) rest), length-append hs (joined rest), length-map hs (item_of l b row))

few_items : (low high : ℕ) (table : List Item) → table_fits low high table ≡ true → length table ≤ most_items
unfolding table_fits
few_items low high table e =
    let few = leb (length table) most_items in
    leb-true (length table) most_items (both_true few (bounds_fit low high) (both_true (few && bounds_fit low high) (items_fit low high 0 0 table) e).0).0

-- The placing's promise: columns that it gives keep the rules, and there are few.
pub placing-keeps : (low high : ℕ) (table : List Item) (columns : List ℕ) → placing low high table ≡ some columns → KeepsRules low high table columns × (length table ≤ most_items)
unfolding placing
placing-keeps low high table columns = go (table_fits low high table) (unplaceable low high table) refl refl
  where
    go : (fits lacks : Bool) → table_fits low high table ≡ fits → unplaceable low high table ≡ lacks → (elim (fits && not lacks) [ true ↦ some (chosen_columns low high table) | false ↦ none ]) ≡ some columns → KeepsRules low high table columns × (length table ≤ most_items)
    go true false f u e = (subst (KeepsRules low high table) (some_same e) (accepted low high table f u), few_items low high table f)
    go true true f u e = none_some e
    go false lacks f u e = none_some e

pub record LogPlaced (low high : ℕ) (log : List Entry) : Type 0 where
  pub few : length log ≤ most_items
  pub rises : Rises entry_time low log
  pub within : Within entry_time high log

pub log_placed : (sets : Record → ℕ) (l : Line) (b : ℕ) (rows : List (List Held)) (low high : ℕ) (columns : List ℕ) → KeepsRules low high (items_by_row l b 0 rows) columns → length (items_by_row l b 0 rows) ≤ most_items → LogPlaced low high (placed_log sets (joined rows) columns)
log_placed sets l b rows low high columns keeps few_items =
    let long = items_long l b 0 rows in
    let hs = joined rows in
    record {
      few = omega (arith, few_items, placed_long sets hs columns);
      rises = rises_placed sets low hs columns (record { above = λ k h. (keeps.inside k (omega arith)).0; distinct = λ j k h i. keeps.distinct j k h (omega arith) });
      within = within_by entry_time (placed_log sets hs columns) (λ d i. (let x = placed_from sets hs columns i in let top = (keeps.inside x.place (omega (arith, x.in_table))).1 in rw x.entry_is_lem top));
    }
