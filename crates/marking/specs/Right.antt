-- What a mark tells: yes exactly if the columns keep the placing rules, and a no names the first item that breaks one.
use Rattle.std.specs.Prelude.{ℕ, suc, ◌+◌, ◌<◌, ◌≡◌, ◌↔◌, ◌≢◌, true, false, List, length, take}
use Rattle.placing.specs.Item.{Item, items_of}
use Rattle.placing.specs.Table.{malformed}
use Rattle.placing.specs.Rules.{KeepsRules}
use Rattle.placing.specs.Answer.{answer, columns_left}
use Rattle.marking.specs.Mark.{mark, mark_number}

-- The rules hold of the first k items and their columns, and not of one more.
pub record FirstBroken (low high : ℕ) (table : List Item) (columns : List ℕ) (k : ℕ) : Type 0 where
  pub inside : k < length table
  pub kept : KeepsRules low high (take k table) (take k columns)
  pub broken : ¬ KeepsRules low high (take (suc k) table) (take (suc k) columns)

-- A well-formed table and a column for each of its items.
abbrev pub Markable : ℕ → ℕ → List ℕ → List ℕ → List ℕ → List ℕ → List ℕ → Type 0
Markable low high rows times fixed floors columns = (malformed low high rows times fixed floors ≡ false) × (length columns ≡ length rows)

-- What each number tells of what was marked.
pub record MarkRight (low high : ℕ) (rows times fixed floors columns : List ℕ) (number : ℕ) : Type 0 where
  -- "it says yes exactly if they keep the placing rules, whoever proposed them"
  pub yes : (number ≡ 0) ↔ (Markable low high rows times fixed floors columns × KeepsRules low high (items_of rows times fixed floors) columns)
  -- "A no gives the number, from 0, of the first item, in table order, that breaks a rule by itself or with an earlier item."
  pub no : (k : ℕ) → (number ≡ 256 + k) ↔ (Markable low high rows times fixed floors columns × FirstBroken low high (items_of rows times fixed floors) columns k)
  -- "It refuses with 28 a list whose length is not the table's, after 22."
  pub other_length : (number ≡ 28) ↔ ((malformed low high rows times fixed floors ≡ false) × (length columns ≢ length rows))
  pub no_table : (number ≡ 22) ↔ (malformed low high rows times fixed floors ≡ true)

abbrev pub MarksRight : Type 0
MarksRight = (low high : ℕ) (rows times fixed floors columns : List ℕ) → MarkRight low high rows times fixed floors columns (mark_number (mark low high rows times fixed floors columns))

-- "the engine's own choice always gets yes": what Placing has left of it where it answered 0.
abbrev pub ChosenGetsYes : Type 0
ChosenGetsYes = (low high : ℕ) (rows times fixed floors lent : List ℕ) → answer low high rows times fixed floors lent ≡ 0
    → mark_number (mark low high rows times fixed floors (take (length rows) (columns_left low high rows times fixed floors lent))) ≡ 0

-- Where it answered 24 no list of columns gets yes.
abbrev pub NoneGetsYes : Type 0
NoneGetsYes = (low high : ℕ) (rows times fixed floors lent columns : List ℕ) → answer low high rows times fixed floors lent ≡ 24 → mark_number (mark low high rows times fixed floors columns) ≢ 0
