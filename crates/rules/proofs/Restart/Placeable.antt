-- Items and columns given together keep the placing's rules where each keeps its own and each pair theirs.
use Prim.Native.Nat.{ℕ, zero, suc, ◌<◌, ◌≤◌}
use mathlib.Core.Path.{◌≡◌, refl, sym, ◌∙◌}
use mathlib.Core.Logic.{◌≢◌}
use mathlib.Core.Bool.{true}
use mathlib.Core.List.{List, [], ◌∷◌, map}
use native.Mathlib.Omega.{arith}
use lib.ListN.{length, get_or, length-map}
use Rattle.placing.specs.Item.{Item, item_at}
use Rattle.placing.specs.Table.{item_fits, comes_after, items_fit}
use Rattle.placing.specs.Rules.{KeepsRules}
use Rattle.rules.proofs.Lists.Members.{In, here, there}
use Rattle.rules.proofs.Lists.Linked.{Linked, more}

-- An item's column by itself, and that of a later item beside it.
abbrev pub Suits : ℕ → ℕ → Item → ℕ → Type 0
Suits low high x c = (low < c) × (c ≤ high) × (x.fixed ≢ 0 → c ≡ x.fixed) × (x.fixed ≡ 0 → x.floor < c)

abbrev pub Beside : Item → ℕ → Item → ℕ → Type 0
Beside x c y d = (c ≢ d) × (x.row ≡ y.row → c < d)

module _ {A : Type 0} (item : A → Item) (column : A → ℕ) where
  at_each : (P : Item → ℕ → Type 0) (zs : List A) → ((z : A) → In z zs → P (item z) (column z)) → (k : ℕ) → k < length (map item zs) → P (item_at (map item zs) k) (get_or (map column zs) k 0)
  at_each P [] f k h = let no : ⊥ = omega arith in absurd no
  at_each P (z ∷ zs) f zero h = f z here
  at_each P (z ∷ zs) f (suc k) h = at_each P zs (λ y i. f y (there i)) k (omega arith)

  at_pairs : (Q : Item → ℕ → Item → ℕ → Type 0) (zs : List A) → Linked (λ (y z : A). Q (item y) (column y) (item z) (column z)) zs → (j k : ℕ) → j < k → k < length (map item zs)
      → Q (item_at (map item zs) j) (get_or (map column zs) j 0) (item_at (map item zs) k) (get_or (map column zs) k 0)
  at_pairs Q [] n j k h i = let no : ⊥ = omega arith in absurd no
  at_pairs Q (z ∷ zs) (more f r) j zero h i = let no : ⊥ = omega arith in absurd no
  at_pairs Q (z ∷ zs) (more f r) zero (suc k) h i = at_each (Q (item z) (column z)) zs (λ y j. f y j) k (omega arith)
  at_pairs Q (z ∷ zs) (more f r) (suc j) (suc k) h i = at_pairs Q zs r j k (omega arith) (omega arith)

  pub keeps_by : (low high : ℕ) (zs : List A) → ((z : A) → In z zs → Suits low high (item z) (column z)) → Linked (λ (y z : A). Beside (item y) (column y) (item z) (column z)) zs → KeepsRules low high (map item zs) (map column zs)
  keeps_by low high zs each pairs =
      record {
        one_each = length-map zs column ∙ sym (length-map zs item);
        inside = λ k h. (let s = at_each (Suits low high) zs each k h in (s.0, s.1));
        distinct = λ j k h i. (at_pairs Beside zs pairs j k h i).0;
        rising = λ j k h i. (at_pairs Beside zs pairs j k h i).1;
        fixed = λ k h. (at_each (Suits low high) zs each k h).2;
        free = λ k h. (at_each (Suits low high) zs each k h).3;
      }

-- A table's order, by pairs.
module _ {A : Type 0} (item : A → Item) (low high : ℕ) where
  pub fits_by : (zs : List A) → ((z : A) → In z zs → item_fits low high (item z) ≡ true) → Linked (λ (y z : A). comes_after (item y).row (item y).time (item z).row (item z).time ≡ true) zs
      → (row time : ℕ) → ((z : A) → In z zs → comes_after row time (item z).row (item z).time ≡ true) → items_fit low high row time (map item zs) ≡ true
  fits_by [] each pairs row time first = refl
  fits_by (z ∷ zs) each (more f r) row time first = rw (each z here, first z here) (fits_by zs (λ y i. each y (there i)) r (item z).row (item z).time f)
