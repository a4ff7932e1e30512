-- How a replay goes on from a line in which it may end: as it was where a row is not complete, else with its held records at columns that keep the placing's rules, the chosen ones or others (2026-09).
use Prim.Native.Nat.{ℕ, ◌≤◌}
use mathlib.Core.Path.{◌≡◌, refl, sym, subst, ◌∙◌}
use mathlib.Core.Bool.{Bool, true, false, true≢false}
use mathlib.Core.List.{List}
use mathlib.Core.Option.{Option, none, some}
use lib.ListN.{length}
use Rattle.placing.specs.Table.{most_items}
use Rattle.placing.specs.Rules.{KeepsRules}
use Rattle.rules.specs.Lists.{all_of}
use Rattle.rules.specs.Line.{Line, node_at, with_node}
use Rattle.rules.specs.Recover.{high_of, rows_complete}
use Rattle.rules.specs.Replay.{table_of, is_held, placing, placed_at, replay_end, ended_if_complete}
use Rattle.rules.proofs.Lists.Options.{some_same, none_some}
use Rattle.rules.proofs.Undamaged.PlacedLog.{placing-keeps}

pub data EndsAs (n : ℕ) (l : Line) : Line → Type 0 where
  goes_on_lem : rows_complete l n ≡ false → EndsAs n l l
  ends_at : rows_complete l n ≡ true → all_of (is_held (node_at l n).held) (node_at l n).targets ≡ true → (columns : List ℕ) → KeepsRules (node_at l n).time (high_of l n) (table_of l n) columns → length (table_of l n) ≤ most_items → EndsAs n l (placed_at columns n l)

pub ends-beside : {n : ℕ} {l k : Line} → EndsAs n l k → (k.plan ≡ l.plan) × (k.steps ≡ l.steps)
unfolding with_node
ends-beside (goes_on_lem c) = (refl, refl)
ends-beside (ends_at c h columns keeps few) = (refl, refl)

-- Where it ends at some columns, it may end at others.
pub ends_with : {n : ℕ} {l k : Line} → EndsAs n l k → rows_complete l n ≡ true → (columns : List ℕ) → KeepsRules (node_at l n).time (high_of l n) (table_of l n) columns → EndsAs n l (placed_at columns n l)
ends_with (goes_on_lem c) complete columns keeps = absurd (true≢false (sym complete ∙ c))
ends_with (ends_at c h others kept few) complete columns keeps = ends_at c h columns keeps few

-- So it goes on in a step, at the chosen columns.
module _ (n : ℕ) (l k : Line) where
  placed_as : rows_complete l n ≡ true → replay_end n l ≡ some k → EndsAs n l k
  unfolding replay_end
  placed_as c = go (all_of (is_held (node_at l n).held) (node_at l n).targets) (placing (node_at l n).time (high_of l n) (table_of l n)) refl refl
    where
      go : (held : Bool) (chosen : Option (List ℕ)) → all_of (is_held (node_at l n).held) (node_at l n).targets ≡ held → placing (node_at l n).time (high_of l n) (table_of l n) ≡ chosen
          → (elim held [ false ↦ none | true ↦ elim chosen [ none ↦ none | some columns ↦ some (placed_at columns n l) ] ]) ≡ some k → EndsAs n l k
      go false chosen h p e = none_some e
      go true none h p e = none_some e
      go true (some columns) h p e = let (keeps, few) = placing-keeps (node_at l n).time (high_of l n) (table_of l n) columns p in subst (EndsAs n l) (some_same e) (ends_at c h columns keeps few)

  pub ended_as : ended_if_complete n l ≡ some k → EndsAs n l k
  unfolding ended_if_complete
  ended_as = go (rows_complete l n) refl placed_as
    where
      go : (complete : Bool) → rows_complete l n ≡ complete → (rows_complete l n ≡ true → replay_end n l ≡ some k → EndsAs n l k) → (elim complete [ true ↦ replay_end n l | false ↦ some l ]) ≡ some k → EndsAs n l k
      go true c f e = f c e
      go false c f e = subst (EndsAs n l) (some_same e) (goes_on_lem c)
