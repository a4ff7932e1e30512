-- A replay whose rows are complete ends: its targets are held, and the old times are a placing, so the placing gives one.
use Prim.Native.Nat.{ℕ, ◌<◌, ◌≤◌}
use mathlib.Core.Path.{◌≡◌, refl, sym, subst}
use mathlib.Core.Bool.{Bool, true, false, not, ◌&&◌}
use mathlib.Core.List.{List}
use mathlib.Core.Option.{Option, none, some}
use native.Mathlib.Omega.{arith}
use lib.ListN.{length}
use lib.Dec.{eqb, ltb, leb}
use borrow.Author.Tests.{eq-eqb, lt-ltb, le-leb}
use Rattle.plan.specs.Plan.{channel_at, entering}
use Rattle.placing.specs.Item.{Item}
use Rattle.placing.specs.Table.{table_fits}
use Rattle.placing.specs.Answer.{unplaceable, chosen_columns}
use Rattle.placing.specs.Rules.{KeepsRules}
use Rattle.placing.proofs.Promise.{none_exists}
use Rattle.rules.specs.Lists.{joined}
use Rattle.rules.specs.Line.{accepted_steps, Message, Held, Target, replay, Line, node_at, lane_at, with_node, time_limit}
use Rattle.rules.specs.Recover.{high_of, row_goal, rows_complete}
use Rattle.rules.specs.Replay.{held_by_row, items_by_row, is_held, placing, node_placed, replay_end, ended_if_complete}
use Rattle.rules.specs.Plain.{Act, Receipt}
use Rattle.rules.proofs.Lists.Members.{In, in_keep, keep_in, in_map, in_greatest, all_by}
use Rattle.rules.proofs.Line.Joins.{in_entering, some_leaves}
use Rattle.rules.proofs.Histories.Ghost.{Ghost, put}
use Rattle.rules.proofs.Histories.Passing.{goes_on, held_of}
use Rattle.rules.proofs.Invariant.Inv.{Enters, Replays, target_from, Inv}
use Rattle.rules.proofs.Invariant.InvLaws.{past_base, took_enters, replay_marked, reached_goes}
use Rattle.rules.proofs.Invariant.MarkedLaws.{own, taken-put}
use Rattle.rules.proofs.Invariant.Limits.{Limits}
use Rattle.rules.proofs.Ending.Targets.{high_above}
use Rattle.rules.proofs.Ending.EndInv.{row_of, held_rows, row_complete_lem}
use Rattle.rules.proofs.Undamaged.TestLaws.{any_by}
use Rattle.rules.proofs.Restart.OldTimes.{old_times}
use Rattle.rules.proofs.Restart.TableFits.{table_fits_lem}

-- A well-formed table for which some columns keep the rules is given columns.
pub given_columns : (low high : ℕ) (table : List Item) (columns : List ℕ) → table_fits low high table ≡ true → KeepsRules low high table columns → placing low high table ≡ some (chosen_columns low high table)
unfolding placing
given_columns low high table columns fits keeps = rw (fits, placing) (one (unplaceable low high table) refl)
  where
    one : (t : Bool) → unplaceable low high table ≡ t → ◌≡◌ {A = Option (List ℕ)} (elim (not t) [ true ↦ some (chosen_columns low high table) | false ↦ none ]) (some (chosen_columns low high table))
    one false e = refl
    one true e = absurd ((none_exists low high table fits).0 e columns keeps)

module _ (l : Line) (g : Ghost) (cut base : ℕ → ℕ) (fed : List Act) (receipts : List Receipt) (crashes : List ℕ) (inv : Inv l g cut base fed receipts crashes) (n : ℕ) (replaying : (node_at l n).status ≡ replay) where
  marked : (node_at l n).crashed ≡ true
  marked = replay_marked inv.marks n replaying

  R : Replays l g cut base n
  R = inv.replays n replaying

  -- A row's goal is not below the input of any of its targets.
  pub goal_above : (b : ℕ) (m : Message) (t : ℕ) → In (target_from l.plan b m t) (node_at l n).targets → m.time ≤ row_goal (node_at l n).targets (channel_at l.plan b).sender
  goal_above b m t i = in_greatest (in_map (λ (u : Target). u.parent_time) (in_keep (λ (u : Target). eqb u.parent (channel_at l.plan b).sender) i (eq-eqb (channel_at l.plan b).sender (channel_at l.plan b).sender refl)))

  module _ (complete : rows_complete l n ≡ true) where
    target-held : (u : Target) → In u (node_at l n).targets → is_held (node_at l n).held u ≡ true
    target-held u i =
        let (b, m, t, e, is, late, reached) = R.target_from_lem u i in
        let h : Enters l.plan n b = took_enters (g n) b m t (own inv n marked) e in
        let A = (channel_at l.plan b).sender in
        let low = past_base R e (reached_goes reached) late in
        let high = goal_above b m t (subst (λ (x : Target). In x (node_at l n).targets) is i) in
        let puts = put l.plan g b in
        let mine : In m (row_of l g cut base fed receipts crashes inv n replaying b) =
        in_keep (goes_on l.plan n)
        (in_keep (λ (x : Message). ltb (base b) x.time)
        (in_keep (λ (x : Message). leb x.time (lane_at l b).taken) (taken-put inv n marked b m t h e) (le-leb m.time (lane_at l b).taken (omega (arith, high, row_complete_lem l g cut base fed receipts crashes inv n replaying complete b h)))) (lt-ltb (base b) m.time low)) (reached_goes reached) in
        let held : In (held_of l.plan n b m) (node_at l n).held =
        (keep_in (λ (x : Held). eqb x.sender A) (node_at l n).held
        (subst (λ (x : List Held). In (held_of l.plan n b m) x) (sym (held_rows l g cut base fed receipts crashes inv n replaying b (in_entering l.plan n b h.0 h.1))) (in_map (held_of l.plan n b) mine))).0 in
        subst (λ (x : Target). is_held (node_at l n).held x ≡ true) (sym is)
        (any_by (λ (x : Held). eqb x.sender A && eqb x.time m.time) held (rw (eq-eqb A A refl, eq-eqb m.time m.time refl)))

    module _ (limits : Limits 1 l) (steps : accepted_steps l < time_limit) (four : length (entering l.plan n) ≤ 4) where
      abbrev rows : List (List Held)
      rows = held_by_row (node_at l n).held l (entering l.plan n)

      replay_ends : (k : Line) × (replay_end n l ≡ some k)
      unfolding replay_end
      replay_ends =
          let low = (node_at l n).time in
          let high = high_of l n in
          let items = items_by_row l n 0 rows in
          let (c, out) = some_leaves l.plan n (inv.marks.between n marked).1 in
          let fits = table_fits_lem l g cut base fed receipts crashes inv n replaying limits steps four (omega (arith, R.low c out, high_above l n c out.0 out.1)) in
          let (columns, keeps) = old_times l g cut base fed receipts crashes inv n replaying in
          rw (all_by (is_held (node_at l n).held) (node_at l n).targets target-held, replay_end, given_columns low high items columns fits keeps, replay_end) (with_node n (node_placed l n (joined rows) (chosen_columns low high items)) l, refl)

  -- Complete or not, there is a line to go on with.
  pub goes_on_lem : Limits 1 l → accepted_steps l < time_limit → length (entering l.plan n) ≤ 4 → (k : Line) × (ended_if_complete n l ≡ some k)
  unfolding ended_if_complete
  goes_on_lem limits steps four = go (rows_complete l n) refl
    where
      go : (t : Bool) → rows_complete l n ≡ t → (k : Line) × (ended_if_complete n l ≡ some k)
      go true e = rw (e, ended_if_complete) (replay_ends e limits steps four)
      go false e = rw (e, ended_if_complete) (l, refl)
