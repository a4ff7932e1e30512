-- A replaying node, and a kept answer, is what Recover would give exactly if it passes the test by its targets and its rows.
use Prim.Native.Nat.{ℕ, ◌<◌}
use mathlib.Core.Path.{◌≡◌, refl, sym, ap, ◌∙◌}
use mathlib.Core.Bool.{Bool, true, false, not, ◌&&◌, ◌||◌, and_assoc, true≢false}
use mathlib.Core.List.{List, [], ◌∷◌}
use mathlib.Core.Option.{Option, none, some}
use lib.ListN.{length}
use lib.Dec.{leb, ltb, eqb}
use Rattle.plan.specs.Plan.{Plan, channel_at, node_count, entering, leaving}
use Rattle.rules.specs.Lists.{is_empty, all_of}
use Rattle.rules.specs.Line.{target_limit, Target, Asked, Node, Lane, Line, node_at, lane_at, sender_of, with_node, with_lanes, fresh_lane}
use Rattle.rules.specs.Recover.{low_of, restored, targets_of, conflict, row_goal, row_complete, rows_complete, status_of, answer_of, recovered}
use Rattle.rules.specs.Replay.{is_held, replay_end, ended_if_complete}
use Rattle.rules.specs.Step.{is_nothing, replaying, recovered_line, recover_gives}
use Rattle.rules.specs.Damaged.{same_targets, same_answer, replays_as, replay_wrong, answers_as, answer_wrong}
use Rattle.rules.proofs.Lists.Members.{In}
use Rattle.rules.proofs.Line.LineLaws.{node_there, plan_kept}
use Rattle.rules.proofs.Line.LanesLaws.{lanes_node, lanes_plan}
use Rattle.rules.proofs.Invariant.Swept.{swept_enters}
use Rattle.rules.proofs.Line.Joins.{entering_in}
use Rattle.rules.proofs.Undamaged.Restored.{all_same}
use Rattle.items.specs.Items.{row_restored, replay_right, answer_right, kept_right}
use Rattle.items.proofs.Tests.{not_above}
use Rattle.items.proofs.Origins.{Formed}

end_lacks : (b : ℕ) (k : Line) → all_of (is_held (node_at k b).held) (node_at k b).targets ≡ false → replay_end b k ≡ none
unfolding replay_end
end_lacks b k e = rw (e, replay_end)

-- What Recover gives, by the targets.
module _ (l : Line) (n : ℕ) where
  too_many_lem : ltb target_limit (length (targets_of l n)) ≡ true → recover_gives l n ≡ none
  unfolding recover_gives
  too_many_lem m = rw (m, recover_gives)

  few_enough : ltb target_limit (length (targets_of l n)) ≡ false → recover_gives l n ≡ recovered_line n l
  unfolding recover_gives
  few_enough m = rw (m, recover_gives)

  clashing : conflict (targets_of l n) ≡ true → recovered_line n l ≡ none
  unfolding recovered_line
  clashing c = rw (c, recovered_line)

  no_targets : conflict (targets_of l n) ≡ false → targets_of l n ≡ [] → recovered_line n l ≡ some (recovered n l)
  unfolding recovered_line
  no_targets c e = rw (c, recovered_line, ap is_empty e, recovered_line)

  with_targets : (t : Target) (ts : List Target) → conflict (targets_of l n) ≡ false → targets_of l n ≡ t ∷ ts → recovered_line n l ≡ ended_if_complete n (recovered n l)
  unfolding recovered_line
  with_targets t ts c e = rw (c, recovered_line, ap is_empty e, recovered_line)

module _ (l : Line) (line : Formed l) (n : ℕ) (inside : n < node_count l.plan) where
  abbrev restored_node : Node
  restored_node = record { status = status_of (targets_of l n); crashed = true; time = low_of l n; log = []; held = []; targets = targets_of l n; asked = none }

  abbrev left : ℕ → Lane → Lane
  left c s = record { mark = s.taken; taken = s.taken; heard = s.heard; queue = s.queue; low = s.low }

  abbrev entered : ℕ → Lane → Lane
  entered c s = fresh_lane l.plan (channel_at l.plan c) (restored l n (channel_at l.plan c).sender)

  abbrev inner : Line
  inner = with_lanes left (leaving l.plan n) (with_node n restored_node l)

  -- The line that Recover makes: its plan, the node, and the entries of the channels that enter it.
  again-plan : (recovered n l).plan ≡ l.plan
  unfolding recovered
  again-plan = lanes_plan entered (entering l.plan n) inner ∙ lanes_plan left (leaving l.plan n) (with_node n restored_node l) ∙ plan_kept n restored_node l

  again-node : node_at (recovered n l) n ≡ restored_node
  unfolding recovered
  again-node =
      lanes_node entered (entering l.plan n) inner n ∙ lanes_node left (leaving l.plan n) (with_node n restored_node l) n
      ∙ node_there n restored_node l (rw line.nodes_long inside)

  again-taken : (c : ℕ) → In c (entering l.plan n) → (lane_at (recovered n l) c).taken ≡ restored l n (sender_of l c)
  unfolding recovered with_node fresh_lane
  again-taken c i = ap (λ (x : Lane). x.taken) (swept_enters entered left (with_node n restored_node l) n line.ordered line.lanes_long c (entering_in l.plan n c i))

  rows_restored : rows_complete (recovered n l) n ≡ all_of (row_restored l n) (entering l.plan n)
  unfolding rows_complete row_complete row_restored
  rows_restored =
      ap (λ (p : Plan). all_of (λ (c : ℕ). leb (row_goal (node_at (recovered n l) n).targets (channel_at p c).sender) (lane_at (recovered n l) c).taken) (entering p n)) again-plan
      ∙ all_same (λ (c : ℕ). leb (row_goal (node_at (recovered n l) n).targets (sender_of l c)) (lane_at (recovered n l) c).taken) (λ (c : ℕ). leb (row_goal (targets_of l n) (sender_of l c)) (restored l n (sender_of l c))) (entering l.plan n)
      (λ c i. rw (again-node, again-taken c i))

  -- Where its rows are complete at once, its targets are not held.
  module _ (t : Target) (ts : List Target) (some_targets : targets_of l n ≡ t ∷ ts) where
    no_end : replay_end n (recovered n l) ≡ none
    no_end = end_lacks n (recovered n l) (ap (λ (x : Node). all_of (is_held x.held) x.targets) again-node ∙ ap (all_of (is_held [])) some_targets)

    ended : (done : Bool) → rows_complete (recovered n l) n ≡ done
        → replays_as n (node_at l n) (ended_if_complete n (recovered n l)) ≡ (not done && eqb (node_at l n).time (low_of l n) && same_targets (node_at l n).targets (targets_of l n))
    unfolding ended_if_complete
    ended true q = rw (q, ended_if_complete, no_end)
    ended false q = rw (q, ended_if_complete, again-node, some_targets)

  up_again : targets_of l n ≡ [] → replays_as n (node_at l n) (some (recovered n l)) ≡ false
  up_again e = rw (again-node, e)

  gives : (many clash : Bool) (ts : List Target) → ltb target_limit (length (targets_of l n)) ≡ many → conflict (targets_of l n) ≡ clash → targets_of l n ≡ ts → replays_as n (node_at l n) (recover_gives l n) ≡ replay_right l n
  unfolding replay_right
  gives true clash ts m c e = ap (replays_as n (node_at l n)) (too_many_lem l n m) ∙ rw (not_above (length (targets_of l n)) target_limit, m)
  gives false true ts m c e = ap (replays_as n (node_at l n)) (few_enough l n m ∙ clashing l n c) ∙ rw (not_above (length (targets_of l n)) target_limit, m, c)
  gives false false [] m c e = ap (replays_as n (node_at l n)) (few_enough l n m ∙ no_targets l n c e) ∙ up_again e ∙ rw (not_above (length (targets_of l n)) target_limit, m, c, e)
  gives false false (t ∷ ts) m c e =
      ap (replays_as n (node_at l n)) (few_enough l n m ∙ with_targets l n t ts c e)
      ∙ ended t ts e (all_of (row_restored l n) (entering l.plan n)) rows_restored
      ∙ rw (not_above (length (targets_of l n)) target_limit, m, c, e)

  -- Whether Recover gives anything.
  nothing_ended : (t : Target) (ts : List Target) → targets_of l n ≡ t ∷ ts → (done : Bool) → rows_complete (recovered n l) n ≡ done → is_nothing (ended_if_complete n (recovered n l)) ≡ done
  unfolding ended_if_complete
  nothing_ended t ts e true q = rw (q, ended_if_complete, no_end t ts e)
  nothing_ended t ts e false q = rw (q, ended_if_complete)

  given : (many clash : Bool) (ts : List Target) → ltb target_limit (length (targets_of l n)) ≡ many → conflict (targets_of l n) ≡ clash → targets_of l n ≡ ts
      → not (is_nothing (recover_gives l n)) ≡ (leb (length (targets_of l n)) target_limit && not (not (is_empty (targets_of l n)) && (conflict (targets_of l n) || all_of (row_restored l n) (entering l.plan n))))
  given true clash ts m c e = ap (λ (o : Option Line). not (is_nothing o)) (too_many_lem l n m) ∙ rw (not_above (length (targets_of l n)) target_limit, m)
  given false true [] m c e = absurd (true≢false (sym c ∙ ap conflict e))
  given false true (t ∷ ts) m c e = ap (λ (o : Option Line). not (is_nothing o)) (few_enough l n m ∙ clashing l n c) ∙ rw (not_above (length (targets_of l n)) target_limit, m, c, e)
  given false false [] m c e = ap (λ (o : Option Line). not (is_nothing o)) (few_enough l n m ∙ no_targets l n c e) ∙ rw (not_above (length (targets_of l n)) target_limit, m, c, e)
  given false false (t ∷ ts) m c e =
      ap (λ (o : Option Line). not (is_nothing o)) (few_enough l n m ∙ with_targets l n t ts c e)
      ∙ ap not (nothing_ended t ts e (all_of (row_restored l n) (entering l.plan n)) rows_restored)
      ∙ rw (not_above (length (targets_of l n)) target_limit, m, c, e)

  pub answer_items : answer_wrong l n ≡ not (kept_right l n (node_at l n).asked)
  unfolding answer_wrong answer_right
  answer_items = ap not (one (node_at l n).asked)
    where
      one : (o : Option Asked) → answers_as l n o ≡ kept_right l n o
      one none = refl
      one (some a) =
          and_assoc (not (is_nothing (recover_gives l n))) (same_answer a (answer_of l n)) (same_targets (node_at l n).targets (targets_of l n))
          ∙ ap (λ (t : Bool). t && (same_answer a (answer_of l n) && same_targets (node_at l n).targets (targets_of l n))) (given (ltb target_limit (length (targets_of l n))) (conflict (targets_of l n)) (targets_of l n) refl refl refl)

  pub replay_items : replaying l n ≡ true → replay_wrong l n ≡ not (replay_right l n)
  unfolding replay_wrong
  replay_items e = rw (e, gives (ltb target_limit (length (targets_of l n))) (conflict (targets_of l n)) (targets_of l n) refl refl refl)
